use Rattle.pgn_game.proofs.Words.{Option, sym, ap, ◌∙◌, ok_or, with_next, Parts, IllegalMove}
use Rattle.pgn_game.proofs.find.find_move.Goals as goal

pub returns-in-Ok-clause-found : goal.returns-in-Ok-clause-found
returns-in-Ok-clause-found c =
    sym (ap (λ (o : Option Parts). ok_or (with_next c.in-Ok.mv o) IllegalMove) c.position_after-next.ensures) ∙ c.in-Ok.ensures.found
