use Rattle.pgn_game.proofs.Words.{ap, refl, san, ◌∙◌}
use Rattle.pgn_game.proofs.PlyAhead.{ply_next}
use Rattle.pgn_game.proofs.line_of_play.LineOfPlay.next.Goals as goal

pub returns-in-Ok-Some-clause-next : goal.returns-in-Ok-Some-clause-next
returns-in-Ok-Some-clause-next c =
    let found = c.in-Ok-Some.found in
    ply_next c.args.self.now c.play.new.self found
    (record { at = found.at; played = found.played; san = c.write_san-san.result })
    (rw c.in-Ok-Some.field-0-is at c.in-Ok-Some.ensures.next) refl refl
    (c.write_san-san.ensures.text ∙ ap (λ p. san p found.played.mv) c.position.ensures)
