use Rattle.pgn_game.proofs.Words.{◌≡◌, ◌-◌, Movetext, Some, ap, get_or, length}
use Rattle.pgn_game.proofs.putting.CodeLevelsToStored.{current_at}
use Rattle.pgn_game.proofs.levels.Levels.current.Goals as goal

pub returns : goal.returns
returns g c =
    let at : get_or c.self.inside.levels.items (length c.self.inside.levels.items - 1) c.index-levels-levels.result ≡ Some c.in-Some.level = cc in
    current_at c.self.invariant (ap (λ (t : Movetext). t.levels) c.self.view_is) c.in-Some.level c.index-levels-levels.result at
