use Rattle.pgn_game.proofs.Words.{Movetext, ap, arith}
use Rattle.pgn_game.proofs.putting.CodeLevelsToStored.{depth-held}
use Rattle.pgn_game.proofs.levels.Levels.depth.Goals as goal

pub returns : goal.returns
returns g c =
    let count = depth-held c.self.invariant (ap (λ (t : Movetext). t.levels) c.self.view_is) in
    let room = c.self.invariant.room in
    record { value = omega (arith, c.len.ensures.value); room = omega (arith, c.len.ensures.value) }
