use Rattle.pgn_game.proofs.stepping.StepsAtEnd.{sound_behind_fault}
use Rattle.pgn_game.proofs.converter.Converter.keep_failed_read.Goals as goal

pub invariant_of-self : goal.invariant_of-self
invariant_of-self g c = sound_behind_fault _ _ _ _ _ c.self.invariant.count
