use Rattle.pgn_game.proofs.stepping.StepsAtEnd.{sound_at_none}
use Rattle.pgn_game.proofs.converter.Converter.forget_game.Goals as goal

pub invariant_of-self : goal.invariant_of-self
invariant_of-self g c = sound_at_none _ _ _ _ _ _ c.self.invariant
