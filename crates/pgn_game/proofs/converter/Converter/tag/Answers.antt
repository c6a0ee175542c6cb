use Rattle.pgn_game.proofs.ReaderFitsInMemory.{fits_game}
use Rattle.pgn_game.proofs.converter.Converter.tag.Goals as goal

pub value-requires : goal.value-requires
value-requires g c = (search fits_game, c.self.invariant.between c.if-self.true)
