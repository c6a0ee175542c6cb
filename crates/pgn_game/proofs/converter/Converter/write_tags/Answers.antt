use Rattle.pgn_game.proofs.ReaderFitsInMemory.{fits_game}
use Rattle.pgn_game.proofs.converter.Converter.write_tags.Goals as goal

pub write_section-requires : goal.write_section-requires
write_section-requires g c = (search fits_game, c.self.invariant.between c.if-self.true)
