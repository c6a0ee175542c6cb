use Rattle.pgn_game.proofs.giving.CurrentFitsInMemory.{current_fits_reader}
use Rattle.pgn_game.proofs.current_game.CurrentGame.write_tags.Goals as goal

pub mode-requires : goal.mode-requires
mode-requires g c = search current_fits_reader

pub pairs-requires : goal.pairs-requires
pairs-requires g c = (search current_fits_reader, c.self.invariant.whole (c.if-is_none.ensures))

pub has_fen-requires : goal.has_fen-requires
has_fen-requires g c = search current_fits_reader
