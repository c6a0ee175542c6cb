use Rattle.pgn_game.proofs.ReaderLemmas.{no_name, tags_fit}
use Rattle.pgn_game.proofs.reader.Reader.lacks_fen.Goals as goal

pub value-requires : goal.value-requires
value-requires g c = (search tags_fit, no_name g.row.T _ _ c.self.view_is c.requires c.self.invariant.0)
