use Rattle.pgn_game.proofs.ReaderLemmas.{no_name_held, tags_fit}
use Rattle.pgn_game.proofs.reader.Reader.pairs.Goals as goal

pub pairs-requires : goal.pairs-requires
pairs-requires g c = (search tags_fit, no_name_held g.row.T _ _ c.self.view_is c.requires c.self.invariant.0)
