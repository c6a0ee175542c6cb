use Rattle.pgn_game.proofs.Words.{ap, ◌∙◌, GameState}
use Rattle.pgn_game.proofs.ReaderLemmas.{tags_fit}
use Rattle.pgn_game.proofs.reader.Reader.value.Goals as goal

pub pairs-requires : goal.pairs-requires
pairs-requires g c = (search tags_fit, rw (ap (λ (r : GameState). r.stage) c.self.view_is ∙ c.requires) at c.self.invariant.0)
