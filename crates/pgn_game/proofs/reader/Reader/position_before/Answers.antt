use Rattle.pgn_game.proofs.ReaderLemmas.{text_fits}
use Rattle.pgn_game.proofs.Words.{IsSome, GameState, sym, subst}
use Rattle.pgn_game.proofs.reader.Reader.position_before.Goals as goal

pub before-requires : goal.before-requires
before-requires g c = (search text_fits, subst (λ (r : GameState). IsSome r.text.levels.current.before) (sym c.self.view_is) c.requires)
