-- **Definition**: the law that joins the grammar of games and the function that reads them.
use Rattle.std.specs.Prelude.{◌≡◌, ◌↔◌, ℕ, List, None}
use Rattle.pgn_lexer.specs.TokensOf.{tokens_of}
use Rattle.pgn_game.specs.games.Profile.{Profile}
use Rattle.pgn_game.specs.games.Game.{Game}
use Rattle.pgn_game.specs.games.Progress.{read}
use Rattle.pgn_game.specs.games.Spells.{Spells}

-- A text spells games exactly if none of its tokens is rejected, and then those that are read and
-- no others.
abbrev pub UniqueReading : Type 0
UniqueReading = (p : Profile) (s : List ℕ) (games : List Game)
    → Spells p (tokens_of s) games ↔ (((read p (tokens_of s)).fault ≡ None) × ((read p (tokens_of s)).progress.games ≡ games))
