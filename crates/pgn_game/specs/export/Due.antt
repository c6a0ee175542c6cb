-- **Definition**: what tokens add to the output that must be written by now.
-- Letters: p is the profile, k the kind of a token, g a game. `before` and `after` are the bytes
-- that the sink has taken, before a call and after it, if it reports them.
use Rattle.std.specs.Prelude.{◌≡◌, ℕ, List, ◌++◌, length, drop, Option}
use Rattle.std.specs.Io.KnownBytes.{Appends}
use Rattle.pgn_lexer.specs.Tokens.{Kind, Token}
use Rattle.pgn_game.specs.games.Profile.{Profile}
use Rattle.pgn_game.specs.games.Game.{Part}
use Rattle.pgn_game.specs.export.Text.{game_text, torn}
use Rattle.pgn_game.specs.games.Progress.{Next, going, whole, next, due}

-- what is written of a game after a token: of the part that it leaves, or of the game that it
-- finishes
abbrev pub text_next : Profile → Next → List ℕ
text_next p (going part) = torn p part
text_next p (whole g) = game_text p g

-- What a token that is not rejected adds to what is written of its game. The text before it is a
-- prefix of the text after it.
abbrev pub gain : Profile → Part → Kind → List ℕ
gain p part k = drop (length (torn p part)) (text_next p (next part k))

-- What was appended is the output for the tokens `new` without that for `old`.
pub record Gains (p : Profile) (old new : List Token) (before after : Option (List ℕ)) : Type 0 where
  pub text : List ℕ
  pub due_for : due p new ≡ due p old ++ text
  pub appended : Appends before after text
