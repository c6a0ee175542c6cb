-- **Bookkeeping**: what a list or a split has read and written between two games.
use Rattle.std.specs.Prelude.{◌≡◌, ℕ, List, [], Option}
use Rattle.std.specs.Io.KnownBytes.{Appends, Consumes}
use Rattle.pgn_lexer.specs.Tokens.{Token}
use Rattle.pgn_game.specs.public.GamesCalls.{Games, HaveRead}
use Rattle.pgn_tool.specs.ListLines.{lines_of, list_profile}
use Rattle.pgn_tool.specs.Files.{FileStep, added, whole_files}
use Rattle.pgn_tool.specs.SplitGames.{texts_in, torn_text}

-- What was read of a source so far, and listed: the lines of the games that were read are written.
pub record ListedSoFar (left_old left_now : Option (List ℕ)) (games : Games) (before now : Option (List ℕ)) : Type 0 where
  pub bytes : List ℕ
  pub tokens : List Token
  pub consumed : Consumes left_old left_now bytes
  pub have_read : HaveRead list_profile left_now bytes games tokens
  pub written : Appends before now (lines_of tokens)

-- What was read of a source so far, and split: each game that was read has its file, and nothing is
-- written of another one.
pub record SplitSoFar (left_old left_now : Option (List ℕ)) (games : Games) (before now : Option (List FileStep)) : Type 0 where
  pub bytes : List ℕ
  pub tokens : List Token
  pub consumed : Consumes left_old left_now bytes
  pub have_read : HaveRead list_profile left_now bytes games tokens
  pub none_torn : torn_text tokens ≡ []
  pub files : now ≡ added before (whole_files 0 (texts_in tokens))
