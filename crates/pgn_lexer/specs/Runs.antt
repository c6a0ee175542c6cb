-- **Bookkeeping**: bytes at the front of a piece that are a whole token. The byte behind a run is
-- in the piece too, and does not continue it. Letters: n is the length of the run.
use Rattle.std.specs.Prelude.{◌≡◌, ℕ, ◌<◌, ◌≤◌, true, false, List, length, get_or, take}
use Rattle.pgn_lexer.specs.declared.class.Set.{Set}
use Rattle.pgn_lexer.specs.declared.class.Set.TheVariants as sets
use Rattle.pgn_lexer.specs.declared.partial_token.LexMode.{LexMode}
use Rattle.pgn_lexer.specs.declared.partial_token.LexMode.TheVariants.{LineStart, Outside, Comment}
use Rattle.pgn_lexer.specs.declared.partial_token.Text.{Text}
use Rattle.pgn_lexer.specs.Bytes.{continues_symbol, is_digit}
use Rattle.pgn_lexer.specs.Sets.{is_in}
use Rattle.pgn_lexer.specs.Texts.{bytes_of, longest_of, kind_of_text, mode_behind}
use Rattle.pgn_lexer.specs.Tokens.{Kind}
use Rattle.pgn_lexer.specs.PartialToken.{PartialToken, IsSound}
use Rattle.pgn_lexer.specs.RunResult.{IsOutside, RunsToToken}
use Rattle.pgn_lexer.specs.Standing.{Standing}

-- the bytes behind the first are in the set, as far as the byte n, which is not
pub record IsRunIn (set : Set) (longest : ℕ) (piece : List ℕ) (n : ℕ) : Type 0 where
  pub some : 0 < n
  pub few : n ≤ longest
  pub within : n < length piece
  pub all : (i : ℕ) → 0 < i → i < n → is_in set (get_or piece i 0) ≡ true
  pub ends : is_in set (get_or piece n 0) ≡ false

-- a text of this kind, if its first byte begins one, and what is behind it
pub record IsText (t : Text) (piece : List ℕ) (n : ℕ) (mode : LexMode) (kind : Kind) : Type 0 where
  pub run : IsRunIn (bytes_of t) (longest_of t) piece n
  pub behind : mode ≡ mode_behind t
  pub is : kind ≡ kind_of_text t (take n piece)

-- a symbol of digits
pub record IsNumberIn (piece : List ℕ) (n : ℕ) : Type 0 where
  pub first : is_digit (get_or piece 0 0) ≡ true
  pub run : IsRunIn sets.Digit 255 piece n
  pub ends : continues_symbol (get_or piece n 0) ≡ false

-- the piece begins with no period, and with no number that ends in it
pub record BeginsUnpassed (piece : List ℕ) : Type 0 where
  pub no_period : get_or piece 0 0 ≡ 46 → ⊥
  pub no_number : (n : ℕ) → IsNumberIn piece n → ⊥

-- between tokens, or between the words of a comment
abbrev pub IsBetween : LexMode → Type 0
IsBetween LineStart = Unit {0}
IsBetween Outside = Unit {0}
IsBetween (Comment close) = Unit {0}
IsBetween _ = ⊥

-- Wherever a lexer stands between tokens, the first n bytes of the piece are this token. It then is
-- in the mode, where the place and the text that it stores say nothing.
pub record IsWhole (piece : List ℕ) (n : ℕ) (mode : LexMode) (kind : Kind) : Type 0 where
  pub some : 0 < n
  pub within : n ≤ length piece
  pub between : IsBetween mode
  pub runs : (place : ℕ) (old : PartialToken) → IsSound place old → IsOutside old.mode → (at : ℕ) (text : List ℕ) → length text ≤ 255
      → RunsToToken place old piece (record { at = place; kind = kind }) (record { mode = mode; at = at; text = text }) n

-- a lexer that has used so many bytes, and holds this
abbrev pub standing_at : ℕ → PartialToken → Standing
standing_at place held = record { count = place; held = held }
