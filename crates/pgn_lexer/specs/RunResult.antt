-- **Bookkeeping**: what a run over a piece results in.
-- `place` is the number of bytes used before the piece, and `used` how many of its bytes were used.
-- Letters: s are any bytes that come after, t is a token, f a fault, h is what is held.
use Rattle.std.specs.Prelude.{◌≡◌, true, false, ℕ, ◌+◌, ◌*◌, ◌<◌, ◌≤◌, ◌⊎◌, List, [], ◌∷◌, ◌++◌, length, take, drop, Some}
use Rattle.pgn_lexer.specs.declared.token.LexFault.{LexFault}
use Rattle.pgn_lexer.specs.declared.partial_token.LexMode.{LexMode}
use Rattle.pgn_lexer.specs.declared.partial_token.LexMode.TheVariants.{LineStart, Outside}
use Rattle.pgn_lexer.specs.declared.partial_token.ByteResult.{ByteResult}
use Rattle.pgn_lexer.specs.declared.partial_token.ByteResult.TheVariants.{Used, Ends, EndsBefore, Fault}
use Rattle.pgn_lexer.specs.Tokens.{Token, HasLength, EndsAt, is_run}
use Rattle.pgn_lexer.specs.TokensOf.{Within, tokens_from}
use Rattle.pgn_lexer.specs.PartialToken.{PartialToken, tokens_to_come, token_of, refusal, IsSound, HasNotFailed, pending, fault_met}
use Rattle.pgn_lexer.specs.Standing.{fault_in_mode}

-- the whole piece was used, and no token ends in it
pub record RunsOut (place : ℕ) (old : PartialToken) (piece : List ℕ) (new : PartialToken) (used : ℕ) : Type 0 where
  pub all : used ≡ length piece
  pub fresh : HasNotFailed old.mode
  pub empty : length piece ≡ 0 → new ≡ old
  pub sound : IsSound (place + used) new
  pub not_failed : HasNotFailed new.mode
  pub comes : (s : List ℕ) → tokens_to_come place old (piece ++ s) ≡ tokens_to_come (place + used) new s

-- so many bytes of the piece were used, and no token ended in them
pub record StoodAt (place : ℕ) (old : PartialToken) (piece : List ℕ) (used : ℕ) : Type 0 where
  pub held : PartialToken
  pub sound : IsSound (place + used) held
  pub not_failed : HasNotFailed held.mode
  pub comes : (s : List ℕ) → tokens_to_come place old (take used piece ++ s) ≡ tokens_to_come (place + used) held s

-- a token that is no run ends with the last byte used
pub record EndsWithByte (place : ℕ) (old : PartialToken) (piece bytes : List ℕ) (t : Token) (new : PartialToken) (used : ℕ) : Type 0 where
  pub some : 0 < used
  pub closed : is_run t.kind ≡ false
  pub last : ℕ
  pub is_last : used ≡ last + 1
  pub stood : StoodAt place old piece last
  pub comes : (s : List ℕ) → tokens_to_come place old (bytes ++ s) ≡ t ∷ tokens_to_come (place + used) new s

-- a run ends before a byte that was not used, and the lexer then stands between tokens
pub record EndsBeforeByte (place : ℕ) (old : PartialToken) (piece bytes rest : List ℕ) (t : Token) (new : PartialToken) (used : ℕ) : Type 0 where
  pub runs : is_run t.kind ≡ true
  pub stood : StoodAt place old piece used
  pub byte : ℕ
  pub more : List ℕ
  pub next : rest ≡ byte ∷ more
  pub within : Within
  pub settled : (s : List ℕ) → tokens_to_come (place + used) new s ≡ tokens_from (place + used) within s
  pub comes : (s : List ℕ) → tokens_to_come place old (bytes ++ byte ∷ s) ≡ t ∷ tokens_to_come (place + used) new (byte ∷ s)
  pub at_end : tokens_to_come place old (bytes ++ []) ≡ t ∷ tokens_to_come (place + used) new []

pub record RunsToToken (place : ℕ) (old : PartialToken) (piece : List ℕ) (t : Token) (new : PartialToken) (used : ℕ) : Type 0 where
  pub within : used ≤ length piece
  pub some : 0 < length piece
  pub fresh : HasNotFailed old.mode
  pub sound : IsSound (place + used) new
  pub not_failed : HasNotFailed new.mode
  pub lengths : HasLength t.kind
  pub ends_at : EndsAt t.kind t.at (place + used)
  pub before : t.at < place + used
  pub advances : pending new < 2 * used + pending old
  pub ends : EndsWithByte place old piece (take used piece) t new used ⊎ EndsBeforeByte place old piece (take used piece) (drop used piece) t new used

pub record RunsToFault (place : ℕ) (old : PartialToken) (piece : List ℕ) (f : LexFault) (new : PartialToken) (used : ℕ) : Type 0 where
  pub within : used ≤ length piece
  pub sound : IsSound (place + used) new
  pub fails : fault_in_mode new.mode new.at ≡ Some f
  pub stays : (g : LexFault) → fault_in_mode old.mode old.at ≡ Some g → (used ≡ 0) × (f ≡ g) × (new ≡ old)
  pub some : HasNotFailed old.mode → 0 < length piece
  pub comes : (s : List ℕ) → tokens_to_come place old (take used piece ++ s) ≡ refusal f ∷ []

abbrev pub RunGives : ℕ → PartialToken → List ℕ → PartialToken → ℕ → ByteResult → Type 0
RunGives place old piece new used Used = RunsOut place old piece new used
RunGives place old piece new used (Ends form) = RunsToToken place old piece (token_of form new) new used
RunGives place old piece new used (EndsBefore form) = RunsToToken place old piece (token_of form new) new used
RunGives place old piece new used (Fault reason) = RunsToFault place old piece (fault_met reason new) new used

-- no token ended in the first i bytes of the piece, and h is held after them
pub record Ran (place : ℕ) (old : PartialToken) (piece : List ℕ) (h : PartialToken) (i : ℕ) : Type 0 where
  pub start : i ≡ 0 → h ≡ old
  pub sound : IsSound (place + i) h
  pub not_failed : HasNotFailed h.mode
  pub fresh : HasNotFailed old.mode
  pub comes : (s : List ℕ) → tokens_to_come place old (take i piece ++ s) ≡ tokens_to_come (place + i) h s

-- between tokens, and in no comment
abbrev pub IsOutside : LexMode → Type 0
IsOutside LineStart = Unit {0}
IsOutside Outside = Unit {0}
IsOutside _ = ⊥
