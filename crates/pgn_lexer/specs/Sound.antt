-- **Definition**: what the tokens of a text are made of, whatever the text is (PGN 5, 7, 8.2.4).
use Rattle.std.specs.Prelude.{ℕ, ◌<◌, ◌≤◌, IsTrue, Bool, true, false, not, List, [], ◌∷◌, length, map}
use Rattle.std.specs.List.{AllByRecursion, list_all}
use Rattle.pgn_lexer.specs.Bytes.{starts_symbol, continues_symbol, continues_word}
use Rattle.pgn_lexer.specs.Lexes.{is_barred}
use Rattle.pgn_lexer.specs.Tokens as tokens
use Rattle.pgn_lexer.specs.Tokens.{Kind, Token}

-- the first byte passes the test
abbrev pub begins_with : (ℕ → Bool) → List ℕ → Bool
begins_with p [] = false
begins_with p (b ∷ bs) = p b

-- A symbol begins with a letter or a digit, and has letters, digits and _ + # = : - / alone. It
-- has at most 255 bytes (PGN 7).
pub record IsSymbol (text : List ℕ) : Type 0 where
  pub begins : IsTrue (begins_with starts_symbol text)
  pub bytes : IsTrue (list_all continues_symbol text)
  pub fits : length text ≤ 255

-- The data of a string have no byte below 32 and no 127: no line end, no tabulator. There are at
-- most 255 (PGN 7).
pub record IsData (text : List ℕ) : Type 0 where
  pub bytes : IsTrue (list_all (λ b. not (is_barred b)) text)
  pub fits : length text ≤ 255

-- A word of a comment has no white space, no control byte and no closing brace. It has 1 to 79
-- bytes (PGN 5, 8.2.1).
pub record IsWord (text : List ℕ) : Type 0 where
  pub some : 0 < length text
  pub bytes : IsTrue (list_all continues_word text)
  pub fits : length text ≤ 79

-- what the text of a token is made of; a NAG is at most 255 (PGN 8.2.4)
abbrev pub IsSoundKind : Kind → Type 0
IsSoundKind (tokens.symbol text) = IsSymbol text
IsSoundKind (tokens.str text) = IsData text
IsSoundKind (tokens.glyph n) = n ≤ 255
IsSoundKind (tokens.word text) = IsWord text
IsSoundKind _ = Unit {0}

-- Comments open, have words alone, and close. Words and closing braces are nowhere else. Only an
-- error ends the tokens inside a comment (PGN 5). `is_inside` says whether a comment is open
-- before the tokens.
abbrev pub CommentsClose : (is_inside : Bool) → List Kind → Type 0
CommentsClose false [] = Unit {0}
CommentsClose true [] = ⊥
CommentsClose false (tokens.comment_open ∷ ks) = CommentsClose true ks
CommentsClose false (tokens.word text ∷ ks) = ⊥
CommentsClose false (tokens.comment_close ∷ ks) = ⊥
CommentsClose false (k ∷ ks) = CommentsClose false ks
CommentsClose true (tokens.word text ∷ ks) = CommentsClose true ks
CommentsClose true (tokens.comment_close ∷ ks) = CommentsClose false ks
CommentsClose true (tokens.refused r ∷ ks) = Unit {0}
CommentsClose true (k ∷ ks) = ⊥

-- the text of each token is sound, and comments open and close in order
pub record AreSoundTokens (ts : List Token) : Type 0 where
  pub texts : AllByRecursion (λ t. IsSoundKind t.kind) ts
  pub comments : CommentsClose false (map (λ t. t.kind) ts)
