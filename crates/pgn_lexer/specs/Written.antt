-- **Definition**: how tokens are written, and when that can be read back (PGN 3.2, 7, 8.2).
-- White space is between them.
use Rattle.std.specs.Prelude.{ℕ, ◌+◌, IsTrue, false, List, [], ◌∷◌, ◌++◌, length, codes, decimal, if◌then◌else◌}
use Rattle.std.specs.List.{AllByRecursion}
use Rattle.pgn_lexer.specs.Bytes.{is_space, is_digit, continues_symbol, continues_word}
use Rattle.pgn_lexer.specs.Lexes.{StopsAt, is_escaped}
use Rattle.pgn_lexer.specs.Sound.{IsSoundKind, CommentsClose}
use Rattle.pgn_lexer.specs.Tokens as tokens
use Rattle.pgn_lexer.specs.Tokens.{Kind, Token}

-- a datum of a string: a quote and a backslash have a backslash before them (PGN 7)
abbrev pub escape_of : ℕ → List ℕ
escape_of b = (if is_escaped b then codes "\\" ++ b ∷ [] else b ∷ [])

abbrev pub escaped : List ℕ → List ℕ
escaped [] = []
escaped (b ∷ bs) = escape_of b ++ escaped bs

-- The bytes of a token: a string between quotes, a NAG as $ and its number (PGN 8.2.4), a comment
-- in braces. The end and an error have none.
abbrev pub written : Kind → List ℕ
written tokens.left_bracket = codes "["
written tokens.right_bracket = codes "]"
written tokens.left_paren = codes "("
written tokens.right_paren = codes ")"
written tokens.period = codes "."
written tokens.asterisk = codes "*"
written (tokens.symbol text) = text
written (tokens.str text) = codes "\"" ++ escaped text ++ codes "\""
written (tokens.glyph n) = codes "$" ++ decimal n
written tokens.comment_open = codes "{"
written (tokens.word text) = text
written tokens.comment_close = codes "}"
written tokens.end = []
written (tokens.refused r) = []

-- what a text is made of: tokens, and single bytes of white space
pub data Piece : Type 0 where
  token : Kind → Piece
  space : ℕ → Piece

abbrev pub text_of_pieces : List Piece → List ℕ
text_of_pieces [] = []
text_of_pieces (token k ∷ ps) = written k ++ text_of_pieces ps
text_of_pieces (space b ∷ ps) = b ∷ text_of_pieces ps

abbrev pub kinds_in : List Piece → List Kind
kinds_in [] = []
kinds_in (token k ∷ ps) = k ∷ kinds_in ps
kinds_in (space b ∷ ps) = kinds_in ps

-- the tokens with their places, from a place on, and the end of the text
abbrev pub tokens_at : ℕ → List Piece → List Token
tokens_at at [] = record { at = at; kind = tokens.end } ∷ []
tokens_at at (token k ∷ ps) = record { at = at; kind = k } ∷ tokens_at (at + length (written k)) ps
tokens_at at (space b ∷ ps) = tokens_at (at + 1) ps

-- each token is sound, and neither the end nor an error; white space is white space
abbrev pub IsPiece : Piece → Type 0
IsPiece (token tokens.end) = ⊥
IsPiece (token (tokens.refused r)) = ⊥
IsPiece (token k) = IsSoundKind k
IsPiece (space b) = IsTrue (is_space b)

-- The text after a token does not continue it. Only symbols, NAGs and words need something after
-- them that ends them: white space, or another byte that they cannot have.
abbrev pub IsEndedBy : List ℕ → Kind → Type 0
IsEndedBy s (tokens.symbol text) = StopsAt continues_symbol s
IsEndedBy s (tokens.glyph n) = StopsAt is_digit s
IsEndedBy s (tokens.word text) = StopsAt continues_word s
IsEndedBy s _ = Unit {0}

-- each token is ended by the text after it
abbrev pub AreEnded : List Piece → Type 0
AreEnded [] = Unit {0}
AreEnded (token k ∷ ps) = IsEndedBy (text_of_pieces ps) k × AreEnded ps
AreEnded (space b ∷ ps) = AreEnded ps

-- The text of the pieces can be read back: each piece is sound, no token continues into the next
-- one, and each comment closes.
pub record IsReadable (ps : List Piece) : Type 0 where
  pub pieces : AllByRecursion IsPiece ps
  pub ended : AreEnded ps
  pub comments : CommentsClose false (kinds_in ps)
