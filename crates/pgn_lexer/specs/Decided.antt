-- **Definition**: the tokens of a text that no byte after it changes.
-- In `decided` and `known`, u is the text so far, and b the byte after it.
use Rattle.std.specs.Prelude.{ℕ, Bool, true, false, ◌&&◌, List, [], ◌∷◌, ◌++◌, ◌==◌, nat_lt, length, bytes_eq, take_while, codes}
use Rattle.pgn_lexer.specs.declared.token.LexReason.{LexReason}
use Rattle.pgn_lexer.specs.declared.token.LexReason.TheVariants.{StrayByte, ControlByte, Reserved, SymbolTooLong, StringTooLong, WordTooLong, LoneDollar, GlyphRange, BadSuffix, BraceInLineComment, UnclosedString, UnclosedComment}
use Rattle.pgn_lexer.specs.Tokens.{Kind, Token, left_bracket, right_bracket, left_paren, right_paren, period, asterisk, symbol, str, glyph, comment_open, word, comment_close, end, refused}
use Rattle.pgn_lexer.specs.TokensOf.{tokens_of}

-- the number of an error in the fault table
abbrev pub number_of_reason : LexReason → ℕ
number_of_reason StrayByte = 1
number_of_reason ControlByte = 2
number_of_reason Reserved = 3
number_of_reason SymbolTooLong = 4
number_of_reason StringTooLong = 5
number_of_reason WordTooLong = 6
number_of_reason LoneDollar = 7
number_of_reason GlyphRange = 8
number_of_reason BadSuffix = 9
number_of_reason BraceInLineComment = 10
number_of_reason UnclosedString = 11
number_of_reason UnclosedComment = 12

abbrev pub same_reason : LexReason → LexReason → Bool
same_reason a b = number_of_reason a == number_of_reason b

abbrev pub same_kind : Kind → Kind → Bool
same_kind left_bracket left_bracket = true
same_kind right_bracket right_bracket = true
same_kind left_paren left_paren = true
same_kind right_paren right_paren = true
same_kind period period = true
same_kind asterisk asterisk = true
same_kind (symbol a) (symbol b) = bytes_eq a b
same_kind (str a) (str b) = bytes_eq a b
same_kind (glyph m) (glyph n) = m == n
same_kind comment_open comment_open = true
same_kind (word a) (word b) = bytes_eq a b
same_kind comment_close comment_close = true
same_kind end end = true
same_kind (refused a) (refused b) = same_reason a b
same_kind _ _ = false

abbrev pub same_token : Token → Token → Bool
same_token s t = (s.at == t.at) && same_kind s.kind t.kind

-- the longest common prefix of two lists of tokens
abbrev pub common : List Token → List Token → List Token
common [] us = []
common (t ∷ ts) [] = []
common (t ∷ ts) (u ∷ us) = elim (same_token t u) [ true ↦ t ∷ common ts us | false ↦ [] ]

-- The tokens that u decides. Six texts are compared: u itself, and u followed by `1`, by `!`, by
-- `""`, by the byte BF and by the bytes BB BF. The tokens of all six begin with these tokens.
abbrev pub decided : List ℕ → List Token
decided u =
    common (tokens_of u) (
    common (tokens_of (u ++ codes "1")) (
    common (tokens_of (u ++ codes "!")) (
    common (tokens_of (u ++ codes "\"\"")) (
    common (tokens_of (u ++ 191 ∷ [])) (tokens_of (u ++ 187 ∷ 191 ∷ []))))))

-- the tokens that u and the byte b after it decide, without those that begin at b or later
abbrev pub known : List ℕ → ℕ → List Token
known u b = take_while (λ t. nat_lt t.at (length u)) (decided (u ++ b ∷ []))
