-- **Definition**: what the laws say of tokens.
-- In the statements, s is a text, or what comes after the text u, and b is the byte after u.
use Rattle.std.specs.Prelude.{◌≡◌, ℕ, ◌≤◌, ◌<◌, ◌^◌, ◌↔◌, ◌⊎◌, false, IsTrue, List, [], ◌++◌, ◌∷◌, length, drop, map, codes, decimal}
use Rattle.pgn_lexer.specs.Tokens.{Kind, Token, asterisk, symbol, end, refused, EndsAt}
use Rattle.pgn_lexer.specs.WhiteSpace.{white_space}
use Rattle.pgn_lexer.specs.TokensOf.{tokens_of}
use Rattle.pgn_lexer.specs.Lexes.{Lexes}
use Rattle.pgn_lexer.specs.Decided.{decided, known}
use Rattle.pgn_lexer.specs.Sound.{IsSymbol, AreSoundTokens}
use Rattle.pgn_lexer.specs.Written.{Piece, text_of_pieces, kinds_in, tokens_at, IsReadable}
use Rattle.pgn_lexer.specs.Bytes.{is_digit}
use Rattle.std.specs.List.{list_all}

-- ys begins with xs
abbrev pub IsPrefix : List Token → List Token → Type 0
IsPrefix xs ys = (zs : List Token) × (ys ≡ xs ++ zs)

-- Each text has exactly one list of tokens, and `tokens_of` computes it.
abbrev pub LexesOnce : Type 0
LexesOnce = (s : List ℕ) (ts : List Token) → Lexes s ts ↔ (ts ≡ tokens_of s)

-- the token is the end of the text or an error
abbrev pub IsLast : Kind → Type 0
IsLast end = Unit {0}
IsLast (refused r) = Unit {0}
IsLast _ = ⊥

-- The last token, and no other, is the end or an error. Places rise, except at the end of the text.
abbrev pub RisesTo : List Token → Type 0
RisesTo [] = ⊥
RisesTo (t ∷ []) = IsLast t.kind
RisesTo (t ∷ u ∷ ts) = (IsLast t.kind → ⊥) × ((t.at < u.at) ⊎ ((u.kind ≡ end) × (t.at ≤ u.at))) × RisesTo (u ∷ ts)

abbrev pub TokensRise : Type 0
TokensRise = (s : List ℕ) → RisesTo (tokens_of s)

-- No byte after a text changes what it decides.
abbrev pub DecidedIsPrefix : Type 0
DecidedIsPrefix = (u s : List ℕ) → IsPrefix (decided u) (tokens_of (u ++ s))

abbrev pub KnownIsPrefix : Type 0
KnownIsPrefix = (u s : List ℕ) (b : ℕ) → IsPrefix (known u b) (tokens_of (u ++ b ∷ s))

-- The tokens of each text are sound: each has the bytes of its kind, and a comment that opens
-- closes, unless the text is rejected.
abbrev pub TokensAreSound : Type 0
TokensAreSound = (s : List ℕ) → AreSoundTokens (tokens_of s)

-- The text begins with the bytes of a symbol, or with an asterisk.
abbrev pub BeginsWithToken : Kind → List ℕ → Type 0
BeginsWithToken asterisk s = (more : List ℕ) × (s ≡ codes "*" ++ more)
BeginsWithToken (symbol text) s = (more : List ℕ) × (s ≡ text ++ more)
BeginsWithToken _ s = Unit {0}

-- So does a text from the place of such a token on.
abbrev pub SymbolsStandInText : Type 0
SymbolsStandInText =
    (s : List ℕ) (given rest : List Token) (t : Token)
    → tokens_of s ≡ given ++ t ∷ rest → BeginsWithToken t.kind (drop t.at s)

-- If the text of pieces is readable, it is read back: its tokens are those of the pieces, each at
-- its place, and the end.
abbrev pub PiecesAreReadBack : Type 0
PiecesAreReadBack =
    (ps : List Piece) → IsReadable ps → tokens_of (text_of_pieces ps) ≡ tokens_at 0 ps

-- the same for the kinds in order, without their places
abbrev pub KindsAreReadBack : Type 0
KindsAreReadBack =
    (ps : List Piece) → IsReadable ps
    → map (λ t. t.kind) (tokens_of (text_of_pieces ps)) ≡ kinds_in ps ++ end ∷ []

-- A number in decimal is a symbol, and has digits alone.
abbrev pub NumbersAreSymbols : Type 0
NumbersAreSymbols =
    (n : ℕ) → n < 2 ^ 64 → IsSymbol (decimal n) × IsTrue (list_all is_digit (decimal n))

-- the kinds of token that a termination marker can have (PGN 8.2.6)
abbrev pub CanBeMarker : Kind → Type 0
CanBeMarker asterisk = Unit {0}
CanBeMarker (symbol text) = Unit {0}
CanBeMarker _ = ⊥

-- Behind such a token, the tokens are the same if all bytes up to its end are spaces.
abbrev pub TextsRestart : Type 0
TextsRestart =
    (u s : List ℕ) (given rest : List Token) (t : Token)
    → tokens_of (u ++ s) ≡ given ++ t ∷ rest → EndsAt t.kind t.at (length u) → CanBeMarker t.kind
    → rest ≡ tokens_of (white_space (length u) false ++ s)
