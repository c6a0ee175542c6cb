-- Worked rows of written tokens (PGN 3.2, 5, 7, 8.2): texts that are read back, and what goes wrong
-- where a premise is missing.
use Rattle.pgn_lexer.proofs.Words.{◌≡◌, ℕ, ◌^◌, ◌<◌, ◌≤◌, Bool, true, false, List, [], ◌∷◌, ◌++◌, length, map, refl, sym, ap, eq-eqb, arith, AllByRecursion, codes, decimal, ◌==◌, false≢true, PiecesAreReadBack, KindsAreReadBack, NumbersAreSymbols, IsSymbol, IsWord, CommentsClose, Kind, Token, left_bracket, right_bracket, left_paren, right_paren, period, asterisk, symbol, str, glyph, comment_open, word, comment_close, end, tokens_of, Piece, token, space, text_of_pieces, kinds_in, tokens_at, IsPiece, IsEndedBy, AreEnded, IsReadable}
use Rattle.std.specs.Fmt.{digits}
use Rattle.pgn_lexer.proofs.rows.CuttingRows.{t, ending}

abbrev sp : Piece
sp = space 32

abbrev lf : Piece
lf = space 10

abbrev IsReadBack : List Piece → Type 0
IsReadBack ps = tokens_of (text_of_pieces ps) ≡ tokens_at 0 ps

-- equal lists of tokens are equally long
as_long : (ts us : List Token) → ts ≡ us → (length ts == length us) ≡ true
as_long ts us e = eq-eqb (length ts) (length us) (ap length e)

-- ---- A tag pair, on its line: `[A "a\"\\"]`.

abbrev tag : List Piece
tag =
    token left_bracket ∷ token (symbol (codes "A")) ∷ sp ∷ token (str (codes "a\"\\"))
    ∷ token right_bracket ∷ lf ∷ []

tag_text : text_of_pieces tag ≡ codes "[A \"a\\\"\\\\\"]\n"
tag_text = refl

tag_readable : IsReadable tag
tag_readable = grind arith

tag_by_law : PiecesAreReadBack → tokens_of (codes "[A \"a\\\"\\\\\"]\n")
    ≡ t 0 left_bracket ∷ t 1 (symbol (codes "A")) ∷ t 3 (str (codes "a\"\\"))
    ∷ t 10 right_bracket ∷ ending 12
tag_by_law law = law tag tag_readable

-- ---- Movetext: numbers with their periods, a glyph, a comment, a variation, a marker.

abbrev movetext : List Piece
movetext =
    token (symbol (codes "1")) ∷ token period ∷ sp ∷ token (symbol (codes "e4")) ∷ sp
    ∷ token (glyph 10) ∷ lf ∷ token comment_open ∷ lf ∷ token (word (codes "%a;")) ∷ lf
    ∷ token comment_close ∷ sp ∷ token left_paren ∷ sp ∷ token (symbol (codes "1"))
    ∷ token period ∷ token period ∷ token period ∷ sp ∷ token (symbol (codes "e5"))
    ∷ token right_paren ∷ lf ∷ token (symbol (codes "1/2-1/2")) ∷ lf ∷ token asterisk ∷ lf ∷ []

movetext_text : text_of_pieces movetext ≡ codes "1. e4 $10\n{\n%a;\n} ( 1... e5)\n1/2-1/2\n*\n"
unfolding digits
movetext_text = refl

a_symbol : IsSymbol (codes "1") × IsSymbol (codes "e4") × IsSymbol (codes "e5") × IsSymbol (codes "1/2-1/2")
a_symbol = grind arith

a_word : IsWord (codes "%a;")
a_word = record { some = omega arith; bytes = refl; fits = omega arith }

movetext_readable : IsReadable movetext
unfolding digits
movetext_readable = grind arith

movetext_by_law : KindsAreReadBack → map (λ i. i.kind) (tokens_of (codes "1. e4 $10\n{\n%a;\n} ( 1... e5)\n1/2-1/2\n*\n"))
    ≡ symbol (codes "1") ∷ period ∷ symbol (codes "e4") ∷ glyph 10 ∷ comment_open
    ∷ word (codes "%a;") ∷ comment_close ∷ left_paren ∷ symbol (codes "1") ∷ period ∷ period
    ∷ period ∷ symbol (codes "e5") ∷ right_paren ∷ symbol (codes "1/2-1/2") ∷ asterisk ∷ end ∷ []
movetext_by_law law = grind arith

-- Nothing written is read back as the end alone, and white space before it changes its place.
nothing_by_law : PiecesAreReadBack → tokens_of [] ≡ ending 0
nothing_by_law law = law [] (omega arith)

white_space_by_law : PiecesAreReadBack → tokens_of (10 ∷ 13 ∷ 9 ∷ []) ≡ ending 3
white_space_by_law law = grind arith

-- ---- Sound tokens can be written, with a space after each. What tokens of a text are made of is
-- enough, if none of them is the end or a rejection.

abbrev spaced : List Kind → List Piece
spaced [] = []
spaced (k ∷ ks) = token k ∷ sp ∷ spaced ks

spaced_pieces : (ks : List Kind) → AllByRecursion (λ k. IsPiece (token k)) ks → AllByRecursion IsPiece (spaced ks)
spaced_pieces [] all = tt
spaced_pieces (k ∷ ks) all = (all.0, (refl, spaced_pieces ks all.1))

ended_by_space : (k : Kind) (s : List ℕ) → IsEndedBy (32 ∷ s) k
ended_by_space k s = grind arith

spaced_ended : (ks : List Kind) → AreEnded (spaced ks)
spaced_ended [] = tt
spaced_ended (k ∷ ks) = (ended_by_space k (text_of_pieces (spaced ks)), spaced_ended ks)

spaced_kinds : (ks : List Kind) → kinds_in (spaced ks) ≡ ks
spaced_kinds [] = refl
spaced_kinds (k ∷ ks) = ap (λ l. k ∷ l) (spaced_kinds ks)

sound_tokens_by_law : KindsAreReadBack → (ks : List Kind) → AllByRecursion (λ k. IsPiece (token k)) ks → CommentsClose false ks
    → map (λ i. i.kind) (tokens_of (text_of_pieces (spaced ks))) ≡ ks ++ end ∷ []
sound_tokens_by_law law ks all close = grind (arith, spaced_pieces, spaced_ended, spaced_kinds)

-- ---- Pieces that are not read back, each left out by a premise.

abbrev IsLeftOut : List Piece → Type 0
IsLeftOut ps = (IsReadBack ps → ⊥) × (IsReadable ps → ⊥)

abbrev joined_symbols : List Piece
joined_symbols = token (symbol (codes "1")) ∷ token (symbol (codes "e4")) ∷ []

-- a percent sign as white space: an escape line takes what is behind it
abbrev percent_space : List Piece
percent_space = space 37 ∷ token asterisk ∷ []

abbrev open_comment : List Piece
open_comment = token comment_open ∷ []

abbrev is_end : Kind → Bool
is_end end = true
is_end _ = false

abbrev last_is_end : List Token → Bool
last_is_end [] = false
last_is_end (i ∷ []) = is_end i.kind
last_is_end (i ∷ j ∷ is) = last_is_end (j ∷ is)

open_is_rejected : IsReadBack open_comment → ⊥
open_is_rejected e = false≢true (ap last_is_end e)

left_out : Unit {0}
unfolding digits
left_out =
    -- what is not ended goes on into the next token
    let symbols : IsLeftOut joined_symbols = (λ e. false≢true (as_long _ _ e), λ h. false≢true (sym h.ended.0)) in
    let digits : IsLeftOut (token (glyph 1) ∷ token (symbol (codes "0")) ∷ []) = (λ e. false≢true (as_long _ _ e), λ h. false≢true (sym h.ended.0)) in
    let words : IsLeftOut (token comment_open ∷ token (word (codes "a")) ∷ token (word (codes "b")) ∷ token comment_close ∷ [])
    = (λ e. false≢true (as_long _ _ e), λ h. false≢true (sym h.ended.1.0)) in
    let percent : IsLeftOut percent_space = (λ e. false≢true (as_long _ _ e), λ h. false≢true h.pieces.0) in
    -- a symbol with a space in it is two
    let spaced_symbol : IsLeftOut (token (symbol (codes "e4 e5")) ∷ []) = (λ e. false≢true (as_long _ _ e), λ h. false≢true h.pieces.0.bytes) in
    -- a glyph above 255 is rejected
    let large_glyph : IsLeftOut (token (glyph 256) ∷ []) = (λ e. false≢true (as_long _ _ e), λ h. let small : 256 ≤ 255 = h.pieces.0 in omega arith) in
    -- the end of the text is written with no byte, and there is one end
    let two_ends : IsLeftOut (token end ∷ []) = (λ e. false≢true (as_long _ _ e), λ h. h.pieces.0) in
    let open_brace : IsLeftOut open_comment = (open_is_rejected, λ h. h.comments) in
    -- a word that begins with a percent sign begins an escape line outside a comment
    let lone_word : IsLeftOut (token (word (codes "%a")) ∷ []) = (λ e. false≢true (as_long _ _ e), λ h. h.comments) in
    tt

-- ---- So the law is false without each of its premises.

fails_unless_ended : ((ps : List Piece) → AllByRecursion IsPiece ps → CommentsClose false (kinds_in ps) → IsReadBack ps) → ⊥
fails_unless_ended law = false≢true (as_long _ _ (law joined_symbols (a_symbol.0, (a_symbol.1, tt)) tt))

fails_unless_pieces : ((ps : List Piece) → AreEnded ps → CommentsClose false (kinds_in ps) → IsReadBack ps) → ⊥
fails_unless_pieces law = false≢true (as_long _ _ (law percent_space (tt, tt) tt))

fails_unless_closed : ((ps : List Piece) → AllByRecursion IsPiece ps → AreEnded ps → IsReadBack ps) → ⊥
fails_unless_closed law = open_is_rejected (law open_comment (tt, tt) (tt, tt))

-- ---- Numbers.

number_by_law : NumbersAreSymbols → IsSymbol (codes "120")
unfolding digits
number_by_law law = (law 120 (omega arith)).0

zero_by_law : NumbersAreSymbols → IsSymbol (codes "0")
unfolding digits
zero_by_law law = (law 0 (omega arith)).0

-- a text that no number has in decimal
abbrev IsOfNoNumber : List ℕ → Type 0
IsOfNoNumber s = (n : ℕ) → n < 2 ^ 64 → decimal n ≡ s → ⊥

no_byte : NumbersAreSymbols → IsOfNoNumber []
no_byte law n small e = grind arith

with_period : NumbersAreSymbols → IsOfNoNumber (codes "1.")
with_period law n small e = grind arith

a_marker : NumbersAreSymbols → IsOfNoNumber (codes "1-0")
a_marker law n small e = grind arith
