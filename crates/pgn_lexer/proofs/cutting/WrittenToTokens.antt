-- Written tokens, read back.
use Rattle.pgn_lexer.proofs.Words.{◌≡◌, ℕ, ◌+◌, ◌≤◌, Bool, true, false, not, List, [], ◌∷◌, ◌++◌, length, refl, sym, ap, ◌∙◌, arith, ◌||◌, map, if◌then◌else◌, AllByRecursion, list_all, is_space, is_digit, continues_symbol, continues_word, PiecesAreReadBack, KindsAreReadBack, StopsAt, is_escaped, is_barred, Data, SpellsToken, Where, Cuts, Lexes, IsSymbol, IsWord, CommentsClose, Kind, Token, has_mark, written, Piece, token, space, text_of_pieces, kinds_in, tokens_at, IsPiece, IsEndedBy, AreEnded, IsReadable, and_parts}
use Rattle.pgn_lexer.specs.Lexes as lexes
use Rattle.pgn_lexer.specs.Written.{escaped}
use Rattle.pgn_lexer.proofs.cutting.EachTextIsCut.{lexes_once}
use Rattle.pgn_lexer.proofs.bytes.DecimalsAreSymbols.{IsNumber, number_written}

plain_from : (x y : Bool) → not x ≡ true → y ≡ false → not (x || y) ≡ true
plain_from x y h1 h2 = grind arith

escaped_data : (text s : List ℕ) → list_all (λ b. not (is_barred b)) text ≡ true → Data (escaped text) text s
escaped_data [] s all = lexes.no_data s
escaped_data (b ∷ bs) s all = cases _ refl (escaped_data bs s (and_parts _ _ all).1)
  where
    cases : (e : Bool) → is_escaped b ≡ e → Data (escaped bs) bs s
        → Data ((if e then 92 ∷ b ∷ [] else b ∷ []) ++ escaped bs) (b ∷ bs) s
    cases true e more = lexes.escaped b _ bs s e more
    cases false e more = lexes.plain b _ bs s (plain_from _ _ (and_parts _ _ all).0 e) more

spelled_symbol : (text s : List ℕ) → IsSymbol text → StopsAt continues_symbol s → SpellsToken text s (Kind.symbol text)
spelled_symbol [] s h stop = cc h.begins
spelled_symbol (b ∷ bs) s h stop =
    let all = and_parts _ _ h.bytes in
    lexes.symbol b bs s h.begins (all.1, stop) h.fits

spelled_glyph : (n : ℕ) (ds s : List ℕ) → IsNumber n ds → n ≤ 255 → StopsAt is_digit s → SpellsToken (36 ∷ ds) s (Kind.glyph n)
spelled_glyph n [] s h fits stop = absurd (omega arith)
spelled_glyph n (d ∷ ds) s h fits stop =
    let all = and_parts _ _ h.digits in
    rw h.value at
    (lexes.glyph d ds s all.0 (all.1, stop) (omega arith))

abbrev IsOutside : Kind → Type 0
IsOutside Kind.comment_open = ⊥
IsOutside (Kind.word text) = ⊥
IsOutside Kind.comment_close = ⊥
IsOutside _ = Unit {0}

spelled : (k : Kind) (s : List ℕ) → IsOutside k → IsPiece (token k) → IsEndedBy s k → SpellsToken (written k) s k
spelled Kind.left_bracket s out h end = lexes.single 91 s _ lexes.left_bracket
spelled Kind.right_bracket s out h end = lexes.single 93 s _ lexes.right_bracket
spelled Kind.left_paren s out h end = lexes.single 40 s _ lexes.left_paren
spelled Kind.right_paren s out h end = lexes.single 41 s _ lexes.right_paren
spelled Kind.period s out h end = lexes.single 46 s _ lexes.period
spelled Kind.asterisk s out h end = lexes.single 42 s _ lexes.asterisk
spelled (Kind.symbol text) s out h end = spelled_symbol text s h end
spelled (Kind.str text) s out h end = lexes.string _ text s (escaped_data text _ h.bytes) h.fits
spelled (Kind.glyph n) s out h end = grind (arith, spelled_glyph, number_written)
spelled _ s out h end = absurd (omega arith)

word_cut : (at : ℕ) (text s : List ℕ) (ts : List Token) → IsWord text → StopsAt continues_word s
    → Cuts (lexes.comment true) (at + length text) s ts
    → Cuts (lexes.comment true) at (text ++ s) (record { at = at; kind = Kind.word text } ∷ ts)
word_cut at [] s ts h stop more = absurd (omega arith)
word_cut at (b ∷ bs) s ts h stop more =
    let all = and_parts _ _ h.bytes in
    let same : at + length (b ∷ bs) ≡ at + 1 + length bs = omega arith in
    lexes.word true at b bs s ts all.0 (all.1, stop) h.fits
    (rw same at more)

-- the pieces from a place on, which may be inside a comment, or in the first column
abbrev where_in : Bool → Bool → Where
where_in false first = lexes.outside first
where_in true first = lexes.comment true

abbrev CutsPieces : Bool → Bool → ℕ → List Piece → Type 0
CutsPieces inside first at ps = Cuts (where_in inside first) at (text_of_pieces ps) (tokens_at at ps)

cut_outside : (first : Bool) (at : ℕ) (k : Kind) (ps : List Piece) → IsOutside k → IsPiece (token k) → IsEndedBy (text_of_pieces ps) k
    → CutsPieces false false (at + length (written k)) ps → CutsPieces false first at (token k ∷ ps)
cut_outside first at k ps out h end more =
    lexes.token _ at _ _ k _
    (spelled k _ out h end) more

cut_pieces : (ps : List Piece) (inside first : Bool) (at : ℕ) → AllByRecursion IsPiece ps
    → AreEnded ps → CommentsClose inside (kinds_in ps) → CutsPieces inside first at ps
cut_pieces [] false first at all ended close = lexes.ends first at
cut_pieces [] true first at all ended close = absurd close
cut_pieces (space b ∷ ps) false first at all ended close =
    lexes.space first at b _ _ all.0
    (cut_pieces ps false _ _ all.1 ended close)
cut_pieces (space b ∷ ps) true first at all ended close =
    lexes.between_words true at b _ _ all.0 refl
    (cut_pieces ps true first _ all.1 ended close)
cut_pieces (token Kind.comment_open ∷ ps) false first at all ended close =
    lexes.opens_brace first at _ _ (cut_pieces ps true false _ all.1 ended.1 close)
cut_pieces (token (Kind.word text) ∷ ps) false first at all ended close = absurd close
cut_pieces (token Kind.comment_close ∷ ps) false first at all ended close = absurd close
cut_pieces (token Kind.end ∷ ps) false first at all ended close = absurd all.0
cut_pieces (token (Kind.refused r) ∷ ps) false first at all ended close = absurd all.0
cut_pieces (token k ∷ ps) false first at all ended close =
    cut_outside first at k ps tt all.0 ended.0 (cut_pieces ps false false _ all.1 ended.1 close)
cut_pieces (token (Kind.word text) ∷ ps) true first at all ended close =
    word_cut at text _ _ all.0 ended.0
    (cut_pieces ps true false _ all.1 ended.1 close)
cut_pieces (token Kind.comment_close ∷ ps) true first at all ended close =
    lexes.closes_brace at _ _ (cut_pieces ps false false _ all.1 ended.1 close)
cut_pieces (token (Kind.refused r) ∷ ps) true first at all ended close = absurd all.0
cut_pieces (token k ∷ ps) true first at all ended close = absurd close

-- Such a text begins with no byte order mark.
not_mark : (p : ℕ → Bool) (b : ℕ) (s : List ℕ) → p b ≡ true → p 239 ≡ false → has_mark (b ∷ s) ≡ false
not_mark p b s passes other = grind arith

symbol_no_mark : (text s : List ℕ) → IsSymbol text → has_mark (text ++ s) ≡ false
symbol_no_mark text s h1 = grind arith

no_mark : (ps : List Piece) → AllByRecursion IsPiece ps → CommentsClose false (kinds_in ps) → has_mark (text_of_pieces ps) ≡ false
no_mark [] all close = refl
no_mark (space b ∷ ps) all close = not_mark is_space b _ all.0 refl
no_mark (token (Kind.symbol text) ∷ ps) all close = symbol_no_mark _ _ all.0
no_mark (token k ∷ ps) all close = grind arith

lexed : (ps : List Piece) → IsReadable ps → Lexes (text_of_pieces ps) (tokens_at 0 ps)
lexed ps h =
    lexes.unmarked _ _ (no_mark ps h.pieces h.comments)
    (cut_pieces ps false true 0 h.pieces h.ended h.comments)

pub pieces_are_read_back : PiecesAreReadBack
pieces_are_read_back ps h = sym ((lexes_once _ _).0 (lexed ps h))

kinds_of : (at : ℕ) (ps : List Piece) → map (λ t. t.kind) (tokens_at at ps) ≡ kinds_in ps ++ Kind.end ∷ []
kinds_of at [] = refl
kinds_of at (token k ∷ ps) = ap (λ ks. k ∷ ks) (kinds_of _ ps)
kinds_of at (space b ∷ ps) = kinds_of (at + 1) ps

pub kinds_are_read_back : KindsAreReadBack
kinds_are_read_back ps h = ap (map _) (pieces_are_read_back ps h) ∙ kinds_of 0 ps
