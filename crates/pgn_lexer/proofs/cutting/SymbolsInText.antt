-- The bytes of a symbol stand in the text at its place, and so does an asterisk.
use Rattle.pgn_lexer.proofs.Words.{◌≡◌, ℕ, ◌+◌, List, [], ◌∷◌, ◌++◌, length, drop, codes, refl, append_assoc, length-append, arith, AllByRecursion, drop-append_seam, SpellsToken, Where, Cuts, Lexes, BeginsWithToken, SymbolsStandInText, Kind, Token}
use Rattle.pgn_lexer.specs.Lexes as lexes
use Rattle.pgn_lexer.proofs.cutting.EachTextIsCut.{lexes_once}

spelled_begins : (run s : List ℕ) (k : Kind) → SpellsToken run s k → BeginsWithToken k (run ++ s)
spelled_begins run s k h1 = grind arith

-- so it is of each token of a whole text
abbrev AllStand : List ℕ → List Token → Type 0
AllStand whole ts = AllByRecursion (λ t. BeginsWithToken t.kind (drop t.at whole)) ts

-- behind these bytes, and behind a run of more of them
behind : (before run s : List ℕ) (ts : List Token) (at n : ℕ) → length before ≡ at → n ≡ at + length run
    → ((front : List ℕ) → length front ≡ n → AllStand (front ++ s) ts) → AllStand (before ++ (run ++ s)) ts
behind before run s ts at n is far all = rw (append_assoc _ run s) at (all (before ++ run) (omega (arith, length-append before run)))

here : (before s : List ℕ) (at : ℕ) (k : Kind) → length before ≡ at → BeginsWithToken k s → BeginsWithToken k (drop at (before ++ s))
here before s at k is begins = grind (arith, drop-append_seam)

cut_stands : (w : Where) (at : ℕ) (s : List ℕ) (ts : List Token) → Cuts w at s ts → (before : List ℕ) → length before ≡ at
    → AllStand (before ++ s) ts
cut_stands _ _ _ _ (lexes.space first at b s ts e more) before is = behind before (b ∷ []) s ts at _ is refl (cut_stands _ _ _ _ more)
cut_stands _ _ _ _ (lexes.escape_line at run s ts long more) before is =
    behind before (codes "%" ++ run) s ts at _ is (omega arith) (cut_stands _ _ _ _ more)
cut_stands _ _ _ _ (lexes.token first at run s k ts spelled more) before is =
    (here before (run ++ s) at k is (spelled_begins run s k spelled), behind before run s ts at _ is refl (cut_stands _ _ _ _ more))
cut_stands _ _ _ _ (lexes.opens_brace first at s ts more) before is = (tt, behind before (codes "{") s ts at _ is refl (cut_stands _ _ _ _ more))
cut_stands _ _ _ _ (lexes.opens_line first at s ts more) before is = (tt, behind before (codes ";") s ts at _ is refl (cut_stands _ _ _ _ more))
cut_stands _ _ _ _ (lexes.between_words braces at b s ts e other more) before is =
    behind before (b ∷ []) s ts at _ is refl (cut_stands _ _ _ _ more)
cut_stands _ _ _ _ (lexes.word braces at b run s ts e long fits more) before is =
    (tt, behind before (b ∷ run) s ts at _ is (omega arith) (cut_stands _ _ _ _ more))
cut_stands _ _ _ _ (lexes.closes_brace at s ts more) before is = (tt, behind before (codes "}") s ts at _ is refl (cut_stands _ _ _ _ more))
cut_stands _ _ _ _ (lexes.closes_line at b s ts e more) before is = (tt, behind before (b ∷ []) s ts at _ is refl (cut_stands _ _ _ _ more))
cut_stands _ _ _ _ cut before is = omega arith

lexed_stands : (s : List ℕ) (ts : List Token) → Lexes s ts → AllStand s ts
lexed_stands _ _ (lexes.marked s ts cut) = cut_stands _ _ _ _ cut (239 ∷ 187 ∷ 191 ∷ []) refl
lexed_stands _ _ (lexes.unmarked s ts bare cut) = cut_stands _ _ _ _ cut [] refl

one_of : (whole : List ℕ) (given rest : List Token) (t : Token) → AllStand whole (given ++ t ∷ rest)
    → BeginsWithToken t.kind (drop t.at whole)
one_of whole [] rest t all = all.0
one_of whole (x ∷ given) rest t all = one_of _ given _ t all.1

pub symbols_stand_in_text : SymbolsStandInText
symbols_stand_in_text s given rest t is = grind (arith, one_of, lexed_stands, lexes_once)
