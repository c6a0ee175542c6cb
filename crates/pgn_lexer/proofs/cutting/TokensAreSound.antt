-- What the tokens that the rules cut are made of.
use Rattle.pgn_lexer.proofs.Words.{◌≡◌, ℕ, ◌≤◌, Bool, true, false, not, List, ◌∷◌, refl, arith, ◌||◌, map, both_true, AllByRecursion, list_all, starts_symbol, continues_symbol, is_escaped, is_barred, Data, IsSingle, IsSuffix, SpellsToken, Where, Cuts, Lexes, TokensAreSound, IsSoundKind, CommentsClose, AreSoundTokens, Kind, Token, rules}
use Rattle.pgn_lexer.specs.Lexes as lexes
use Rattle.pgn_lexer.proofs.cutting.EachTextIsCut.{lexes_once}

pub start_continues : (b : ℕ) → starts_symbol b ≡ true → continues_symbol b ≡ true
start_continues b e = grind arith

-- a byte that stands for itself, or after a backslash, is no control byte
plain_passes : (x y : Bool) → not (x || y) ≡ true → not x ≡ true
plain_passes x y e = grind arith

escaped_passes : (b : ℕ) → is_escaped b ≡ true → not (is_barred b) ≡ true
escaped_passes b e = grind arith

data_pass : (raw text s : List ℕ) → Data raw text s → list_all (λ b. not (is_barred b)) text ≡ true
data_pass _ _ _ (lexes.no_data s) = refl
data_pass _ _ _ (lexes.plain b raw text s e more) = both_true (plain_passes _ _ e) (data_pass raw text s more)
data_pass _ _ _ (lexes.escaped b raw text s e more) = both_true (escaped_passes b e) (data_pass raw text s more)
data_pass _ _ _ (lexes.lone raw text s stop more) = both_true refl (data_pass raw text s more)

suffix_small : (run : List ℕ) (n : ℕ) → IsSuffix run n → n ≤ 255
suffix_small run n h1 = grind arith

single_sound : (b : ℕ) (k : Kind) → IsSingle b k → IsSoundKind k
single_sound b k h1 = grind arith

spelled_sound : (run s : List ℕ) (k : Kind) → SpellsToken run s k → IsSoundKind k
spelled_sound run s k h1 = search (rules, data_pass, suffix_small, single_sound)

spelled_outside : (run s : List ℕ) (k : Kind) (ks : List Kind) → SpellsToken run s k → CommentsClose false ks → CommentsClose false (k ∷ ks)
spelled_outside run s k ks h1 h2 = grind arith

abbrev is_inside : Where → Bool
is_inside (lexes.outside first) = false
is_inside (lexes.comment braces) = true

record SoundFrom (inside : Bool) (ts : List Token) : Type 0 where
  texts : AllByRecursion (λ t. IsSoundKind t.kind) ts
  comments : CommentsClose inside (map (λ t. t.kind) ts)

cut_sound : (w : Where) (at : ℕ) (s : List ℕ) (ts : List Token) → Cuts w at s ts → SoundFrom (is_inside w) ts
cut_sound _ _ _ _ (lexes.space first at b s ts e more) = cut_sound _ _ _ _ more
cut_sound _ _ _ _ (lexes.escape_line at run s ts long more) = cut_sound _ _ _ _ more
cut_sound _ _ _ _ (lexes.token first at run s k ts spelled more) = grind (arith, cut_sound _ _ _ _ more, spelled_sound, spelled_outside)
cut_sound _ _ _ _ (lexes.opens_brace first at s ts more) = grind (arith, cut_sound _ _ _ _ more)
cut_sound _ _ _ _ (lexes.opens_line first at s ts more) = grind (arith, cut_sound _ _ _ _ more)
cut_sound _ _ _ _ (lexes.between_words braces at b s ts e other more) = cut_sound _ _ _ _ more
cut_sound _ _ _ _ (lexes.word braces at b run s ts e long fits more) = grind (arith, cut_sound _ _ _ _ more, both_true)
cut_sound _ _ _ _ (lexes.closes_brace at s ts more) = grind (arith, cut_sound _ _ _ _ more)
cut_sound _ _ _ _ (lexes.closes_line at b s ts e more) = grind (arith, cut_sound _ _ _ _ more)
cut_sound _ _ _ _ cut = omega arith

lexed_sound : (s : List ℕ) (ts : List Token) → Lexes s ts → AreSoundTokens ts
lexed_sound s ts h1 = grind (arith, cut_sound)

pub tokens_are_sound : TokensAreSound
tokens_are_sound s = lexed_sound s _ ((lexes_once s _).1 refl)
