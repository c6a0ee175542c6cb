-- The end of a text stands behind its last byte.
use Rattle.pgn_lexer.specs.TokensOf.{at_end, tokens_from}
use Rattle.pgn_game.proofs.Words.{Token, ◌≡◌, ℕ, ◌+◌, Bool, true, false, List, [], ◌∷◌, ◌++◌, length, suc, subst, arith, tokens_of, is_end, Found, gives, Within, begins, begins_after, begins_class, begins_first, column, onto, AllByRecursion, common_steps, rules}

-- nothing that begins at a byte is the end
abbrev FoundNoEnd : Found → Type 0
FoundNoEnd (gives k) = is_end k ≡ false
FoundNoEnd _ = Unit {0}

module _ (at : ℕ) (c : _) (b : ℕ) (bs : List ℕ) where
  class_no_end : FoundNoEnd (begins_class at c b bs)
  class_no_end = grind arith

  first_no_end : FoundNoEnd (begins_first at c b bs)
  first_no_end = grind (arith, class_no_end)

after_no_end : (at : ℕ) (goes : Bool) (c : _) (b : ℕ) (bs : List ℕ) → FoundNoEnd (begins_after goes at c b bs)
after_no_end at goes c b bs = grind (arith, class_no_end)

begins_no_end : (at : ℕ) (within : Within) (b : ℕ) (bs : List ℕ) → FoundNoEnd (begins at within b bs)
begins_no_end at within b bs = grind (arith, first_no_end, class_no_end, after_no_end)

-- tokens of which the end, where it is among them, stands at this place
abbrev EndAt : ℕ → List Token → Type 0
EndAt n ts = AllByRecursion (λ t. is_end t.kind ≡ true → t.at ≡ n) ts

onto_end_at : (n at : ℕ) (f : Found) (ts : List Token) → FoundNoEnd f → EndAt n ts → EndAt n (onto at f ts)
onto_end_at n at f ts h1 h2 = grind arith

end_at_end : (at : ℕ) (within : Within) → EndAt (at + 0) (at_end at within)
end_at_end at within = grind arith

from_end_at : (at : ℕ) (within : Within) (s : List ℕ) → EndAt (at + length s) (tokens_from at within s)
from_end_at at within [] = end_at_end at within
from_end_at at within (b ∷ bs) =
    onto_end_at _ at (begins at within b bs) _ (begins_no_end at within b bs)
    (rw (sum at (length bs)) (from_end_at (at + 1) _ bs))
  where
    sum : (m n : ℕ) → m + suc n ≡ m + 1 + n
    sum m n = omega arith

from_start : (s : List ℕ) → EndAt (length s) (tokens_from 0 column s)
from_start s = grind (arith, common_steps, from_end_at, column)

-- a byte order mark is counted
text_end_at : (s : List ℕ) → EndAt (length s) (tokens_of s)
text_end_at s = search (rules, from_end_at, from_start)

all_behind : (n : ℕ) (given : List Token) (t : Token) → EndAt n (given ++ t ∷ []) → is_end t.kind ≡ true → t.at ≡ n
all_behind n [] t all is = all.0 is
all_behind n (x ∷ xs) t all is = all_behind n xs t all.1 is

pub end_place : (u : List ℕ) (given : List Token) (t : Token) → tokens_of u ≡ given ++ t ∷ [] → is_end t.kind ≡ true → t.at ≡ length u
end_place u given t whole is = all_behind (length u) given t (subst (EndAt (length u)) whole (text_end_at u)) is
