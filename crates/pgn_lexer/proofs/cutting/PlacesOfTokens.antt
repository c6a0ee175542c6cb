-- Where tokens stand.
use Rattle.pgn_lexer.proofs.stepping.ByteInString.{read_plain, read_escaped}
use Rattle.pgn_lexer.proofs.Words.{◌≡◌, ℕ, ◌+◌, ◌<◌, ◌≤◌, Bool, true, false, cond, List, [], ◌∷◌, ◌++◌, refl, ap, ◌∙◌, arith, take_while, nat_lt, AllByRecursion, lt-ltb, Class, StringClass, Token, IsLast, RisesTo, TokensRise, Found, gives, stops, Reading, closed, broken, reading, Within, begins_class, begins_first, begins_after, begins, onto, at_end, tokens_from, take_while-cons, rules}

-- What begins at a place stands there or further on, and is a rejection or a token that is not the
-- last.
abbrev FoundFrom : ℕ → Found → Type 0
FoundFrom at Found.nothing = Unit {0}
FoundFrom at (gives k) = IsLast k → ⊥
FoundFrom at (stops place r) = at ≤ place

abbrev ReadingFrom : ℕ → Reading → Type 0
ReadingFrom at (closed text) = Unit {0}
ReadingFrom at (broken place r) = at ≤ place

module _ (start at n b : ℕ) (bs : List ℕ) (c : StringClass) where
  plain_from : start ≤ at → ReadingFrom start (reading start (at + 1) n true bs) → ReadingFrom start (reading start (at + 1) (n + 1) false bs)
      → ReadingFrom start (read_plain start at n b bs c)
  plain_from h1 h2 h3 = grind arith

  escaped_from : start ≤ at → ReadingFrom start (reading start (at + 1) (n + 1) false bs)
      → ReadingFrom start (reading start (at + 1) (n + 2) false bs) → ReadingFrom start (read_escaped start at n b bs c)
  escaped_from h1 h2 h3 = grind arith

reading_from : (start at n : ℕ) (e : Bool) (s : List ℕ) → start ≤ at → ReadingFrom start (reading start at n e s)
reading_from start at n false [] after = omega arith
reading_from start at n true [] after = omega arith
reading_from start at n false (b ∷ bs) after =
    search (rules, plain_from, (reading_from start (at + 1) n true bs (omega arith)), (reading_from start (at + 1) (n + 1) false bs (omega arith)))
reading_from start at n true (b ∷ bs) after =
    search (rules, escaped_from, (reading_from start (at + 1) (n + 1) false bs (omega arith)), (reading_from start (at + 1) (n + 2) false bs (omega arith)))

class_from : (at : ℕ) (c : Class) (b : ℕ) (bs : List ℕ) → FoundFrom at (begins_class at c b bs)
class_from at c b bs = grind (arith, reading_from)

first_from : (at : ℕ) (c : Class) (b : ℕ) (bs : List ℕ) → FoundFrom at (begins_first at c b bs)
first_from at Class.Percent b bs = tt
first_from at c b bs = class_from at c b bs

after_from : (at : ℕ) (goes : Bool) (c : Class) (b : ℕ) (bs : List ℕ) → FoundFrom at (begins_after goes at c b bs)
after_from at goes c b bs = grind (arith, class_from)

begins_from : (at : ℕ) (within : Within) (b : ℕ) (bs : List ℕ) → FoundFrom at (begins at within b bs)
begins_from at within b bs = grind (arith, first_from, class_from, after_from)

-- tokens that all stand at a place or further on
abbrev pub AllFrom : ℕ → List Token → Type 0
AllFrom at ts = AllByRecursion (λ t. at ≤ t.at) ts

all_from_less : (m n : ℕ) (ts : List Token) → m ≤ n → AllFrom n ts → AllFrom m ts
all_from_less m n [] less all = tt
all_from_less m n (t ∷ ts) less all = grind (arith, all_from_less m n ts)

onto_from : (at : ℕ) (f : Found) (ts : List Token) → FoundFrom at f → AllFrom (at + 1) ts → AllFrom at (onto at f ts)
onto_from at f ts h1 h2 = grind (arith, all_from_less)

end_from : (at : ℕ) (within : Within) → AllFrom at (at_end at within)
end_from at within = grind arith

pub tokens_from-from : (at : ℕ) (within : Within) (s : List ℕ) → AllFrom at (tokens_from at within s)
tokens_from-from at within [] = end_from at within
tokens_from-from at within (b ∷ bs) = onto_from at (begins at within b bs) _ (begins_from at within b bs) (tokens_from-from (at + 1) _ bs)

pub all_from-front : (n : ℕ) (xs zs : List Token) → AllFrom n (xs ++ zs) → AllFrom n xs
all_from-front n [] zs all = tt
all_from-front n (x ∷ xs) zs all = (all.0, all_from-front n xs zs all.1)

-- the tokens before a place, of those before it and those from it on
pub take_before : (n : ℕ) (given more : List Token) → AllByRecursion (λ t. t.at < n) given → AllFrom n more
    → take_while (λ t. nat_lt t.at n) (given ++ more) ≡ given
take_before n [] [] before from = refl
take_before n [] (t ∷ ts) before from = grind arith
take_before n (t ∷ given) more before from =
    take_while-cons (λ t. nat_lt t.at n) t (given ++ more)
    ∙ ap (λ c. cond c (t ∷ take_while (λ t. nat_lt t.at n) (given ++ more)) []) (lt-ltb _ _ before.0)
    ∙ ap (λ ts. t ∷ ts) (take_before n given more before.1 from)

onto_rises : (at : ℕ) (f : Found) (ts : List Token) → FoundFrom at f → AllFrom (at + 1) ts → RisesTo ts → RisesTo (onto at f ts)
onto_rises at f ts h1 h2 h3 = grind arith

end_rises : (at : ℕ) (within : Within) → RisesTo (at_end at within)
end_rises at within = grind arith

tokens_from-rises : (at : ℕ) (within : Within) (s : List ℕ) → RisesTo (tokens_from at within s)
tokens_from-rises at within [] = end_rises at within
tokens_from-rises at within (b ∷ bs) =
    onto_rises at (begins at within b bs) _ (begins_from at within b bs) (tokens_from-from (at + 1) _ bs) (tokens_from-rises (at + 1) _ bs)

pub tokens_rise : TokensRise
tokens_rise s = grind (arith, tokens_from-rises)
