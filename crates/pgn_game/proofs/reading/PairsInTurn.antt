-- Pairs that come one after another, and what is asked of each beside those before it.
use Rattle.pgn_game.proofs.Words.{InOrder, ◌≡◌, ℕ, suc, ◌+◌, ◌<◌, ◌≤◌, Bool, List, [], ◌∷◌, length, refl, sym, ap, ◌∙◌, arith, Option, None, IsFalse, bytes_eq, AllByRecursion, or_parts, or_from, Profile, Pair, value_of, has_pair, insert_pair, IsPair, AreDistinct, KeepsTags, rules, fold}
use Rattle.pgn_game.proofs.pairs.NameOrder.{order-insert}
use Rattle.pgn_game.proofs.pairs.ValuesByName.{bytes_eq-true, bytes_eq-sym, either_of, either_none, pick, value_of-cons, value_of-put, has-cons, has-insert, not_among, no_value, by_insert, all-insert}

abbrev pub with_pairs : List Pair → List Pair → List Pair
with_pairs ps qs = fold (λ sorted q. insert_pair q sorted) ps qs

-- there is room for each, its name is new, and it is a pair
abbrev pub Takes : Profile → List Pair → List Pair → Type 0
Takes p ps [] = Unit {0}
Takes p ps (q ∷ qs) = (length ps < p.tags) × IsFalse (has_pair ps q.name) × IsPair p.mode q × Takes p (insert_pair q ps) qs

pub length-insert : (q : Pair) (ps : List Pair) → length (insert_pair q ps) ≡ suc (length ps)
length-insert q ps = by_insert (λ qs l. length l ≡ suc (length qs)) q (λ qs. refl) (λ r rs l more. ap suc more) ps

-- none of the names is among the pairs
abbrev Apart : List Pair → List Pair → Type 0
Apart ps qs = AllByRecursion (λ q. IsFalse (has_pair ps q.name)) qs

apart_from_none : (qs : List Pair) → Apart [] qs
apart_from_none [] = tt
apart_from_none (q ∷ qs) = (refl, apart_from_none qs)

apart_less : (q : Pair) (ps qs : List Pair) → Apart (insert_pair q ps) qs → Apart ps qs × IsFalse (has_pair qs q.name)
apart_less q ps [] h = (tt, refl)
apart_less q ps (r ∷ rs) h =
    let rest = apart_less q ps rs h.1 in
    let here = or_parts (bytes_eq q.name r.name) _ (sym (has-insert q ps _) ∙ h.0) in search (rules, has-cons, or_from, bytes_eq-sym)

apart_more : (q : Pair) (ps qs : List Pair) → Apart ps qs → IsFalse (has_pair qs q.name) → Apart (insert_pair q ps) qs
apart_more q ps [] h new = tt
apart_more q ps (r ∷ rs) h new =
    let there = not_among r rs _ new in (
      has-insert q ps _ ∙ or_from _ _ (bytes_eq-sym q.name r.name ∙ there.0) h.0,
      apart_more q ps rs h.1 there.1,
    )

-- From what is asked of each pair in turn to what is asked of all.
taken_count : (p : Profile) (ps qs : List Pair) → length ps ≤ p.tags → Takes p ps qs → length ps + length qs ≤ p.tags
taken_count p ps [] room h = omega arith
taken_count p ps (q ∷ qs) room h =
    let more = length-insert q ps in
    let here = h.0 in
    let next : length (insert_pair q ps) ≤ p.tags = omega arith in
    let rest = taken_count p (insert_pair q ps) qs next h.3 in search rules

taken_each : (p : Profile) (ps qs : List Pair) → Takes p ps qs → AllByRecursion (IsPair p.mode) qs
taken_each p ps [] h = tt
taken_each p ps (q ∷ qs) h = (h.2, taken_each p (insert_pair q ps) qs h.3)

taken_apart : (p : Profile) (ps qs : List Pair) → Takes p ps qs → Apart ps qs × AreDistinct qs
taken_apart p ps [] h = (tt, tt)
taken_apart p ps (q ∷ qs) h =
    let rest = taken_apart p (insert_pair q ps) qs h.3 in
    let less = apart_less q ps qs rest.0 in search rules

pub taken : {p : Profile} {qs : List Pair} → Takes p [] qs → KeepsTags p qs
taken h = search (rules, taken_count, taken_each, taken_apart)

-- And back.
takes_from : (p : Profile) (ps qs : List Pair) → length ps + length qs ≤ p.tags
    → AllByRecursion (IsPair p.mode) qs → AreDistinct qs → Apart ps qs → Takes p ps qs
takes_from p ps [] count each distinct apart = tt
takes_from p ps (q ∷ qs) count each distinct apart =
    let more = length-insert q ps in (
      omega arith,
      apart.0,
      each.0,
      takes_from p (insert_pair q ps) qs (omega arith) each.1 distinct.1 (apart_more q ps qs apart.1 distinct.0),
    )

pub takes : {p : Profile} {qs : List Pair} → KeepsTags p qs → Takes p [] qs
takes {p} {qs} h = let count = h.count in takes_from p [] qs (omega arith) h.each h.distinct (apart_from_none qs)

-- The values of names in pairs of new names, all put in.
put_later : (q : Pair) (n : List ℕ) (b : Bool) (o more : Option (List ℕ)) → bytes_eq q.name n ≡ b → (q.name ≡ n → o ≡ None)
    → either_of (pick b q.value o) more ≡ either_of o (pick b q.value more)
put_later q n b o more is new = search (rules, bytes_eq-true)

pub value_of-all : (p : Profile) (ps qs : List Pair) (n : List ℕ) → Takes p ps qs
    → value_of (with_pairs ps qs) n ≡ either_of (value_of ps n) (value_of qs n)
value_of-all p ps [] n h = sym (either_none _)
value_of-all p ps (q ∷ qs) n h =
    cc (
      value_of-all p (insert_pair q ps) qs n h.3,
      value_of-put q ps n h.1,
      put_later q n (bytes_eq q.name n) (value_of ps n) (value_of qs n) refl (λ e. no_value (value_of ps n) (ap (has_pair ps) (sym e) ∙ h.1)),
      value_of-cons q qs n,
    )

-- what is all put in is in order, and has what each has
pub order-all : (p : Profile) (ps qs : List Pair) → Takes p ps qs → InOrder ps → InOrder (with_pairs ps qs)
order-all p ps [] h order = order
order-all p ps (q ∷ qs) h order = order-all p (insert_pair q ps) qs h.3 (order-insert q ps h.1 order)

pub all-all : (P : Pair → Type 0) (ps qs : List Pair) → AllByRecursion P ps → AllByRecursion P qs → AllByRecursion P (with_pairs ps qs)
all-all P ps [] h k = h
all-all P ps (q ∷ qs) h k = all-all P (insert_pair q ps) qs (all-insert P q ps k.0 h) k.1
