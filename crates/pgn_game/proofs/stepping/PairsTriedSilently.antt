-- How many pairs are tried for a token by a reader that writes nothing.
use Rattle.pgn_lexer.specs.Tokens as tokens
use Rattle.pgn_game.specs.public.MostTried as most_tried
use Rattle.pgn_game.proofs.Words.{◌≡◌, ℕ, ◌≤◌, max, Bool, true, false, List, ◌∷◌, Option, None, Some, option_map, Result, refl, arith, Parts, Form, Played, SanFault, move_of_form, form_pairs, CostsAnswer, CostsForm, Kind, Token, Mode, Reason, Profile, Item, Part, refusal, is_many_moves, position_in, CostsIf, CostsToFind, CostsToWrite, MostFrom, Tries, Progress, progress_after, read_from, move_of, and_parts, FewCandidates, form_of, ReadingAFormIsSpelling, Costs, CostsUnlessRefused, is_sought, common_steps, rules}
use Rattle.pgn_game.proofs.exporting.GameToResult.{row_fails}
use Rattle.pgn_game.proofs.stepping.OneMoreToken.{goes_on}

-- Nothing is tried to write a token.
none_to_write : (o : Option Reason) (deep : ℕ) (here : Parts) (items : List Item) (n m : ℕ) → CostsUnlessRefused o None deep here items n m → m ≡ n
none_to_write o deep here items n m h = search rules

-- ---- at most 8

module _ (few : FewCandidates) (spelling : ReadingAFormIsSpelling) where
  few_pairs : (p : Parts) (s : List ℕ) (f : Form) → form_of s ≡ Some f → form_pairs p f ≤ 8
  few_pairs p s f is = search (rules, and_parts)

  few_of_answer : (p : Parts) (f : Form) (r : Result Played SanFault) (n : ℕ) → form_pairs p f ≤ 8 → CostsAnswer p f r n → n ≤ 8
  few_of_answer p f r n bound h = search rules

  few_of_form : (p : Parts) (s : List ℕ) (o : Option Form) (n : ℕ) → form_of s ≡ o → CostsForm p o n → n ≤ 8
  few_of_form p s o n is h = search (rules, few_of_answer, few_pairs)

  few_of_text : (p : Parts) (s : List ℕ) (n : ℕ) → Costs p s n → n ≤ 8
  unfolding Costs
  few_of_text p s n h = few_of_form p s (form_of s) n refl h

  few_if : (sought : Bool) (p : Parts) (s : List ℕ) (n : ℕ) → CostsIf sought p s n → n ≤ 8
  few_if sought p s n h = search (rules, few_of_text)

  few_found : (part : Part) (k : Kind) (n : ℕ) → CostsToFind part k n → n ≤ 8
  few_found part k n h = search (rules, few_if)

  few_tried : (p : Profile) (part : Part) (k : Kind) (n : ℕ) → Tries true p part k n → n ≤ 8
  few_tried p part k n h = grind (arith, common_steps, none_to_write, few_found)

  pub tries_few : (p : Profile) {b : Progress} {ts : List Token} {n : ℕ} → MostFrom true p b ts n → n ≤ 8
  tries_few p (most_tried.none c) = omega arith
  tries_few p (most_tried.refused c x xs m reason some h) = few_tried p c.part x.kind m h
  tries_few p (most_tried.passes c x xs m rest is h more) =
      let one = few_tried p c.part x.kind m h in
      let others = tries_few p more in search rules

-- ---- no more than a reader that writes

-- The pairs of a text are the same each time, unless more than one move agrees.
alike_of_answer : (p : Parts) (f : Form) (r : Result Played SanFault) (n m : ℕ) → is_many_moves (Some r) ≡ false
    → CostsAnswer p f r n → CostsAnswer p f r m → n ≡ m
alike_of_answer p f r n m one h k = search rules

alike_of_form : (p : Parts) (o : Option Form) (n m : ℕ) → is_many_moves (option_map (move_of_form p) o) ≡ false → CostsForm p o n → CostsForm p o m → n ≡ m
alike_of_form p o n m one h k = search (rules, alike_of_answer)

alike_of_text : (p : Parts) (s : List ℕ) (n m : ℕ) → is_many_moves (move_of p s) ≡ false → Costs p s n → Costs p s m → n ≡ m
unfolding Costs move_of
alike_of_text p s n m one h k = alike_of_form p (form_of s) n m one h k

sought_once : (p : Profile) (part : Part) (s : List ℕ) → refusal p part (tokens.symbol s) ≡ None → is_sought part s ≡ true
    → is_many_moves (move_of (position_in part) s) ≡ false
unfolding refusal
sought_once p part s free sought = search (rules, row_fails)

alike_if : (sought : Bool) (p : Parts) (s : List ℕ) (n m : ℕ) → (sought ≡ true → is_many_moves (move_of p s) ≡ false)
    → CostsIf sought p s n → CostsIf sought p s m → n ≡ m
alike_if sought p s n m one h k = search (rules, alike_of_text)

alike_found : (p : Profile) (part : Part) (k : Kind) (n m : ℕ) → refusal p part k ≡ None → CostsToFind part k n → CostsToFind part k m → n ≡ m
alike_found p part h1 n m free h k = search (rules, alike_if, sought_once)

-- Writing adds to them.
more_to_write : (written : Bool) (here : Parts) (i : Item) (n m : ℕ) → CostsToWrite written here i n m → n ≤ m
more_to_write written here i n m h = search rules

more_to_add : (o : Option Reason) (mode : Option Mode) (deep : ℕ) (here : Parts) (items : List Item) (n m : ℕ)
    → CostsUnlessRefused o mode deep here items n m → n ≤ m
more_to_add o mode deep here items n m h = search (rules, more_to_write)

fewer_tried : (p : Profile) (part : Part) (k : Kind) (n m : ℕ) → refusal p part k ≡ None → Tries true p part k n → Tries false p part k m → n ≤ m
fewer_tried p part k n m free silent writes = search (rules, none_to_write, alike_found, more_to_add)

-- The first of the tokens is not rejected.
record Passing (silent : Bool) (p : Profile) (b : Progress) (t : Token) (ts : List Token) (most : ℕ) : Type 0 where
  one : ℕ
  others : ℕ
  tries : Tries silent p b.part t.kind one
  more : MostFrom silent p (progress_after b t) ts others
  greatest : most ≡ max one others

passing : (silent : Bool) (p : Profile) (b : Progress) (t : Token) (ts : List Token) (most : ℕ) → MostFrom silent p b (t ∷ ts) most
    → refusal p b.part t.kind ≡ None → Passing silent p b t ts most
passing silent p b t ts _ (most_tried.refused c x xs n reason some h) free = absurd (cc)
passing silent p b t ts _ (most_tried.passes c x xs n rest is h more) free = search rules

pub tries_fewer : (p : Profile) {b : Progress} {ts : List Token} {n m : ℕ} → MostFrom true p b ts n → MostFrom false p b ts m
    → (read_from p b ts).fault ≡ None → n ≤ m
tries_fewer p (most_tried.none c) writes passes = omega arith
tries_fewer p (most_tried.refused c x xs k reason some h) writes passes = absurd (cc)
tries_fewer p {b} {ts} {n} {m} (most_tried.passes c x xs k rest is h more) writes passes =
    let other = passing false p c x xs m writes is in
    let first = fewer_tried p c.part x.kind k other.one is h other.tries in
    let others = tries_fewer p more other.more (rw (goes_on p c x xs is) at passes) in search rules
