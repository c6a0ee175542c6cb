-- The pairs of a tag section, by their index.
use Rattle.std.proofs.Math.Bool.{or-false}
use Rattle.std.specs.Prelude.{Result, slice_index_or}
use Rattle.std.specs.Result.{result_ok}
use Rattle.std.proofs.lemmas.Option.{slice_get-map, slice_get_past}
use Rattle.pgn_game.proofs.Words.{◌≡◌, ℕ, ◌+◌, ◌-◌, ◌<◌, ◌≤◌, ◌||◌, Bool, true, false, not, cond, List, [], ◌∷◌, ◌++◌, length, length-map, ◌==◌, option_copied, take, drop, slice_get, drop-cons, drop_of_length-le, add-one, Bor, Option, None, Some, none-some, option_map, unwrap_or, refl, ap, sym, ◌∙◌, arith, bytes_eq, codes, false≢true, Full, Reduced, Pair, value_of, has_pair, comes_before, insert_pair, index_of, roster, roster_pairs, in_roster, other_pairs, with_set_up, exported, rules}
use Rattle.pgn_game.specs.public.NameAndValue.{pair_of}
use Rattle.pgn_game.specs.steps.SectionPairs.{IsPassing, NthResult, is_other, left_behind, others}
use Rattle.pgn_game.proofs.giving.BufferToItems.{empty_if, some_if}
use Rattle.pgn_game.proofs.pairs.ExportedValues.{seven, set_up, set_up_if, with_default, without_set_up}
use Rattle.pgn_game.proofs.pairs.ValuesByName.{bytes_eq-true}

-- ---- two lists, one behind the other

pub get_front : (xs ys : List Pair) (i : ℕ) (p : Pair) → slice_get xs i ≡ Some p → slice_get (xs ++ ys) i ≡ Some p
get_front [] ys i p is = absurd (none-some p is)
get_front (x ∷ xs) ys (Prim.Native.Nat.zero) p is = is
get_front (x ∷ xs) ys (Prim.Native.Nat.suc i) p is = get_front xs ys i p is

pub get_behind : (xs ys : List Pair) (left i : ℕ) → length xs + left ≡ i → slice_get (xs ++ ys) i ≡ slice_get ys left
get_behind [] ys left i is = ap (slice_get ys) (omega (arith, is))
get_behind (x ∷ xs) ys left (Prim.Native.Nat.zero) is = absurd (omega (arith, is))
get_behind (x ∷ xs) ys left (Prim.Native.Nat.suc i) is = get_behind xs ys left i (omega (arith, is))

-- ---- the pairs outside the roster

others_plain : (ps : List Pair) → others false ps ≡ other_pairs ps
others_plain ps = search (rules, or-false)

abbrev is_set_up : Pair → Bool
is_set_up p = bytes_eq p.name (codes "SetUp")

abbrev kept_unless : Bool → Pair → List Pair → List Pair
kept_unless b p ps = cond (not b) (p ∷ ps) ps

beside_pair : (p : Pair) (ps : List Pair) (r s : Bool) → in_roster p.name ≡ r
    → kept_unless (r || s) p (other_pairs ps) ≡ other_pairs (kept_unless s p ps)
beside_pair p ps r s is = search rules

-- those beside the SetUp of a FEN
others_beside : (ps : List Pair) → others true ps ≡ other_pairs (without_set_up ps)
others_beside [] = refl
others_beside (p ∷ ps) = search (rules, beside_pair, without_set_up, (others_beside ps))

-- those with SetUp's after so many pairs
abbrev pub others_about : ℕ → List Pair → List Pair
others_about n ps = others true (take n ps) ++ set_up ∷ others true (drop n ps)

abbrev if_other : Bool → Pair → List Pair → List Pair
if_other b p ps = cond b (p ∷ ps) ps

next_about : (n : ℕ) (p : Pair) (ps : List Pair) (b : Bool) → is_other true p ≡ b
    → others_about (1 + n) (p ∷ ps) ≡ if_other b p (others_about n ps)
next_about n p ps b is = search (rules, set_up)

module _ (p : Pair) (ps : List Pair) where
  abbrev held : List Pair
  held = without_set_up ps

  abbrev here : ℕ
  here = index_of (codes "SetUp") ps

  is_other_by : (r s : Bool) → in_roster p.name ≡ r → is_set_up p ≡ s → is_other true p ≡ not (r || s)
  is_other_by r s in_r is = ap (λ (x : Bool). not (x || is_set_up p)) in_r ∙ ap (λ (x : Bool). not (r || x)) is

  set_up_here : (r s b : Bool) → in_roster p.name ≡ r → is_set_up p ≡ s → comes_before (codes "SetUp") p.name ≡ b
      → others_about here ps ≡ other_pairs (insert_pair set_up held)
      → others_about (elim b [ true ↦ 0 | false ↦ 1 + here ]) (p ∷ ps) ≡ other_pairs (insert_pair set_up (kept_unless s p held))
  set_up_here r true true in_r is before h = search (rules, false≢true, bytes_eq-true)
  set_up_here r false true in_r is before h = search (rules, set_up, others_beside)
  set_up_here true true false in_r is before h = next_about here p ps false (is_other_by true true in_r is) ∙ h
  set_up_here false true false in_r is before h = next_about here p ps false (is_other_by false true in_r is) ∙ h
  set_up_here true false false in_r is before h = search (rules, next_about, is_other_by, set_up)
  set_up_here false false false in_r is before h = search (rules, next_about, is_other_by, set_up)

set_up_about : (ps : List Pair) → others_about (index_of (codes "SetUp") ps) ps ≡ other_pairs (insert_pair set_up (without_set_up ps))
set_up_about [] = refl
set_up_about (p ∷ ps) =
    set_up_here p ps (in_roster p.name) (is_set_up p) (comes_before (codes "SetUp") p.name) refl refl refl (set_up_about ps)

pub others_without_fen : (ps : List Pair) → has_pair ps (codes "FEN") ≡ false → others false ps ≡ other_pairs (with_set_up ps)
others_without_fen ps none = others_plain ps ∙ ap (λ (b : Bool). other_pairs (set_up_if b ps)) (sym none)

pub others_with_fen : (ps : List Pair) → has_pair ps (codes "FEN") ≡ true
    → others_about (index_of (codes "SetUp") ps) ps ≡ other_pairs (with_set_up ps)
others_with_fen ps some = set_up_about ps ∙ ap (λ (b : Bool). other_pairs (set_up_if b ps)) (sym some)

-- ---- one pair after another

same_some : (a b : ℕ) → Some a ≡ Some b → a ≡ b
same_some a b h = cc

abbrev named : List ℕ → List ℕ → Pair
named name value = record { name = name; value = value }

pair_is : (name value : List ℕ) (p : Pair) → name ≡ p.name → value ≡ p.value → p ≡ named name value
pair_is name value p is_name is_value = sym (ap (λ (x : List ℕ). named x value) is_name ∙ ap (λ (y : List ℕ). named p.name y) is_value)

get_next : (p : Pair) (qs : List Pair) (n : ℕ) → 0 < n → slice_get (p ∷ qs) n ≡ slice_get qs (n - 1)
get_next p qs n some = search rules

-- a value found, or the default
pub default_or : (o : Option (Bor (List ℕ))) (value unknown : Bor (List ℕ)) (found : Option (List ℕ)) → value ≡ unwrap_or o unknown → option_copied o ≡ found
    → value.now ≡ unwrap_or found unknown.now
default_or o value unknown found is same = search rules

pub first_pair : (ps : List Pair) (at : ℕ) (p : Pair) → at < length ps → p ≡ slice_index_or ps at p → drop at ps ≡ p ∷ drop (at + 1) ps
first_pair ps at p within is = cc (drop-cons ps at p within, is, add-one at)

module _ (has_fen : Bool) (ps : List Pair) (index at left : ℕ) (passing : IsPassing has_fen ps index at left) where
  module _ {p : Pair} (front : drop at ps ≡ p ∷ drop (at + 1) ps) where
    abbrev rest : List Pair
    rest = others has_fen (drop (at + 1) ps)

    next_is : (b : Bool) → is_other has_fen p ≡ b → others has_fen (drop at ps) ≡ if_other b p rest
    next_is b is = ap (others has_fen) front ∙ ap (λ (c : Bool). if_other c p rest) is

    abbrev left_if : Bool → Option ℕ
    left_if z = elim z [ true ↦ None | false ↦ Some (left - 1) ]

    passes_some : is_other has_fen p ≡ true → (after : ℕ) → (z : Bool) → (left == 0) ≡ z → left_if z ≡ Some after
        → IsPassing has_fen ps index (at + 1) after
    passes_some is after z h1 is_left = search (rules, none-some, some_if, same_some, next_is, get_next)

    passes_by : (b : Bool) → is_other has_fen p ≡ b → (after : ℕ) → left_behind b left ≡ Some after → IsPassing has_fen ps index (at + 1) after
    passes_by b is after left_is = search (rules, same_some, next_is, passes_some)

    pub passes_one : (after : ℕ) → left_behind (is_other has_fen p) left ≡ Some after → IsPassing has_fen ps index (at + 1) after
    passes_one after is = passes_by (is_other has_fen p) refl after is

    sought_last : is_other has_fen p ≡ true → (z : Bool) → (left == 0) ≡ z → left_if z ≡ None
        → slice_get (others has_fen ps) index ≡ Some p
    sought_last is z h1 none = search (rules, next_is, empty_if, none-some)

    sought_by : (b : Bool) → is_other has_fen p ≡ b → left_behind b left ≡ None → slice_get (others has_fen ps) index ≡ Some p
    sought_by b is none = search (rules, none-some, sought_last)

    pub is_sought : left_behind (is_other has_fen p) left ≡ None → (both : Bor (List ℕ) × Bor (List ℕ)) → both.0.now ≡ p.name → both.1.now ≡ p.value
        → slice_get (others has_fen ps) index ≡ Some (pair_of both)
    is_sought none both name value = sought_by (is_other has_fen p) refl none ∙ ap (λ (q : Pair). Some q) (pair_is both.0.now both.1.now p name value)

  pub all_passed : length ps ≤ at → length (others has_fen ps) + left ≡ index
  all_passed end = omega (arith, passing.count, ap (λ (qs : List Pair). length (others has_fen qs)) (drop_of_length-le ps end))

-- what was found, if it was
pub found_pair : (ps : List Pair) (index : ℕ) (r : Result (Bor (List ℕ) × Bor (List ℕ)) ℕ) → NthResult ps index r
    → option_map pair_of (result_ok r) ≡ slice_get ps index
found_pair ps index r is = search (rules, slice_get_past)

-- a pair of the two lists about SetUp
pub about_front : (before after : List Pair) (i : ℕ) (p : Pair) → slice_get before i ≡ Some p → slice_get (before ++ set_up ∷ after) i ≡ Some p
about_front before after i p is = get_front before (set_up ∷ after) i p is

pub about_here : (before after : List Pair) (i : ℕ) → length before + 0 ≡ i → slice_get (before ++ set_up ∷ after) i ≡ Some set_up
about_here before after i is = get_behind before (set_up ∷ after) 0 i is

pub about_behind : (before after : List Pair) (left i : ℕ) → length before + left ≡ i → 0 < left → slice_get (before ++ set_up ∷ after) i ≡ slice_get after (left - 1)
about_behind before after left i is some =
    get_behind before (set_up ∷ after) left i is ∙ get_next set_up after left some

-- the pairs on both sides of SetUp's place
pub both_sides : (ps before after : List Pair) (n : ℕ) → n ≡ index_of (codes "SetUp") ps → before ≡ take n ps → after ≡ drop n ps
    → has_pair ps (codes "FEN") ≡ true → others true before ++ set_up ∷ others true after ≡ other_pairs (with_set_up ps)
both_sides ps before after n place front back some = search (rules, set_up, others_with_fen)

-- ---- the whole section

module _ (result : List ℕ) (ps : List Pair) where
  seven_pairs : length (roster_pairs result ps) ≡ 7
  seven_pairs = length-map (roster result) (with_default ps) ∙ seven result

  pub in_roster_by : (i : ℕ) (d : Pair) → slice_get (roster result) i ≡ Some d
      → slice_get (roster_pairs result ps) i ≡ Some (record { name = d.name; value = unwrap_or (value_of ps d.name) d.value })
  in_roster_by i d is = slice_get-map (with_default ps) (roster result) i ∙ ap (option_map (with_default ps)) is

  pub full_front : (i : ℕ) (p : Pair) → slice_get (roster_pairs result ps) i ≡ Some p → slice_get (exported Full result ps) i ≡ Some p
  full_front i p is = get_front (roster_pairs result ps) (other_pairs (with_set_up ps)) i p is

  pub full_behind : (i left : ℕ) → 7 + left ≡ i → slice_get (exported Full result ps) i ≡ slice_get (other_pairs (with_set_up ps)) left
  full_behind i left is = search (rules, get_behind, seven_pairs)

  pub reduced_behind : (i : ℕ) → 7 ≤ i → slice_get (exported Reduced result ps) i ≡ None
  reduced_behind i from = slice_get_past (roster_pairs result ps) i (omega (arith, seven_pairs, from))
