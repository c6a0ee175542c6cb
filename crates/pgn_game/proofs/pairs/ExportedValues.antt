-- The value of a name in the pairs that are written, and a fact on each of them.
use Rattle.pgn_game.proofs.Words.{◌≡◌, ℕ, ◌+◌, length, Bool, true, false, cond, List, [], ◌∷◌, drop, Option, None, Some, refl, ap, sym, ◌∙◌, add-one, bytes_eq, slice_get, unwrap_or, map, filter, not, is_some, ◌||◌, ◌&&◌, codes, drop-cons, All-append, all_kept_by, AllByRecursion, and_right, Mode, Full, Reduced, Pair, value_of, has_pair, insert_pair, roster, in_roster, roster_pairs, other_pairs, with_set_up, exported, arith, rules}
use Rattle.pgn_game.proofs.putting.WritesInTurn.{within_at}
use Rattle.pgn_game.proofs.pairs.ValuesByName.{bytes_eq-true, bytes_eq-sym, pick, value_of-cons, value_of-append, value_of-kept, value_of-put, has-cons, no_value, either_of, either_none, found, all-insert}

abbrev pub with_default : List Pair → Pair → Pair
with_default ps d = record { name = d.name; value = unwrap_or (value_of ps d.name) d.value }

pub seven : (result : List ℕ) → length (roster result) ≡ 7
unfolding roster
seven result = refl

-- a value, or what stands for it where there is one
abbrev defaulted : Option (List ℕ) → Option (List ℕ) → Option (List ℕ)
defaulted value None = None
defaulted value (Some unknown) = Some (unwrap_or value unknown)

pub value_of-at : (ps : List Pair) (i : ℕ) (p : Pair) (name : List ℕ) {b : Bool} → slice_get ps i ≡ Some p → b ≡ bytes_eq name p.name
    → value_of (drop i ps) name ≡ pick b p.value (value_of (drop (i + 1) ps) name)
value_of-at ps i p name e is =
    let h = within_at ps i p e in
    let front : drop i ps ≡ p ∷ drop (i + 1) ps = cc (drop-cons ps i p h.0, add-one i) in search (rules, value_of-cons, bytes_eq-sym)

pick_default : (ps : List Pair) {d name : List ℕ} (v : List ℕ) (b : Bool) (rest : Option (List ℕ)) → (b ≡ true → d ≡ name)
    → pick b (unwrap_or (value_of ps d) v) (defaulted (value_of ps name) rest) ≡ defaulted (value_of ps name) (pick b v rest)
pick_default ps v b rest same = search rules

value_of-defaults : (ps ds : List Pair) (name : List ℕ)
    → value_of (map (with_default ps) ds) name ≡ defaulted (value_of ps name) (value_of ds name)
value_of-defaults ps [] name = refl
value_of-defaults ps (d ∷ ds) name =
    cc (
      value_of-cons (with_default ps d) (map (with_default ps) ds) name,
      value_of-defaults ps ds name,
      pick_default ps d.value (bytes_eq d.name name) (value_of ds name) (bytes_eq-true d.name name),
      value_of-cons d ds name,
    )

reduced_value : (m : List ℕ) (ps : List Pair) (n : List ℕ) {o : Option (List ℕ)} → value_of (roster m) n ≡ o
    → value_of (roster_pairs m ps) n ≡ defaulted (value_of ps n) o
reduced_value m ps n e = cc (value_of-defaults ps (roster m) n)

-- whether a name is in a list of pairs, one after another
abbrev any_named : List ℕ → Bool → List Pair → Bool
any_named name b [] = b
any_named name b (p ∷ ps) = any_named name (b || bytes_eq name p.name) ps

any_named-value : (name : List ℕ) (b : Bool) (ps : List Pair) → any_named name b ps ≡ (b || has_pair ps name)
any_named-value name true [] = refl
any_named-value name false [] = refl
any_named-value name true (p ∷ ps) = any_named-value name true ps
any_named-value name false (p ∷ ps) = cc (any_named-value name (bytes_eq name p.name) ps, bytes_eq-sym name p.name, has-cons p ps name)

-- The roster, with a Result of m.
pub in_roster-value : (m name : List ℕ) → in_roster name ≡ has_pair (roster m) name
unfolding roster
in_roster-value m name = any_named-value name false (roster m)

not_of_roster : (m name : List ℕ) → in_roster name ≡ false → value_of (roster m) name ≡ None
not_of_roster m name e = no_value _ (sym (in_roster-value m name) ∙ e)

-- the pairs but SetUp, the pair that stands for it, and the pairs with it if there is a FEN
abbrev pub without_set_up : List Pair → List Pair
without_set_up ps = filter (λ p. not (bytes_eq p.name (codes "SetUp"))) ps

abbrev pub set_up : Pair
set_up = record { name = codes "SetUp"; value = codes "1" }

abbrev pub set_up_if : Bool → List Pair → List Pair
set_up_if b ps = elim b [ true ↦ insert_pair set_up (without_set_up ps) | false ↦ ps ]

-- The values with SetUp 1, where there is a FEN, and without.
pub set_up_gone : (ps : List Pair) → has_pair (without_set_up ps) (codes "SetUp") ≡ false
set_up_gone ps = ap is_some (value_of-kept _ ps _)

hidden : (b : Bool) {c : Bool} (v : List ℕ) (o : Option (List ℕ)) → c ≡ b → pick b v (cond (not c) o None) ≡ pick b v o
hidden b v o e = search rules

with_one : (ps : List Pair) (n : List ℕ) → value_of (set_up_if true ps) n ≡ pick (bytes_eq (codes "SetUp") n) (codes "1") (value_of ps n)
with_one ps n =
    cc (
      value_of-put set_up (without_set_up ps) n (set_up_gone ps),
      value_of-kept (λ m. not (bytes_eq m (codes "SetUp"))) ps n,
      hidden (bytes_eq (codes "SetUp") n) (codes "1") (value_of ps n) (bytes_eq-sym n (codes "SetUp")),
    )

pub set_up_values : (ps : List Pair) (n : List ℕ)
    → value_of (with_set_up ps) n ≡ pick (has_pair ps (codes "FEN") && bytes_eq (codes "SetUp") n) (codes "1") (value_of ps n)
set_up_values ps n = grind (arith, pick, with_one)

set_up_picked : {b c : Bool} (ps : List Pair) (name : List ℕ) → has_pair ps (codes "FEN") ≡ b → bytes_eq name (codes "SetUp") ≡ c
    → value_of (with_set_up ps) name ≡ pick (b && c) (codes "1") (value_of ps name)
set_up_picked ps name some is = cc (set_up_values ps name, some, is, bytes_eq-sym (codes "SetUp") name)

module _ (ps : List Pair) (name : List ℕ) where
  pub set_up_one : bytes_eq name (codes "SetUp") ≡ true → has_pair ps (codes "FEN") ≡ true → value_of (with_set_up ps) name ≡ Some (codes "1")
  set_up_one is some = set_up_picked ps name some is

  pub no_fen : has_pair ps (codes "FEN") ≡ false → value_of (with_set_up ps) name ≡ value_of ps name
  no_fen none = cc

  pub no_set_up : bytes_eq name (codes "SetUp") ≡ false → value_of (with_set_up ps) name ≡ value_of ps name
  no_set_up e = cc (set_up_picked {b = (has_pair ps (codes "FEN"))} ps name refl e, and_right (has_pair ps (codes "FEN")) false refl)

-- What a name has in the section: in full mode the value of another name is that with SetUp.
pub other_value : (ps : List Pair) (n : List ℕ)
    → value_of (other_pairs (with_set_up ps)) n ≡ cond (not (in_roster n)) (value_of (with_set_up ps) n) None
other_value ps n = value_of-kept (λ m. not _) (with_set_up ps) n

full_value : (m : List ℕ) (ps : List Pair) (n : List ℕ) {o : Option (List ℕ)} → value_of (roster m) n ≡ o
    → value_of (exported Full m ps) n ≡ either_of (defaulted (value_of ps n) o) (value_of (other_pairs (with_set_up ps)) n)
full_value m ps n e = search (rules, reduced_value, value_of-append)

-- a name of the roster has its value, or what stands for it
pub exported_known : (mode : Mode) (m : List ℕ) (ps : List Pair) (n : List ℕ) {d : List ℕ} → value_of (roster m) n ≡ Some d
    → value_of (exported mode m ps) n ≡ Some (unwrap_or (value_of ps n) d)
exported_known mode m ps n e = search (rules, full_value, reduced_value)

module _ (m : List ℕ) (ps : List Pair) (n : List ℕ) where
  pub exported_other : in_roster n ≡ false → value_of (exported Full m ps) n ≡ value_of (with_set_up ps) n
  exported_other e = cc (full_value m ps n (not_of_roster m n e), other_value ps n)

  -- and it has none in reduced mode, where the roster has it not
  pub exported_none : value_of (roster m) n ≡ None → value_of (exported Reduced m ps) n ≡ None
  exported_none e = reduced_value m ps n e

pub no_set_up_of : (m : List ℕ) → value_of (roster m) (codes "SetUp") ≡ None
unfolding roster
no_set_up_of m = refl

other_than_set_up : (m name : List ℕ) {unknown : List ℕ} (b : Bool) → value_of (roster m) name ≡ Some unknown
    → bytes_eq name (codes "SetUp") ≡ b → b ≡ false
other_than_set_up m name b h1 h2 = search (rules, bytes_eq-true, no_set_up_of)

either_unknown : (value : Option (List ℕ)) (unknown : List ℕ) → Some (unwrap_or value unknown) ≡ either_of value (Some unknown)
either_unknown value unknown = search rules

exported_by : (mode : Mode) (m : List ℕ) (ps : List Pair) (name : List ℕ) (unknown : Option (List ℕ))
    → value_of (roster m) name ≡ unknown → (unknown ≡ None → mode ≡ Reduced → ⊥)
    → value_of (exported mode m ps) name ≡ either_of (value_of (with_set_up ps) name) unknown
exported_by mode m ps name (Some u) e some =
    cc (exported_known mode m ps name e, no_set_up ps name (other_than_set_up m name _ e refl), either_unknown (value_of (with_set_up ps) name) u)
exported_by Full m ps name None e some = cc (exported_other m ps name (in_roster-value m name ∙ ap is_some e), either_none _)
exported_by Reduced m ps name None e some = absurd (some refl refl)

-- what a name has in the section: its value with SetUp, or what stands for it in the roster
pub exported_either : (mode : Mode) (m : List ℕ) (ps : List Pair) (name : List ℕ)
    → (value_of (roster m) name ≡ None → mode ≡ Reduced → ⊥)
    → value_of (exported mode m ps) name ≡ either_of (value_of (with_set_up ps) name) (value_of (roster m) name)
exported_either mode m ps name some = exported_by mode m ps name _ refl some

-- A fact on each pair that is exported: on those of the roster, on SetUp 1, and on those given.
pub on_roster : (P : Pair → Type 0) (m : List ℕ) → P (record { name = codes "Event"; value = codes "?" })
    → P (record { name = codes "Site"; value = codes "?" }) → P (record { name = codes "Date"; value = codes "????.??.??" })
    → P (record { name = codes "Round"; value = codes "?" })
    → P (record { name = codes "White"; value = codes "?" }) → P (record { name = codes "Black"; value = codes "?" })
    → P (record { name = codes "Result"; value = m }) → AllByRecursion P (roster m)
unfolding roster
on_roster P m event site date round white black result = search rules

all-default : (P : Pair → Type 0) (ps ds : List Pair) → AllByRecursion P ps → AllByRecursion P ds
    → AllByRecursion P (map (with_default ps) ds)
all-default P ps [] h k = tt
all-default P ps (d ∷ ds) h k = (by_value _ refl, all-default P ps ds h k.1)
  where
    by_value : (o : Option (List ℕ)) → value_of ps d.name ≡ o → P (record { name = d.name; value = unwrap_or o d.value })
    by_value o e = search (rules, found)

all-set_up : (P : Pair → Type 0) (ps : List Pair) → P set_up → AllByRecursion P ps → AllByRecursion P (with_set_up ps)
all-set_up P ps one h = search (rules, all_kept_by, all-insert)

pub all-exported : (P : Pair → Type 0) (mode : Mode) (m : List ℕ) (ps : List Pair) → P set_up
    → AllByRecursion P (roster m) → AllByRecursion P ps → AllByRecursion P (exported mode m ps)
all-exported P mode m ps one each h = search (rules, All-append, all_kept_by, all-default, all-set_up)
