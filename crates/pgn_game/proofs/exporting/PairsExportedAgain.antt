-- Exported tag pairs are tag pairs of a game again, and exporting them again changes nothing.
use Rattle.pgn_game.proofs.Words.{InOrder, ◌≡◌, ℕ, ◌+◌, ◌≤◌, Bool, true, false, List, [], ◌∷◌, ◌++◌, length, map, refl, sym, ap, ◌∙◌, arith, Option, None, Some, inl, inr, not, bytes_eq, is_some, unwrap_or, codes, IsTrue, IsFalse, AllByRecursion, list_all, false≢true, cases_Bool, escaped, Mode, Full, Reduced, Profile, Pair, value_of, has_pair, roster, in_roster, roster_pairs, with_set_up, other_pairs, exported, in_name, is_result, start_of, IsPair, AreDistinct, KeepsTags, IsSetUp, by_name, rules}
use Rattle.pgn_game.proofs.MarkerTexts.{marker_room, result_marker}
use Rattle.pgn_game.proofs.reading.PairsInTurn.{takes, value_of-all, order-all}
use Rattle.pgn_game.proofs.pairs.ExportedValues.{with_default, without_set_up, set_up, set_up_if, set_up_gone, set_up_values, no_fen, no_set_up, other_value, exported_known, exported_other, exported_none, no_set_up_of, on_roster, all-exported}
use Rattle.pgn_game.proofs.pairs.NameOrder.{order-insert, order-filter, same_pairs, distinct_in_order}
use Rattle.pgn_game.proofs.pairs.ValuesByName.{bytes_eq-refl, pick, found}

-- The pairs that are exported beside the roster are in order.
order_set_up : (ps : List Pair) → InOrder ps → InOrder (with_set_up ps)
order_set_up ps h = search (rules, without_set_up, set_up, set_up_if, set_up_gone, InOrder, order-insert, order-filter)

order_others : (ps : List Pair) → InOrder ps → InOrder (other_pairs (with_set_up ps))
order_others ps h = order-filter (λ p. not _) (with_set_up ps) (order_set_up ps h)

abbrev Same_values : Mode → List ℕ → List Pair → List Pair → Type 0
Same_values mode m ps fs = (n : List ℕ) → value_of fs n ≡ value_of (exported mode m ps) n

same_default : (fs ps ds : List Pair) → AllByRecursion (λ d. value_of fs d.name ≡ Some (unwrap_or (value_of ps d.name) d.value)) ds
    → map (with_default fs) ds ≡ map (with_default ps) ds
same_default fs ps [] h = refl
same_default fs ps (d ∷ ds) h = cc (same_default fs ps ds h.1)

roster_again : (mode : Mode) (m : List ℕ) (ps fs : List Pair) → Same_values mode m ps fs → roster_pairs m fs ≡ roster_pairs m ps
unfolding roster
roster_again mode m ps fs same = grind (arith, exported_known, on_roster, same_default)

pick_again : (b : Bool) (v : List ℕ) (o : Option (List ℕ)) → pick b v (pick b v o) ≡ pick b v o
pick_again b v o = search rules

module _ (m : List ℕ) (ps fs : List Pair) where
  fen_again : Same_values Full m ps fs → value_of fs (codes "FEN") ≡ value_of ps (codes "FEN")
  fen_again same = same _ ∙ exported_other m ps _ refl ∙ no_set_up ps _ refl

  set_up_again : (n : List ℕ) → Same_values Full m ps fs → in_roster n ≡ false → value_of (with_set_up fs) n ≡ value_of (with_set_up ps) n
  set_up_again n same other = search (rules, exported_other, set_up_values, pick_again, fen_again)

  others_again : InOrder ps → InOrder fs → Same_values Full m ps fs → other_pairs (with_set_up fs) ≡ other_pairs (with_set_up ps)
  others_again h k same = search (rules, same_pairs, order_others, other_value, set_up_again)

pub exported_again : (mode : Mode) (m : List ℕ) (ps fs : List Pair) → InOrder ps → InOrder fs → Same_values mode m ps fs
    → exported mode m fs ≡ exported mode m ps
exported_again Full m ps fs h k same = cc (roster_again Full m ps fs same, others_again m ps fs h k same)
exported_again Reduced m ps fs h k same = roster_again Reduced m ps fs same

-- Where the game begins, its SetUp, and its Result.
no_value_in_reduced : (m : List ℕ) (ps fs : List Pair) (n : List ℕ)
    → Same_values Reduced m ps fs → value_of (roster m) n ≡ None → value_of fs n ≡ None
no_value_in_reduced m ps fs n same e = same n ∙ exported_none m ps n e

no_fen_of : (m : List ℕ) → value_of (roster m) (codes "FEN") ≡ None
unfolding roster
no_fen_of m = refl

pub result_of : (m : List ℕ) → value_of (roster m) (codes "Result") ≡ Some m
unfolding roster
result_of m = refl

no_fen_in_reduced : (ps : List Pair) → AllByRecursion (IsPair Reduced) ps
    → (o : Option (List ℕ)) → value_of ps (codes "FEN") ≡ o → o ≡ None
no_fen_in_reduced ps each o e = grind (arith, found)

pub start_again : (mode : Mode) (m : List ℕ) (ps fs : List Pair)
    → AllByRecursion (IsPair mode) ps → Same_values mode m ps fs → start_of fs ≡ start_of ps
start_again Full m ps fs each same = cc (fen_again m ps fs same)
start_again Reduced m ps fs each same =
    cc (no_value_in_reduced m ps fs (codes "FEN") same (no_fen_of m), no_fen_in_reduced ps each (value_of ps (codes "FEN")) refl)

pub is_set_up_again : (mode : Mode) (m : List ℕ) (ps fs : List Pair) → IsSetUp ps → Same_values mode m ps fs → IsSetUp fs
is_set_up_again Full m ps fs h same e =
    ap is_some (fen_again m ps fs same)
    ∙ elim (cases_Bool _) [
      | inl has ↦ has
      | inr none ↦ h (sym (same _ ∙ exported_other m ps _ refl ∙ no_fen ps _ none) ∙ e)
    ]
is_set_up_again Reduced m ps fs h same e = let none = no_value_in_reduced m ps fs (codes "SetUp") same (no_set_up_of m) in absurd (cc)

pub result_again : (mode : Mode) (m : List ℕ) (ps fs : List Pair) → Same_values mode m ps fs
    → value_of fs (codes "Result") ≡ Some (unwrap_or (value_of ps (codes "Result")) m)
result_again mode m ps fs same = same _ ∙ exported_known mode m ps _ (result_of m)

-- What is asked of pairs.
differ : (a b : List ℕ) → bytes_eq a b ≡ false → a ≡ b → ⊥
differ a b e f = false≢true (sym e ∙ bytes_eq-refl a b f)

plain_pair : {mode : Mode} {n v : List ℕ} → IsTrue (list_all in_name n) → length n + length (escaped v) ≤ 249
    → bytes_eq n (codes "Result") ≡ false → bytes_eq n (codes "FEN") ≡ false → IsPair mode (record { name = n; value = v })
plain_pair name room no_result h6 = search (rules, no_fen, differ)

result_pair : {mode : Mode} {m : List ℕ} → is_result m ≡ true → IsPair mode (record { name = codes "Result"; value = m })
result_pair e = search (rules, marker_room, result_marker, differ)

each_of_roster : (mode : Mode) (m : List ℕ) → is_result m ≡ true → AllByRecursion (IsPair mode) (roster m)
each_of_roster mode m e = search (rules, on_roster, plain_pair, result_pair)

each_exported : (mode : Mode) (m : List ℕ) (ps : List Pair) → is_result m ≡ true
    → AllByRecursion (IsPair mode) ps → AllByRecursion (IsPair mode) (exported mode m ps)
each_exported mode m ps e h = search (rules, all-exported, plain_pair, each_of_roster)

roster_distinct : (m : List ℕ) (ps others : List Pair)
    → ((n : List ℕ) → in_roster n ≡ true → IsFalse (has_pair others n)) → AreDistinct others → AreDistinct (roster_pairs m ps ++ others)
unfolding roster
roster_distinct m ps others off h = search rules

roster_alone : (m : List ℕ) (ps : List Pair) → AreDistinct (roster_pairs m ps)
unfolding roster
roster_alone m ps = (refl, (refl, (refl, (refl, (refl, (refl, (refl, tt)))))))

distinct_exported : (mode : Mode) (m : List ℕ) (ps : List Pair) → InOrder ps → AreDistinct (exported mode m ps)
distinct_exported mode m ps h = search (rules, other_value, distinct_in_order, order_others, roster_distinct, roster_alone)

pub keeps_exported : (p : Profile) (m : List ℕ) (ps : List Pair) → is_result m ≡ true
    → InOrder ps → AllByRecursion (IsPair p.mode) ps → length (exported p.mode m ps) ≤ p.tags → KeepsTags p (exported p.mode m ps)
keeps_exported p m ps e order each room = search (rules, each_exported, distinct_exported)

-- pairs that are kept have their values and their order by name
pub by_name_values : (p : Profile) {qs : List Pair} (n : List ℕ) → KeepsTags p qs → value_of (by_name qs) n ≡ value_of qs n
by_name_values p {qs} n h = value_of-all p [] qs n (takes h)

pub by_name_order : (p : Profile) {qs : List Pair} → KeepsTags p qs → InOrder (by_name qs)
by_name_order p {qs} h = order-all p [] qs (takes h) tt
