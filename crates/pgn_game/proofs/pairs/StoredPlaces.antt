-- Pairs that are stored in another order.
use Rattle.pgn_game.proofs.Words.{◌≡◌, IfSome, IsSomeAnd, length-map, length-set, refill, take-append_seam, insert_pair, IsSome, ℕ, ◌+◌, ◌<◌, ◌≤◌, ◌||◌, bytes_eq, codes, Bool, true, false, List, [], ◌∷◌, ◌++◌, length, refl, sym, ap, ◌∙◌, arith, Option, None, Some, insert, take, drop, get_or, set, map-append, Pair, has_pair, TagPairs, AllBelow, AreInOrder, FitsPairStore, HasBegun, InOrder, index_of, pair_at, placed, pairs_seen, get_or-set_other, get_or-set_same, get_or_append_left, get_or_read, length_push, take-map, drop-map, common_steps, rules}
use Rattle.std.proofs.lemmas.List.Edits.{length-insert}
use Rattle.pgn_game.proofs.pairs.NameOrder.{order-insert}
use Rattle.pgn_game.proofs.pairs.ValuesByName.{has-insert}
use Rattle.pgn_game.proofs.pairs.SortedPairs.{index_of-le, insert-place, all-take, all-drop, order-take, order-drop}

abbrev empty : Pair
empty = record { name = []; value = [] }

-- a pair written over another changes none of those at other places
pub placed-set : (ps : List Pair) (n : ℕ) (p : Pair) (order : List ℕ) → AllBelow n order → placed (set ps n p) order ≡ placed ps order
placed-set ps n p [] h = refl
placed-set ps n p (i ∷ is) h =
    cc (get_or-set_other ps n i p empty (λ e. absurd (omega (arith, e, h.0))), placed-set ps n p is h.1)

-- nor does one more behind them
pub placed-push : (ps : List Pair) (p : Pair) (order : List ℕ) → AllBelow (length ps) order → placed (ps ++ p ∷ []) order ≡ placed ps order
placed-push ps p [] h = refl
placed-push ps p (i ∷ is) h = cc (get_or_append_left ps (p ∷ []) empty i h.0, placed-push ps p is h.1)

pub placed-insert : (ps : List Pair) (order : List ℕ) (k i : ℕ)
    → placed ps (insert order k i) ≡ insert (placed ps order) k (pair_at ps i)
placed-insert ps order k i = search (rules, map-append, take-map, drop-map)

-- places
pub below-insert : {n : ℕ} (order : List ℕ) (k i : ℕ) → AllBelow n order → i < n → AllBelow n (insert order k i)
below-insert order k i h l = grind (arith, common_steps)

pub below-more : {n m : ℕ} (order : List ℕ) → AllBelow n order → n ≤ m → AllBelow m order
below-more [] h l = tt
below-more (i ∷ is) h l = (omega (arith, h.0), below-more is h.1 l)

-- a part of pairs in order is in order
module _ (ps : List Pair) (order : List ℕ) (k : ℕ) where
  pub in_order-take : AreInOrder ps order → AreInOrder ps (take k order)
  in_order-take h = record {
    within = all-take (λ i. i < length ps) order k h.within;
    in_order = rw (← take-map (pair_at ps) k order) (order-take (placed ps order) k h.in_order);
  }

  pub in_order-drop : AreInOrder ps order → AreInOrder ps (drop k order)
  in_order-drop h = record {
    within = all-drop (λ i. i < length ps) order k h.within;
    in_order = rw (← drop-map (pair_at ps) k order) (order-drop (placed ps order) k h.in_order);
  }

-- What is seen where no pair has begun, and where one has.
abbrev seen : List Pair → Option (List ℕ) → TagPairs
seen held begun = record { held = held; pending_name = begun }

abbrev seen_of : List Pair → List ℕ → Bool → TagPairs
seen_of ps order b = pairs_seen (placed ps order) (pair_at ps (length order)) b

all-held : (held : List Pair) (p : Pair) (b : Bool) {t : TagPairs} → pairs_seen held p b ≡ t → t.pending_name ≡ None → held ≡ t.held
all-held held p b e none = search rules

module _ (ps : List Pair) (order : List ℕ) (b : Bool) {t : TagPairs} where
  pub stored-held : seen_of ps order b ≡ t → t.pending_name ≡ None → placed ps order ≡ t.held
  stored-held e none = all-held (placed ps order) (pair_at ps (length order)) b e none

  pub held-count : seen_of ps order b ≡ t → t.pending_name ≡ None → length t.held ≡ length order
  held-count e none = ap (length {A = Pair}) (sym (stored-held e none)) ∙ length-map order (pair_at ps)

abbrev IsBegun : List Pair → Pair → Bool → TagPairs → Type 0
IsBegun held p b t = (b ≡ true) × (t ≡ seen held (Some p.name))

by_flag : (held : List Pair) (p : Pair) (b : Bool) {t : TagPairs} → pairs_seen held p b ≡ t → IsSome t.pending_name → IsBegun held p b t
by_flag held p b e some = search rules

pub stored-begun : (ps : List Pair) (order : List ℕ) (b : Bool) {t : TagPairs} → seen_of ps order b ≡ t → IsSome t.pending_name
    → IsBegun (placed ps order) (pair_at ps (length order)) b t
stored-begun ps order b e some = by_flag (placed ps order) (pair_at ps (length order)) b e some

pub stored-in-order : {most : ℕ} {ps : List Pair} {order : List ℕ} {place : ℕ} {b e : Bool} → FitsPairStore most ps order place b e
    → AreInOrder ps order
stored-in-order {order} fits = record { within = below-more order fits.first fits.within; in_order = fits.in_order }

-- a slice that is as long takes the place of all items
pub written : {A : Type 0} (ps : List A) (n : ℕ) (p : A) → refill (length ps) ps (set ps n p) ≡ set ps n p
written ps n p = let same = length-set ps n p in grind (arith, take-append_seam)

-- Of pairs that are stored, those in the order are held, and there is a place behind them.
pub record HasPlace (most : ℕ) (ps : List Pair) (order : List ℕ) (held : List Pair) : Type 0 where
  pub same : placed ps order ≡ held
  pub first : AllBelow (length order) order
  pub place : length order < length ps
  pub room : length ps ≤ most

pub place-of-old : {most : ℕ} {ps : List Pair} {order : List ℕ} {held : List Pair} → placed ps order ≡ held
    → AllBelow (length order) order → length order < length ps → length ps ≤ most → HasPlace most ps order held
place-of-old same first place room = record { same = same; first = first; place = place; room = room }

pub place-of-new : {most : ℕ} (ps more : List Pair) {order : List ℕ} {held : List Pair} (p : Pair) → more ≡ ps ++ p ∷ []
    → placed ps order ≡ held → AllBelow (length order) order → length order ≡ length ps → length ps < most
    → HasPlace most more order held
place-of-new ps more {order} p is same first all room = grind (arith, common_steps, length_push, placed-push)

-- a pair is written there
pub begun-seen : {most : ℕ} {ps : List Pair} {order : List ℕ} {held : List Pair} {n : ℕ} (p : Pair)
    → HasPlace most ps order held → n ≡ length order
    → seen (placed (refill (length ps) ps (set ps n p)) order) (Some (pair_at (refill (length ps) ps (set ps n p)) (length order)).name)
    ≡ seen held (Some p.name)
begun-seen {ps} {order} {n} p has at = grind (arith, common_steps, set, get_or-set_same, placed-set)

pub begun-stored : {most : ℕ} {ps : List Pair} {order : List ℕ} {held : List Pair} {n : ℕ} {e : Bool} (p : Pair) (place : ℕ)
    → HasPlace most ps order held → n ≡ length order → InOrder held → has_pair held p.name ≡ false → place ≡ index_of p.name held
    → e ≡ has_pair held (codes "FEN") → FitsPairStore most (refill (length ps) ps (set ps n p)) order place true e
begun-stored {most} {ps} {order} {n} p place has at sorted new index fen =
    grind (arith, common_steps, set, get_or-set_same, placed-set, length-set)

or-swap : (a b : Bool) → (a || b) ≡ (b || a)
or-swap a b = search rules

-- Its value comes, and its place goes into the order.
pub place-within : {most : ℕ} {ps : List Pair} {order : List ℕ} {place : ℕ} {b e : Bool} {t : TagPairs}
    → FitsPairStore most ps order place b e → seen_of ps order b ≡ t → IsSome t.pending_name
    → (place ≤ length order) × (length order < most)
place-within {ps} {order} {b} fits view some = grind (arith, common_steps, stored-begun, index_of-le, length-map)

-- the pairs with the new one at its place
record IsPut (ps : List Pair) (order : List ℕ) (place n : ℕ) (q : Pair) : Type 0 where
  name : q.name ≡ (pair_at ps (length order)).name
  pairs : placed (set ps n q) (insert order place n) ≡ insert_pair q (placed ps order)
  new : has_pair (placed ps order) q.name ≡ false

abbrev named : List ℕ → List ℕ → Pair
named name value = record { name = name; value = value }

module _ {most : ℕ} {ps : List Pair} {order : List ℕ} {place : ℕ} {b e : Bool} {t : TagPairs} {n : ℕ} {p : Pair}
    (fits : FitsPairStore most ps order place b e) (view : seen_of ps order b ≡ t) (some : IsSome t.pending_name)
    (at : n ≡ length order) (is : p ≡ get_or ps n p) where
  begun : IsBegun (placed ps order) (pair_at ps (length order)) b t
  begun = stored-begun ps order b view some

  store : HasBegun ps order place
  store = fits.begun begun.0

  here : p ≡ pair_at ps (length order)
  here = get_or_read ps n p (omega (arith, at, store.within)) is empty ∙ ap (pair_at ps) at

  pub room-for-value : (more : ℕ) → IsSomeAnd t.pending_name (λ name. length name + more ≤ 249) → length p.name + more ≤ 249
  room-for-value more h = rw here (rw begun.1 at h)

  pub begun-name : t.pending_name ≡ Some p.name
  begun-name = ap (λ (s : TagPairs). s.pending_name) begun.1 ∙ ap (λ (q : Pair). Some q.name) (sym here)

  is-put : (q : Pair) → q.name ≡ p.name → IsPut ps order place n q
  is-put q same =
      grind (arith, common_steps, set, get_or-set_same, placed-insert, insert, placed-set, insert-place)

  pub completed-seen : (q : Pair) (value : List ℕ) (more : List ℕ) → q ≡ named p.name value → more ≡ insert order place n
      → IfSome t.pending_name (λ name. seen (placed (refill (length ps) ps (set ps n q)) more) None ≡ seen (insert_pair (named name value) t.held) None)
  completed-seen q value more new is_more = grind (arith, common_steps, is-put)

  -- a FEN is among them if the new one is
  fen-put : (q : Pair) (is_fen : Bool) → IsPut ps order place n q → is_fen ≡ bytes_eq q.name (codes "FEN")
      → (e || is_fen) ≡ has_pair (placed (set ps n q) (insert order place n)) (codes "FEN")
  fen-put q is_fen put is = search (rules, or-swap, has-insert)

  -- the name is that of the pair
  fen-name : (q : Pair) (is_fen : Bool) → q.name ≡ p.name → IfSome t.pending_name (λ name. is_fen ≡ bytes_eq name (codes "FEN"))
      → is_fen ≡ bytes_eq q.name (codes "FEN")
  fen-name q is_fen same h = rw same (rw begun-name at h)

  pub completed-stored : (q : Pair) (value : List ℕ) (more : List ℕ) (is_fen : Bool) → q ≡ named p.name value → more ≡ insert order place n
      → IfSome t.pending_name (λ name. is_fen ≡ bytes_eq name (codes "FEN"))
      → FitsPairStore most (refill (length ps) ps (set ps n q)) more place false (e || is_fen)
  completed-stored q value more is_fen new is_more fen =
      grind (arith, common_steps, fen-name, is-put, fen-put, length-set, length-insert, place-within, below-insert, below-more, order-insert)
