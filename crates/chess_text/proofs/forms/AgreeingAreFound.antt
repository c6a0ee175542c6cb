-- The moves that agree with a form are those that are found, and none is found twice.
use Rattle.chess_text.proofs.Words.{◌≡◌, ◌≢◌, ℕ, ◌<◌, inl, inr, Bool, true, false, not, ◌&&◌, List, [], ◌∷◌, map, refl, sym, ◌∙◌, ap, subst, arith, Option, None, Some, Ok, Err, is_some, is_none, nat_lt, flat_map, filter_map, cons_option, list_any, list_any_at, Contains, both_ways, not-true, and_parts, and_from, ltb-true, get_or-range_with_len, length-range_with_len, Contains-append_left, Contains-append_right, Promotion, Move, Parts, Square, square, squares, lines, on_board, same_square, short_wing, long_wing, short_right, long_right, legal, is_legal, Form, Castle, Man, Played, NoMove, Ambiguous, describes, agrees, with_next, played, castling_move, move_from, moves_to_try, agreeing, only, TheOneMoveIsRead, NoMoveIsRead, TwoMovesAreAmbiguous, hints_fit, own, Kind, common_steps, some_of, same_square-refl}
use Rattle.chess_text.proofs.forms.CastlingMoves.{stepped, castles_ends, played_some}
use Rattle.chess_text.proofs.forms.OnlyElement.{here, only_in, later, element, none_in, in_map, of_map, in_found, found_in}

-- All squares are among the 64, and none twice.

in_flat_map : {X Y : Type 0} (f : X → List Y) (xs : List X) (x : X) (y : Y) → Contains xs x → Contains (f x) y → Contains (flat_map f xs) y
in_flat_map f [] x y c d = absurd (none_in x c)
in_flat_map {X} {Y} f (z ∷ zs) x y c d =
    elim (element z x zs c) [
      | inl is ↦ Contains-append_left (f z) (flat_map f zs) y (rw is d)
      | inr more ↦ Contains-append_right (f z) (flat_map f zs) y (in_flat_map f zs x y more d)
    ]

in_lines : (n : ℕ) → n < 8 → Contains lines n
in_lines n low = (n, omega (arith, length-range_with_len 0 8), get_or-range_with_len 0 8 n n low ∙ omega arith)

pub in_squares : (s : Square) → on_board s ≡ true → Contains squares s
unfolding squares
in_squares s h =
    let both = and_parts (nat_lt s.file 8) (nat_lt s.rank 8) h in
    in_flat_map (λ rank. map (λ file. square file rank) lines) lines s.rank s
    (in_lines s.rank (ltb-true s.rank 8 both.1))
    (in_map (λ file. square file s.rank) lines s.file (in_lines s.file (ltb-true s.file 8 both.0)))

-- no element stands twice in the list
abbrev pub Apart : {X : Type 0} → List X → Type 0
Apart [] = Unit {0}
Apart {X} (x ∷ xs) = ((y : X) → Contains xs y → x ≢ y) × Apart xs

abbrev all_apart : List Square → Bool
all_apart [] = true
all_apart (s ∷ ss) = not (list_any (same_square s) ss) && all_apart ss

pub any_contained : {X : Type 0} (test : X → Bool) (xs : List X) (x : X) → Contains xs x → test x ≡ true → list_any test xs ≡ true
any_contained test xs x (k, low, is) h = list_any_at test xs k x low (ap test is ∙ h)

apart_from_test : (ss : List Square) → all_apart ss ≡ true → Apart ss
apart_from_test [] h = tt
apart_from_test (s ∷ ss) h =
    let both = and_parts (not (list_any (same_square s) ss)) (all_apart ss) h in (
      λ t c e. both_ways (list_any (same_square s) ss) (not-true _ both.0) (any_contained (same_square s) ss t c (rw (← e) (same_square-refl s))),
      apart_from_test ss both.1,
    )

tested : all_apart squares ≡ true
unfolding squares
tested = refl

pub squares_apart : Apart squares
squares_apart = apart_from_test squares tested

moves_apart : (to : Square) (promotion : Option Promotion) (ss : List Square) → Apart ss → Apart (map (move_from to promotion) ss)
moves_apart to promotion [] h = tt
moves_apart to promotion (s ∷ ss) h = (differs, moves_apart to promotion ss h.1)
  where
    differs : (m : Move) → Contains (map (move_from to promotion) ss) m → move_from to promotion s ≢ m
    differs m c e =
        let g = of_map (move_from to promotion) ss m c in
        h.0 g.at g.among (ap (λ (n : Move). n.from) (e ∙ sym g.gives))

possible_apart : (p : Parts) (f : Form) → Apart (moves_to_try p f)
possible_apart p (Castle long) = ((λ m c. absurd (none_in m c)), tt)
possible_apart p (Man k file rank to promotion) = moves_apart to promotion squares squares_apart

-- A move that agrees is possible.

pub no_promotion : (x : Option Promotion) → is_none x ≡ true → x ≡ None
no_promotion x h = grind arith

-- a move is its squares and its promotion
pub same_move : (n m : Move) → n.from ≡ m.from → n.to ≡ m.to → n.promotion ≡ m.promotion → n ≡ m
same_move n m a b c = grind (arith, common_steps)

five_hold : (a b c d e : Bool) → ((a && b) && ((c && d) && e)) ≡ true → (a ≡ true) × (b ≡ true) × (c ≡ true) × (d ≡ true)
five_hold a b c d e h = grind arith

-- what a form of no castling says of a move
pub record Said (p : Parts) (k : Kind) (file rank : Option ℕ) (to : Square) (promotion : Option Promotion) (n : Move) : Type 0 where
  pub stands : own p k n.from ≡ true
  pub hints : hints_fit file rank n.from ≡ true
  pub there : n.to ≡ to
  pub named : n.promotion ≡ promotion

pub said : (p : Parts) (k : Kind) (file rank : Option ℕ) (to : Square) (promotion : Option Promotion) (n : Move)
    → describes p (Man k file rank to promotion) n ≡ true → Said p k file rank to promotion n
said p k file rank to promotion n h =
    grind (arith, common_steps, five_hold)

pub is_possible : (p : Parts) (f : Form) (m : Move) → is_legal p m ≡ true → describes p f m ≡ true → Contains (moves_to_try p f) m
is_possible p (Castle false) m legal h =
    let ends = castles_ends p m (short_right p.side p.rights) short_wing h in
    rw (same_move m (castling_move p.side false) ends.0 ends.1 (no_promotion m.promotion ends.2)) (here (castling_move p.side false) [])
is_possible p (Castle true) m legal h =
    let ends = castles_ends p m (long_right p.side p.rights) long_wing h in
    rw (same_move m (castling_move p.side true) ends.0 ends.1 (no_promotion m.promotion ends.2)) (here (castling_move p.side true) [])
is_possible p (Man k file rank to promotion) m legal h =
    let s = said p k file rank to promotion m h in
    subst (Contains (map (move_from to promotion) squares)) (sym (same_move m (move_from to promotion m.from) refl s.there s.named))
    (in_map (move_from to promotion) squares m.from (in_squares m.from (stepped p m legal).from_on))

-- What is found.

abbrev told : Parts → Form → Move → Option Played
told p f m = played (describes p f m) p m

-- each move that agrees is found, with the position after it
pub agreeing_found : (p : Parts) (f : Form) (m : Move) (q : Parts) → agrees p f m ≡ true
    → legal p m ≡ Some q → Contains (agreeing p f) (record { mv = m; next = q })
unfolding agreeing
agreeing_found p f m q h after =
    let both = and_parts (is_legal p m) (describes p f m) h in
    in_found (told p f) (moves_to_try p f) m (record { mv = m; next = q }) (is_possible p f m both.0 both.1)
    (played_some (describes p f m) p q m both.1 after)

-- what is found of a move
record Tells (b : Bool) (p : Parts) (m : Move) (x : Played) : Type 0 where
  says : b ≡ true
  same : x.mv ≡ m
  after : legal p m ≡ Some x.next

told_next : (m : Move) (o : Option Parts) (x : Played) → with_next m o ≡ Some x → (x.mv ≡ m) × (o ≡ Some x.next)
told_next m None x h = absurd (cc)
told_next m (Some q) x h = let is : record { mv = m; next = q } ≡ x = cc in (cc, ap (λ (y : Played). Some y.next) is)

tells : (b : Bool) (p : Parts) (m : Move) (x : Played) → played b p m ≡ Some x → Tells b p m x
tells false p m x h = cc
tells true p m x h = let (same, after) = told_next m (legal p m) x h in record { says = refl; same = same; after = after }

-- each move that is found agrees, and the position after it is with it
pub record Agrees (p : Parts) (f : Form) (x : Played) : Type 0 where
  pub holds : agrees p f x.mv ≡ true
  pub after : legal p x.mv ≡ Some x.next

pub found_agrees : (p : Parts) (f : Form) (x : Played) → Contains (agreeing p f) x → Agrees p f x
unfolding agreeing
found_agrees p f x c =
    let g = found_in (told p f) (moves_to_try p f) x c in
    let t = tells (describes p f g.at) p g.at x g.gives in
    let after : legal p x.mv ≡ Some x.next = rw t.same t.after in
    record { holds = and_from (is_legal p x.mv) (describes p f x.mv) (ap is_some after) (rw t.same t.says); after = after }

-- of two that are found, the moves differ
two_differ : (p : Parts) (f : Form) (ms : List Move) → Apart ms → (x y : Played) (more : List Played)
    → filter_map (told p f) ms ≡ x ∷ y ∷ more → x.mv ≢ y.mv
two_differ p f [] apart x y more e = cc
two_differ p f (m ∷ ms) apart x y more e = by_found (told p f m) refl e (two_differ p f ms apart.1 x y more)
  where
    by_found : (o : Option Played) → told p f m ≡ o → cons_option o (filter_map (told p f) ms) ≡ x ∷ y ∷ more
        → (filter_map (told p f) ms ≡ x ∷ y ∷ more → x.mv ≢ y.mv) → x.mv ≢ y.mv
    by_found None g h rest = rest h
    by_found (Some w) g h rest = λ same.
        let first : w ≡ x = cc in
        let others : filter_map (told p f) ms ≡ y ∷ more = cc in
        let k = found_in (told p f) ms y (subst (λ ys. Contains ys y) (sym others) (here y more)) in
        let t = tells (describes p f m) p m x (g ∙ ap Some first) in
        let u = tells (describes p f k.at) p k.at y k.gives in
        apart.0 k.at k.among (sym t.same ∙ same ∙ u.same)

pub agreeing_differ : (p : Parts) (f : Form) (x y : Played) (more : List Played) → agreeing p f ≡ x ∷ y ∷ more → x.mv ≢ y.mv
unfolding agreeing
agreeing_differ p f x y more e = two_differ p f (moves_to_try p f) (possible_apart p f) x y more e

-- The laws.

module _ (p : Parts) (f : Form) where
  -- a move that agrees is one of those found
  is_found : (xs : List Played) → agreeing p f ≡ xs → (m : Move) → agrees p f m ≡ true
      → (q : Parts) × (legal p m ≡ Some q) × Contains xs (record { mv = m; next = q })
  is_found xs e m h =
      let (q, after) = some_of (legal p m) (and_parts (is_legal p m) (describes p f m) h).0 in
      (q, after, rw e at (agreeing_found p f m q h after))

  first_agrees : (x : Played) (more : List Played) → agreeing p f ≡ x ∷ more → Agrees p f x
  first_agrees x more e = found_agrees p f x (rw e (here x more))

  second_agrees : (x y : Played) (more : List Played) → agreeing p f ≡ x ∷ y ∷ more → Agrees p f y
  second_agrees x y more e = found_agrees p f y (rw e (later x y (y ∷ more) (here y more)))

  alone : (x : Played) → agreeing p f ≡ x ∷ [] → (m : Move) → agrees p f m ≡ true → m ≡ x.mv
  alone x e m h =
      let (q, after, c) = is_found (x ∷ []) e m h in
      sym (ap (λ (y : Played). y.mv) (only_in x (record { mv = m; next = q }) c))

  one_to : (x : Played) (xs : List Played) → agreeing p f ≡ xs → only xs ≡ Ok x
      → (agrees p f x.mv ≡ true) × (legal p x.mv ≡ Some x.next) × ((m : Move) → agrees p f m ≡ true → m ≡ x.mv)
  one_to x (y ∷ []) e h =
      let e : agreeing p f ≡ x ∷ [] = cc in
      let a = first_agrees x [] e in
      (a.holds, a.after, alone x e)
  one_to x xs e h = cc

  one_from : (x : Played) (xs : List Played) → agreeing p f ≡ xs → agrees p f x.mv ≡ true
      → legal p x.mv ≡ Some x.next → ((m : Move) → agrees p f m ≡ true → m ≡ x.mv) → only xs ≡ Ok x
  one_from x [] e h after single = absurd (none_in x (rw e at (agreeing_found p f x.mv x.next h after)))
  one_from x (y ∷ []) e h after single = ap Ok (only_in y x (rw e at (agreeing_found p f x.mv x.next h after)))
  one_from x (y ∷ z ∷ more) e h after single =
      absurd (agreeing_differ p f y z more e
      (single y.mv (first_agrees y (z ∷ more) e).holds ∙ sym (single z.mv (second_agrees y z more e).holds)))

  none_to : (xs : List Played) → agreeing p f ≡ xs → only xs ≡ Err NoMove → (m : Move) → agrees p f m ≡ true → ⊥
  none_to [] e h m agreed = let (q, after, c) = is_found [] e m agreed in none_in _ c
  none_to (y ∷ []) e h m agreed = cc
  none_to xs e h m agreed = cc

  none_from : (xs : List Played) → agreeing p f ≡ xs → ((m : Move) → agrees p f m ≡ true → ⊥) → only xs ≡ Err NoMove
  none_from [] e h = refl
  none_from (y ∷ more) e h = absurd (h y.mv (first_agrees y more e).holds)

  two_to : (xs : List Played) → agreeing p f ≡ xs → only xs ≡ Err Ambiguous
      → (m : Move) × (n : Move) × (m ≢ n) × (agrees p f m ≡ true) × (agrees p f n ≡ true)
  two_to (y ∷ z ∷ more) e h =
      (y.mv, z.mv, agreeing_differ p f y z more e, (first_agrees y (z ∷ more) e).holds, (second_agrees y z more e).holds)
  two_to xs e h = cc

  two_from : (xs : List Played) → agreeing p f ≡ xs → (m n : Move) → m ≢ n
      → agrees p f m ≡ true → agrees p f n ≡ true → only xs ≡ Err Ambiguous
  two_from [] e m n differ a b = let (q, after, c) = is_found [] e m a in absurd (none_in _ c)
  two_from (y ∷ []) e m n differ a b = absurd (differ (alone y e m a ∙ sym (alone y e n b)))
  two_from (y ∷ z ∷ more) e m n differ a b = refl

pub the_one_move_is_read : TheOneMoveIsRead
the_one_move_is_read p f x = (one_to p f x (agreeing p f) refl, λ (agreed, after, single). one_from p f x (agreeing p f) refl agreed after single)

pub no_move_is_read : NoMoveIsRead
no_move_is_read p f = (none_to p f (agreeing p f) refl, none_from p f (agreeing p f) refl)

pub two_moves_are_ambiguous : TwoMovesAreAmbiguous
two_moves_are_ambiguous p f = (two_to p f (agreeing p f) refl, λ (m, n, differ, a, b). two_from p f (agreeing p f) refl m n differ a b)
