-- Which moves take en passant: those from the two squares beside the pawn that is taken.
use Rattle.chess_text.proofs.Words.{◌≡◌, ◌≢◌, ℕ, ◌+◌, ◌-◌, ◌≤◌, Bool, cond, zero, suc, same_Some, true, false, ◌&&◌, ◌||◌, ◌⊎◌, inl, inr, List, [], ◌∷◌, length, refl, sym, ◌∙◌, ap, ap₂, subst, arith, Option, None, Some, if◌then◌else◌, ◌==◌, list_any, list_all, list_all_at, eqb-true, eq-eqb, filter, Contains, Any-from_list_any, both_ways, cases_Bool, cases_lt, and_parts, and_from, or_cases, nat_tests, common_steps, Colour, Pawn, Piece, Move, Parts, Square, square, squares, gap, on_board, same_square, Board, at, has_piece, is_empty, cell_attacks, attacks, is_ahead, own, is_en_passant, is_legal, promotion_fits, rules, and-false, and-true, same_tests, same_square-refl, squares_same, takes_en_passant, move_to, is_taken_on, attackers, if_taken_on, pairs_on, usable_target, key_pairs, one_if, rank_behind, stands_on, takes_from, west_of}
use Rattle.chess_rules.specs.Step.{is_target}
use Rattle.chess_text.proofs.forms.MoverOfMove.{doubles, pawn_way, gap_apart}
use Rattle.chess_text.proofs.forms.AgreeingAreFound.{Apart, squares_apart, in_squares, any_contained}
use Rattle.chess_text.proofs.forms.CastlingMoves.{passing_parts, stepped}

module _ (p : Parts) (m : Move) where
  -- a pawn that comes to an empty square of another file takes en passant
  pub passes_aside : own p Pawn m.from ≡ true → is_empty p.board m.to ≡ true → gap m.from.file m.to.file ≡ 1
      → is_legal p m ≡ true → is_en_passant p m ≡ true
  passes_aside pawn free aside h = search (rules, pawn, pawn_way, both_ways, gap_apart, doubles)

  pub taken_if_legal : own p Pawn m.from ≡ true → is_empty p.board m.to ≡ true → gap m.from.file m.to.file ≡ 1
      → is_legal p m ≡ takes_en_passant p m
  taken_if_legal pawn free aside =
      same_tests _ _ (λ h. and_from _ _ (passes_aside pawn free aside h) h) (λ h. (and_parts (is_en_passant p m) _ h).1)

-- en passant goes to an empty square
passing_free : (p : Parts) (m : Move) → is_en_passant p m ≡ true → is_empty p.board m.to ≡ true
passing_free p m h = (and_parts (is_target p.target m.to) _ (and_parts (own p Pawn m.from && promotion_fits p m) _ (and_parts _ (attacks p.board m.from m.to && _) h).0).1).1

either : (x y : Bool) → (x ≡ true) ⊎ (y ≡ true) → (x || y) ≡ true
either x y (inl h) = rw h refl
either x y (inr h) = grind arith

-- what attacks of pawns say
pub pawn_attacks : (c : Colour) (cell : Option Piece) (b : Board) (s t : Square) → has_piece c Pawn cell ≡ true
    → cell_attacks cell b s t ≡ ((gap s.file t.file == 1) && is_ahead c s.rank t.rank)
pawn_attacks c cell b s t h = grind (arith, nat_tests)

-- How many of the squares pass a test that two pass at most.
abbrev pub has : Square → List Square → Bool
has s ss = list_any (same_square s) ss

none_there : (s : Square) (ss : List Square) → ((t : Square) → Contains ss t → s ≢ t) → has s ss ≡ false
none_there s ss apart = by_test _ refl
  where
    by_test : (b : Bool) → has s ss ≡ b → b ≡ false
    by_test false e = refl
    by_test true e = let (k, t, low, is, same) = Any-from_list_any (same_square s) ss e in absurd (apart t (k, low, is) (squares_same _ _ same))

differ_test : (s t : Square) → s ≢ t → same_square s t ≡ false
differ_test s t differ = grind (arith, common_steps, squares_same)

-- one that does not pass counts for nothing
skip : (f : Square → Bool) (a s : Square) (h : Bool) → f s ≡ false → (f a && (same_square a s || h)) ≡ (f a && h)
skip f a s h out = grind (arith, common_steps, squares_same)

module _ (f : Square → Bool) where
  -- one that passes is one of the two
  first_of : (a b s : Square) (ss : List Square) → s ≡ a → a ≢ b → ((t : Square) → Contains ss t → s ≢ t) → f s ≡ true
      → 1 + (one_if (f a && has a ss) + one_if (f b && has b ss))
      ≡ one_if (f a && (same_square a s || has a ss)) + one_if (f b && (same_square b s || has b ss))
  first_of a b s ss is differ apart in_test = search (rules, none_there, same_square-refl, differ_test)

  pub count_two : (a b : Square) (ss : List Square) → Apart ss → a ≢ b → ((s : Square) → f s ≡ true → (s ≡ a) ⊎ (s ≡ b))
      → length (filter f ss) ≡ one_if (f a && has a ss) + one_if (f b && has b ss)
  count_two a b [] apart differ two = grind (arith, common_steps)
  count_two a b (s ∷ ss) apart differ two = by_test (count_two a b ss apart.1 differ two) _ refl
    where
      by_test : length (filter f ss) ≡ one_if (f a && has a ss) + one_if (f b && has b ss) → (h : Bool) → f s ≡ h
          → length (cond h (s ∷ filter f ss) (filter f ss))
          ≡ one_if (f a && (same_square a s || has a ss)) + one_if (f b && (same_square b s || has b ss))
      by_test more false e = rw (skip f a s (has a ss) e, skip f b s (has b ss) e) more
      by_test more true e =
          elim (two s e) [
            | inl is ↦ omega (arith, more, first_of a b s ss is differ apart.0 e)
            | inr is ↦ omega (arith, more, first_of b a s ss is (λ same. differ (sym same)) apart.0 e)
          ]

-- what is found by trying the pawn on a square
pub taken_from : (p : Parts) (file rank : ℕ) (t from : Square) (on_file on_rank : Bool)
    → (on_file && on_rank && has_piece p.side Pawn (at p.board (square file rank))) ≡ true
    → Some from ≡ (if on_file && on_rank then Some (square file rank) else None) → is_empty p.board t ≡ true → gap file t.file ≡ 1
    → is_legal p (move_to t from) ≡ (on_file && on_rank && takes_en_passant p (move_to t (square file rank)))
taken_from p file rank t from true true pawn is free aside = let same : from ≡ square file rank = same_Some from (square file rank) is in rw same (taken_if_legal p (move_to t (square file rank)) pawn free aside)
taken_from p file rank t from true false pawn is free aside = cc
taken_from p file rank t from false b pawn is free aside = cc

-- The squares of the board are the 64 that are listed.
all_on_board : list_all on_board squares ≡ true
unfolding squares
all_on_board = refl

pub has_is : (s : Square) → has s squares ≡ on_board s
has_is s = same_tests _ _ listed (λ on. any_contained (same_square s) squares s (in_squares s on) (same_square-refl s))
  where
    listed : has s squares ≡ true → on_board s ≡ true
    listed h =
        let (k, t, low, is, same) = Any-from_list_any (same_square s) squares h in
        elim (cases_Bool (on_board s)) [
          | inl on ↦ on
          | inr off ↦ absurd (both_ways _ (list_all_at on_board squares k t low (rw is (rw (squares_same s t same) at off))) all_on_board)
        ]

-- one rank behind: that rank alone
same_rank : (c : Colour) (a b t : ℕ) → is_ahead c a t ≡ true → is_ahead c b t ≡ true → a ≡ b
same_rank c a b t h g = grind (arith, nat_tests)

one_file_apart : (a b : ℕ) → gap a b ≡ 1 → (suc a ≡ b) ⊎ (a ≡ b + 1)
one_file_apart a b h = elim (cases_lt a b) [ inl low ↦ inl (omega (arith, h, low)) | inr high ↦ inr (omega (arith, h, high)) ]

-- what a pawn that attacks t says of its square
record Beside (c : Colour) (s t : Square) : Type 0 where
  file : gap s.file t.file ≡ 1
  rank : is_ahead c s.rank t.rank ≡ true

beside : (p : Parts) (s t : Square) → own p Pawn s ≡ true → attacks p.board s t ≡ true → Beside p.side s t
beside p s t pawn hits = grind (arith, common_steps, pawn, hits, pawn_attacks, eqb-true)

-- a pawn that takes on t
record Taker (p : Parts) (s t : Square) : Type 0 where
  on : on_board s ≡ true
  pawn : own p Pawn s ≡ true
  beside : Beside p.side s t

taker : (p : Parts) (s t : Square) → takes_en_passant p (move_to t s) ≡ true → Taker p s t
taker p s t h =
    let both = and_parts (is_en_passant p (move_to t s)) _ h in
    let parts = passing_parts p (move_to t s) both.0 in
    record { on = (stepped p (move_to t s) both.1).from_on; pawn = parts.0; beside = beside p s t parts.0 parts.1 }

module _ (p : Parts) (t : Square) where
  abbrev attacks_it : Square → Bool
  attacks_it s = own p Pawn s && attacks p.board s t

  module _ (r : ℕ) (ahead : is_ahead p.side r t.rank ≡ true) where
    -- where a pawn beside stands
    at_files : (s : Square) → Beside p.side s t → ((suc s.file ≡ t.file) × (s ≡ square s.file r)) ⊎ (s ≡ square (t.file + 1) r)
    at_files s b = grind (arith, common_steps, same_rank, one_file_apart)

    on_file : (s : Square) → s ≡ square s.file r → (on_board s && takes_en_passant p (move_to t s)) ≡ true → takes_from p t r s.file ≡ true
    on_file s is h = subst (λ (u : Square). (on_board u && takes_en_passant p (move_to t u)) ≡ true) is h

    on_west : (s : Square) → suc s.file ≡ t.file → takes_from p t r s.file ≡ true → west_of (takes_from p t r) t.file ≡ true
    on_west s next h = subst (λ (file : ℕ). west_of (takes_from p t r) file ≡ true) next h

    taken_there : (s : Square) → takes_en_passant p (move_to t s) ≡ true → (west_of (takes_from p t r) t.file || takes_from p t r (t.file + 1)) ≡ true
    taken_there s h =
        let k = taker p s t h in
        elim (at_files s k.beside) [
          | inl e ↦ either _ _ (inl (on_west s e.0 (on_file s e.1 (and_from (on_board s) _ k.on h))))
          | inr e ↦ either _ _ (inr (subst (λ (u : Square). (on_board u && takes_en_passant p (move_to t u)) ≡ true) e (and_from (on_board s) _ k.on h)))
        ]

    on_square : (file : ℕ) → takes_from p t r file ≡ true → is_taken_on p t ≡ true
    on_square file h =
        let both = and_parts (on_board (square file r)) _ h in
        any_contained (λ s. takes_en_passant p (move_to t s)) squares (square file r) (in_squares _ both.0) both.1

    to_west : (file : ℕ) → west_of (takes_from p t r) file ≡ true → is_taken_on p t ≡ true
    to_west zero h = cc
    to_west (suc n) h = on_square n h

    pub taken_is : is_taken_on p t ≡ (west_of (takes_from p t r) t.file || takes_from p t r (t.file + 1))
    taken_is =
        same_tests _ _
        (λ h. let (k, s, low, is, one) = Any-from_list_any (λ s. takes_en_passant p (move_to t s)) squares h in taken_there s one)
        (λ h. elim (or_cases (west_of (takes_from p t r) t.file) _ h) [ inl west ↦ to_west t.file west | inr east ↦ on_square (t.file + 1) east ])

    -- the pawn on a square beside attacks the target
    hits : (s : Square) → gap s.file t.file ≡ 1 → s.rank ≡ r → (attacks_it s && has s squares) ≡ (on_board s && own p Pawn s)
    hits s file rank = grind (arith, common_steps, and-false, pawn_attacks, eq-eqb, has_is, and-true)

    -- one two files away does not
    misses : (s : Square) → (gap s.file t.file ≡ 1 → ⊥) → attacks_it s ≡ false
    misses s apart = grind (arith, common_steps, cases_Bool, beside)

    west_is : (f : ℕ) → t.file ≡ f
        → one_if (attacks_it (square (f - 1) r) && has (square (f - 1) r) squares) ≡ one_if (west_of (stands_on p r) f)
    west_is zero e = rw (misses (square 0 r) (λ same. absurd (omega (arith, same, e)))) refl
    west_is (suc n) e =
        let back : suc n - 1 ≡ n = omega arith in
        rw back (ap one_if (hits (square n r) (omega (arith, e)) refl))

    pub count_is : length (attackers p t) ≡ one_if (west_of (stands_on p r) t.file) + one_if (stands_on p r (t.file + 1))
    count_is =
        count_two attacks_it (square (t.file - 1) r) (square (t.file + 1) r) squares squares_apart
        (λ e. absurd (omega (arith, ap (λ (s : Square). s.file) e)))
        (λ s h.
        let both = and_parts (own p Pawn s) _ h in
        elim (at_files s (beside p s t both.0 both.1)) [
          | inl e ↦ inl (e.1 ∙ ap (λ (file : ℕ). square file r) (omega (arith, e.0)))
          | inr e ↦ inr e
        ])
        ∙ ap₂ (λ m n. m + n) (west_is t.file refl) (ap one_if (hits (square (t.file + 1) r) (omega arith) refl))

  -- without a rank behind it no pawn attacks t
  module _ (none : (r : ℕ) → is_ahead p.side r t.rank ≡ true → ⊥) where
    pub none_taken : is_taken_on p t ≡ false
    none_taken = by_test _ refl
      where
        by_test : (b : Bool) → is_taken_on p t ≡ b → b ≡ false
        by_test false e = refl
        by_test true e =
            let (k, s, low, is, one) = Any-from_list_any (λ s. takes_en_passant p (move_to t s)) squares e in
            absurd (none s.rank (taker p s t one).beside.rank)

    none_attacks : (s : Square) → attacks_it s ≡ true → ⊥
    none_attacks s h = let both = and_parts (own p Pawn s) _ h in none s.rank (beside p s t both.0 both.1).rank

    pub none_counted : length (attackers p t) ≡ 0
    none_counted = none_in squares
      where
        none_in : (ss : List Square) → length (filter attacks_it ss) ≡ 0
        none_in [] = refl
        none_in (s ∷ ss) = grind (arith, common_steps, length, none_attacks, (none_in ss))

-- what is known of a target by trying
pub target_usable : (p : Parts) (t : Square) (b : Bool) → p.target ≡ Some t → is_taken_on p t ≡ b
    → (if b then Some t else None) ≡ usable_target p
target_usable p t b is taken = ap (λ (x : Bool). if x then Some t else None) (sym taken) ∙ ap (if_taken_on p) (sym is)

pub target_covered : (p : Parts) (t : Square) → p.target ≡ Some t → is_empty p.board t ≡ false → (None ≡ usable_target p) × (0 ≡ key_pairs p)
target_covered p t is full = (
  target_usable p t false is none,
  ap (λ (x : Bool). if x then length (attackers p t) else 0) (sym full) ∙ ap (pairs_on p) (sym is),
)
  where
    none : is_taken_on p t ≡ false
    none = by_test _ refl
      where
        by_test : (b : Bool) → is_taken_on p t ≡ b → b ≡ false
        by_test false e = refl
        by_test true e =
            let (k, s, low, same, one) = Any-from_list_any (λ s. takes_en_passant p (move_to t s)) squares e in
            absurd (both_ways _ full (passing_free p (move_to t s) (and_parts (is_en_passant p (move_to t s)) _ one).0))

-- the rank behind is the one from which a pawn is ahead
pub behind_ahead : (c : Colour) (t r : ℕ) → Some r ≡ rank_behind c t → is_ahead c r t ≡ true
behind_ahead c t r e = grind (arith, common_steps)

pub none_behind : (c : Colour) (t : ℕ) → None ≡ rank_behind c t → (r : ℕ) → is_ahead c r t ≡ true → ⊥
none_behind c t e r h = grind (arith, common_steps)

-- a test of the file before, where there is one
pub west_at : {X : Type 0} (f : ℕ) (g : Bool → X) (test : ℕ → Bool) → (f ≡ 0 → ⊥) → g (test (f - 1)) ≡ g (west_of test f)
west_at zero g test some = absurd (some refl)
west_at (suc n) g test some = let back : suc n - 1 ≡ n = omega arith in ap (λ (k : ℕ). g (test k)) back

-- What is found by trying both squares.
module _ (p : Parts) (t : Square) (r : ℕ) (is : Some r ≡ rank_behind p.side t.rank) where
  pub tried_taken : (w e : Bool) → w ≡ west_of (takes_from p t r) t.file → e ≡ takes_from p t r (t.file + 1) → (w || e) ≡ is_taken_on p t
  tried_taken w e west east = rw (west, east) (sym (taken_is p t r (behind_ahead p.side t.rank r is)))

  pub tried_pairs : (old mid new : ℕ) → mid ≡ old + one_if (west_of (stands_on p r) t.file) → new ≡ mid + one_if (stands_on p r (t.file + 1))
      → new ≡ old + length (attackers p t)
  tried_pairs old mid new west east = omega (arith, west, east, count_is p t r (behind_ahead p.side t.rank r is))

pub one_at_most : (b : Bool) → one_if b ≤ 1
one_at_most true = omega arith
one_at_most false = omega arith
