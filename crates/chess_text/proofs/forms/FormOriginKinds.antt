-- The kinds of squares for a form, one after another, and how many legal moves they count.
use Rattle.std.proofs.lemmas.Map.Views.{any-filter_same}
use Rattle.chess_text.proofs.Words.{◌≡◌, ◌≢◌, ℕ, ◌<◌, ◌≤◌, Bool, true, false, cond, ◌&&◌, ◌||◌, List, [], ◌∷◌, map, length, replicate, set, get_or, inl, inr, refl, sym, ◌∙◌, ap, subst, arith, Option, None, Some, Ok, Err, ◌↔◌, is_some, count_by, if◌then◌else◌, range_with_len, filter, filter_map, cons_option, list_any, list_any_at, list_any-IsPermutation, IsPermutation, get_or-map-range_with_len, sum_by-cons, and_parts, or_right, both_ways, false_from_ne_true, Colour, White, Black, Kind, Promotion, Move, Parts, Square, square, squares, same_square, step, home, home_rank, if_safe, is_legal, is_candidate, candidates, StepsFromCandidates, Form, Castle, Man, OriginKind, Played, NoMove, Ambiguous, castling_move, move_from, describes, with_next, played, agreeing, only, form_move, is_step_of_form, kind_of_move, origin_kind, origins_of_form, nth_square, is_legal_kind, count_legal, LegalOriginsDecide, cases_eq, get_or-set_at, ext_get_or, get_or-map, get_or-replicate, get_or-set_other, length-map, NoStep, Unsafe, Legal, common_steps, rules, squares_long, some_of, same_square-refl, squares_same, and-false, or-false, length-set}
use Rattle.chess_text.proofs.forms.CastlingMoves.{castles_ends, legal_is_step, played_not}
use Rattle.chess_text.proofs.forms.OnlyElement.{filter_map-map, filter_map-filter}

-- the squares by their places
squares_by_place : squares ≡ map nth_square (range_with_len 0 64)
unfolding squares
squares_by_place = refl

pub square_at : (n : ℕ) (d : Square) → n < 64 → get_or squares n d ≡ nth_square n
square_at n d low = ap (λ ss. get_or ss n d) squares_by_place ∙ get_or-map-range_with_len nth_square 0 64 n n d low (omega arith)

-- The squares so far have their kinds, and each other has none.
pub record KindsSoFar (p : Parts) (f : Form) (kinds : List OriginKind) (tried : Square → Bool) : Type 0 where
  pub long : length kinds ≡ 64
  pub each : (n : ℕ) → n < 64 → get_or kinds n NoStep ≡ cond (tried (nth_square n)) (origin_kind p f (nth_square n)) NoStep

module _ (p : Parts) (f : Form) where
  pub none_so_far : (tried : Square → Bool) → ((s : Square) → tried s ≡ false) → KindsSoFar p f (replicate 64 NoStep) tried
  none_so_far tried none =
      record { long = refl; each = λ n low. get_or-replicate 64 n NoStep NoStep low ∙ sym (ap (λ b. cond b (origin_kind p f (nth_square n)) NoStep) (none (nth_square n))) }

  -- the square s gets its kind
  pub one_more_kind : (kinds : List OriginKind) (tried more : Square → Bool) (i : ℕ) (s : Square) → KindsSoFar p f kinds tried
      → i < 64 → nth_square i ≡ s → ((t : Square) → more t ≡ (tried t || same_square t s))
      → KindsSoFar p f (set kinds i (origin_kind p f s)) more
  one_more_kind kinds tried more i s so_far low is grows =
      record { long = length-set kinds i _ ∙ so_far.long; each = each }
    where
      apart : (n : ℕ) → n < 64 → n ≢ i → same_square (nth_square n) s ≡ false
      apart n within other = search (rules, false_from_ne_true, squares_same)

      each : (n : ℕ) → n < 64 → get_or (set kinds i (origin_kind p f s)) n NoStep ≡ cond (more (nth_square n)) (origin_kind p f (nth_square n)) NoStep
      each n within = elim (cases_eq n i) [
        | inl at ↦
            let there : nth_square n ≡ s = ap nth_square at ∙ is in
            let tested : more (nth_square n) ≡ true = ap more there ∙ (grows s ∙ or_right (tried s) _ (same_square-refl s)) in
            get_or-set_at kinds i n _ NoStep at (omega (arith, so_far.long))
            ∙ sym (ap (λ b. cond b (origin_kind p f (nth_square n)) NoStep) tested ∙ ap (origin_kind p f) there)
        | inr other ↦
            get_or-set_other kinds i n _ NoStep other ∙ so_far.each n within
            ∙ ap (λ b. cond b (origin_kind p f (nth_square n)) NoStep)
            (sym (grows (nth_square n) ∙ ap (λ b. tried (nth_square n) || b) (apart n within other) ∙ or-false _))
      ]

  -- of each other square the kind is that there is no step
  pub all_kinds : (kinds : List OriginKind) (tried : Square → Bool) → KindsSoFar p f kinds tried
      → ((n : ℕ) → n < 64 → tried (nth_square n) ≡ false → origin_kind p f (nth_square n) ≡ NoStep) → kinds ≡ origins_of_form p f
  unfolding origins_of_form
  all_kinds kinds tried so_far rest =
      ext_get_or NoStep kinds (map (origin_kind p f) squares) (so_far.long ∙ sym (length-map squares (origin_kind p f) ∙ squares_long)) each
    where
      by_tried : (n : ℕ) → n < 64 → (b : Bool) → tried (nth_square n) ≡ b → cond b (origin_kind p f (nth_square n)) NoStep ≡ origin_kind p f (nth_square n)
      by_tried n low true e = refl
      by_tried n low false e = sym (rest n low e)

      kind_at : (n : ℕ) → n < 64 → get_or (map (origin_kind p f) squares) n NoStep ≡ origin_kind p f (nth_square n)
      kind_at n low = get_or-map (origin_kind p f) squares n (square 0 0) NoStep (omega (arith, squares_long)) ∙ ap (origin_kind p f) (square_at n (square 0 0) low)

      each : (n : ℕ) → n < length kinds → get_or kinds n NoStep ≡ get_or (map (origin_kind p f) squares) n NoStep
      each n within = grind (arith, common_steps, by_tried, kind_at)

castling_from : (p : Parts) (long : Bool) (m : Move) → describes p (Castle long) m ≡ true → m.from ≡ home p 4
castling_from p false m h = (castles_ends p m _ _ h).0
castling_from p true m h = (castles_ends p m _ _ h).0

-- no step where the form says no such thing of its move
no_kind : (p : Parts) (f : Form) (m : Move) → (is_step_of_form p f m ≡ true → ⊥) → kind_of_move p f m ≡ NoStep
no_kind p f m h = ap (λ b. if b then (if is_legal p m then Legal else Unsafe) else NoStep) (false_from_ne_true _ h)

legal_tests : (x d l : Bool) → x ≡ true → l ≡ true → d ≡ true → Legal ≡ (if x && d then (if l then Legal else Unsafe) else NoStep)
legal_tests x d l h g e = grind arith

-- a legal move of which the form says this
pub kind_if_legal : (p : Parts) (f : Form) (m : Move) → is_legal p m ≡ true → describes p f m ≡ true → Legal ≡ kind_of_move p f m
kind_if_legal p f m h g = legal_tests _ _ _ (legal_is_step p m h) h g

-- a move of which it does not
pub kind_if_other : (p : Parts) (f : Form) (m : Move) → describes p f m ≡ false → NoStep ≡ kind_of_move p f m
kind_if_other p f m h = sym (no_kind p f m (λ g. both_ways _ h (and_parts (is_some (step p m)) _ g).1))

-- Castling goes from the king's home square alone.
pub castling_kinds : (p : Parts) (long : Bool) (s : Square) → same_square s (castling_move p.side long).from ≡ false
    → origin_kind p (Castle long) s ≡ NoStep
castling_kinds p long s other =
    no_kind p (Castle long) (form_move p.side (Castle long) s)
    (λ h.
    both_ways _ other
    (subst (λ t. same_square s t ≡ true)
    (castling_from p long (form_move p.side (Castle long) s) (and_parts (is_some (step p (form_move p.side (Castle long) s))) _ h).1)
    (same_square-refl s)))

-- No other piece than a candidate has such a step.
pub piece_kinds : StepsFromCandidates → (p : Parts) (k : Kind) (file rank : Option ℕ) (to : Square) (promotion : Option Promotion) (xs : List Square)
    → IsPermutation (candidates p k to) xs → (n : ℕ) → n < 64 → list_any (same_square (nth_square n)) xs ≡ false
    → origin_kind p (Man k file rank to promotion) (nth_square n) ≡ NoStep
piece_kinds from_candidates p k file rank to promotion xs perm n low none =
    no_kind p (Man k file rank to promotion) m
    (λ h.
    let both = and_parts (is_some (step p m)) _ h in
    let (q, leads) = some_of (step p m) both.0 in
    both_ways _ none (listed (from_candidates p q m k leads (and_parts _ _ (and_parts _ _ both.1).0).0)))
  where
    m : Move
    m = move_from to promotion (nth_square n)

    listed : is_candidate p k to (nth_square n) ≡ true → list_any (same_square (nth_square n)) xs ≡ true
    listed is =
        sym (list_any-IsPermutation (same_square (nth_square n)) (candidates p k to) xs perm)
        ∙ any-filter_same (same_square (nth_square n)) (is_candidate p k to) true
        (λ t same. subst (λ (u : Square). is_candidate p k to u ≡ true) (squares_same (nth_square n) t same) is) squares
        ∙ list_any_at (same_square (nth_square n)) squares n (square 0 0) (omega (arith, squares_long))
        (ap (same_square (nth_square n)) (square_at n (square 0 0) low) ∙ same_square-refl (nth_square n))

-- As many squares have a legal move of the form as moves agree with it.

-- the form's move m agrees exactly if its kind is `Legal`
kind_counts : (p : Parts) (f : Form) (m : Move)
    → length (cons_option (played (describes p f m) p m) []) ≡ cond (is_legal_kind (kind_of_move p f m)) 1 0
kind_counts p f m = by_described _
  where
    by_safe : (q : Parts) (safe : Bool) → length (cons_option (with_next m (if safe then Some q else None)) [])
        ≡ cond (is_legal_kind (if is_some (if safe then Some q else None) then Legal else Unsafe)) 1 0
    by_safe q safe = grind arith

    by_step : (o : Option Parts) → length (cons_option (with_next m (if_safe o)) [])
        ≡ cond (is_legal_kind (if is_some o && true then (if is_some (if_safe o) then Legal else Unsafe) else NoStep)) 1 0
    by_step None = refl
    by_step (Some q) = by_safe q _

    by_described : (b : Bool) → length (cons_option (played b p m) [])
        ≡ cond (is_legal_kind (if is_some (step p m) && b then (if is_some (if_safe (step p m)) then Legal else Unsafe) else NoStep)) 1 0
    by_described true = by_step _
    by_described false = rw (and-false (is_some (step p m))) refl

found_counts : {X : Type 0} (h : X → Option Played) (k : X → OriginKind)
    → ((x : X) → length (cons_option (h x) []) ≡ cond (is_legal_kind (k x)) 1 0)
    → (xs : List X) → length (filter_map h xs) ≡ count_by is_legal_kind (map k xs)
found_counts h k same [] = refl
found_counts h k same (x ∷ xs) = grind (arith, sum_by-cons (λ y. cond (is_legal_kind y) 1 0) (k x) (map k xs), same x, found_counts h k same xs)

module _ (p : Parts) (f : Form) where
  abbrev move_at : Square → Option Played
  move_at s = played (describes p f (form_move p.side f s)) p (form_move p.side f s)

  moves_count : length (filter_map move_at squares) ≡ count_legal p f
  unfolding origins_of_form
  moves_count = found_counts move_at _ (λ s. kind_counts p f _) squares

king_square_alone : (c : Colour) → filter (same_square (square 4 (home_rank c))) squares ≡ square 4 (home_rank c) ∷ []
unfolding squares
king_square_alone White = refl
king_square_alone Black = refl

agreeing_count : (p : Parts) (f : Form) → length (agreeing p f) ≡ count_legal p f
unfolding agreeing
agreeing_count p (Man k file rank to promotion) = search (rules, length, filter_map-map, moves_count)
agreeing_count p (Castle long) =
    ap (λ ss. length (filter_map (move_at p (Castle long)) ss)) (sym (king_square_alone p.side))
    ∙ ap length (filter_map-filter _ _ elsewhere squares) ∙ moves_count p _
  where
    elsewhere : (s : Square) → same_square (square 4 (home_rank p.side)) s ≡ false → move_at p (Castle long) s ≡ None
    elsewhere s other =
        played_not _ p (form_move p.side (Castle long) s)
        (false_from_ne_true _ (λ h.
        both_ways _ other (subst (λ t. same_square t s ≡ true) (castling_from p long (form_move p.side (Castle long) s) h) (same_square-refl s))))

-- what a list of moves means, by its length
only_one : (xs : List Played) → ((x : Played) × (only xs ≡ Ok x)) ↔ (length xs ≡ 1)
only_one (x ∷ []) = (λ h. refl, λ h. (x, refl))
only_one xs = (λ (z, e). cc, λ h. absurd (omega arith))

only_none : (xs : List Played) → (only xs ≡ Err NoMove) ↔ (length xs ≡ 0)
only_none xs = grind arith

only_several : (xs : List Played) → (only xs ≡ Err Ambiguous) ↔ (2 ≤ length xs)
only_several xs = grind arith

pub legal_origins_decide : LegalOriginsDecide
legal_origins_decide =
    record {
      one = λ p f. rw (agreeing_count p f) at (only_one (agreeing p f));
      none = λ p f. rw (agreeing_count p f) at (only_none (agreeing p f));
      several = λ p f. rw (agreeing_count p f) at (only_several (agreeing p f));
    }
