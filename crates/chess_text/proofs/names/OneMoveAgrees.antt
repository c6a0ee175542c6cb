-- The rivals of a move, found among the candidates for its target.
use Rattle.chess_text.proofs.Words.{◌≡◌, ℕ, ◌+◌, ◌<◌, ◌≤◌, Bool, true, false, ◌&&◌, ◌||◌, List, [], ◌∷◌, length, take, get_or, refl, sym, ◌∙◌, ap, ◌==◌, list_any, IsPermutation, and_parts, take_all, list_any_more, list_any-IsPermutation, Kind, Move, Parts, Square, squares, own, legal, sees, candidates, CandidatesComplete, from_square, is_rival, rivals, on_file, on_rank, disambiguation_by, disambiguation, arith, inl, inr, not, and_from, or_cases, IsPermutation-refl, same_square, is_legal, is_candidate, cases_Bool, subst, Option, None, Some, is_none, both_ways, not-true, not-false, eqb-true, nat_tests, Colour, King, Pawn, Piece, square, gap, at, has_piece, same_kind, is_empty, other, is_ahead, is_position, captured_pawn, crossed, pawn_rank, double_rank, Wing, castles, castles_short, castles_long, OneKing, hints_fit, describes, agrees, is_capture, rules, common_steps, list_any-filter, some_of, same_square-refl, squares_same, and-true}
use Rattle.chess_text.proofs.forms.CastlingMoves.{stepped, castles_ends}
use Rattle.chess_text.proofs.forms.AgreeingAreFound.{in_squares, any_contained, said, same_move, no_promotion}
use Rattle.chess_text.proofs.forms.MoverOfMove.{PawnWay, doubles, pawn_way, pawn_takes, gap_apart}
use Rattle.chess_text.proofs.names.WrittenToForm.{file_by, rank_by, disambiguated_form, king_form_by, pawn_form_by, written, unpromoted, itself}

pub any-same : {Y : Type 0} (f g : Y → Bool) → ((y : Y) → f y ≡ g y) → (ys : List Y) → list_any f ys ≡ list_any g ys
any-same f g h [] = refl
any-same f g h (y ∷ ys) = cc (h y, any-same f g h ys)

abbrev pub seen : Parts → Move → (Square → Bool) → List Square → Bool
seen p m test xs = list_any (λ s. is_rival p m s && test s) xs

-- a rival is a candidate
rival_sees : CandidatesComplete → (p : Parts) (k : Kind) (m : Move) (s : Square)
    → own p k s ≡ true → is_rival p m s ≡ true → sees k p s m.to ≡ true
rival_sees complete p k m s h g =
    let (q, leads) = some_of (legal p (from_square m s)) (and_parts _ _ g).1 in
    (and_parts (own p k s) (sees k p s m.to) (complete p q _ k leads h)).1

same_test : (o g r t : Bool) → (o ≡ true → r ≡ true → g ≡ true) → ((o && g) && (r && t)) ≡ ((o && r) && t)
same_test o g r t h = grind arith

pub rivals_seen : CandidatesComplete → (p : Parts) (k : Kind) (m : Move) (test : Square → Bool) (xs : List Square)
    → IsPermutation (candidates p k m.to) xs → seen p m test xs ≡ list_any test (rivals p k m)
rivals_seen complete p k m test xs perm =
    sym (list_any-IsPermutation _ _ xs perm)
    ∙ (list_any-filter _ _ squares
    ∙ (any-same _ _
    (λ s. same_test (own p k s) (sees k p s m.to) (is_rival p m s) (test s) (rival_sees complete p k m s)) squares
    ∙ sym (list_any-filter test _ squares)))

-- so far
pub record Found (p : Parts) (m : Move) (xs : List Square) (n : ℕ) (any file rank : Bool) : Type 0 where
  pub any_is : any ≡ seen p m (λ s. true) (take n xs)
  pub file_is : file ≡ seen p m (λ s. s.file == m.from.file) (take n xs)
  pub rank_is : rank ≡ seen p m (λ s. s.rank == m.from.rank) (take n xs)

module _ (p : Parts) (m : Move) where
  one_more : (test : Square → Bool) (xs : List Square) (n : ℕ) (s : Square) (before after rival : Bool) → n < length xs → s ≡ get_or xs n s
      → rival ≡ is_rival p m s → before ≡ seen p m test (take n xs) → after ≡ (before || (rival && test s))
      → after ≡ seen p m test (take (n + 1) xs)
  one_more test xs n s before after rival low is e f g = cc (list_any_more _ xs n s low)

  pub found_more : (xs : List Square) (n : ℕ) (s : Square) (rival any file rank any' file' rank' : Bool) → n < length xs → s ≡ get_or xs n s
      → rival ≡ is_rival p m s → Found p m xs n any file rank → any' ≡ (any || rival) → file' ≡ (file || (rival && (s.file == m.from.file)))
      → rank' ≡ (rank || (rival && (s.rank == m.from.rank))) → Found p m xs (n + 1) any' file' rank'
  found_more xs n s rival any file rank any' file' rank' low is e f a b c = search (rules, one_more, and-true)

  -- and in the end
  pub all_found : (test : Square → Bool) (xs : List Square) (n : ℕ) → length xs ≤ n → seen p m test (take n xs) ≡ seen p m test xs
  all_found test xs n h = cc (take_all n xs h)

pub apart_same : (s : Square) (others : List Square) (any file rank : Bool)
    → any ≡ list_any (λ r. true) others → file ≡ on_file s others → rank ≡ on_rank s others
    → disambiguation_by s any file rank ≡ disambiguation s others
apart_same s others any file rank a b c = cc

-- A piece that alone of its kind may go to the target has no rivals.

only_one : (s : Square) (xs : List Square) → length xs ≤ 1 → list_any (same_square s) xs ≡ true → xs ≡ s ∷ []
only_one s [] few h = cc
only_one s (x ∷ []) few h = elim (or_cases _ false h) [ inl e ↦ ap (λ y. y ∷ []) (sym (squares_same s x e)) | inr none ↦ cc ]
only_one s (x ∷ y ∷ ys) few h = absurd (omega arith)

module _ (complete : CandidatesComplete) (p : Parts) (k : Kind) (m : Move) (allowed : is_legal p m ≡ true)
    (stands : own p k m.from ≡ true) (few : length (candidates p k m.to) ≤ 1) where
  own_candidate : is_candidate p k m.to m.from ≡ true
  own_candidate = let (q, leads) = some_of (legal p m) allowed in complete p q m k leads stands

  pub lone_candidate : candidates p k m.to ≡ m.from ∷ []
  lone_candidate =
      only_one _ _ few
      (list_any-filter _ _ squares
      ∙ any_contained _ squares m.from
      (in_squares _ (stepped p m allowed).from_on)
      (and_from (is_candidate p k m.to _) (same_square m.from m.from) own_candidate (same_square-refl m.from)))

  pub no_rivals : (test : Square → Bool) → false ≡ list_any test (rivals p k m)
  no_rivals test =
      sym (ap (λ xs. seen p m test xs) lone_candidate
      ∙ ap (λ b. ((not b && is_legal p (from_square m m.from)) && test m.from) || false) (same_square-refl m.from))
      ∙ rivals_seen complete p k m test (candidates p k m.to) (IsPermutation-refl _)

-- No other legal move agrees with the form that is written.

-- The king: a position has one of each colour.

king_alone : OneKing → (p : Parts) (m n : Move) → is_position p ≡ true
    → is_legal p m ≡ true → is_legal p n ≡ true → own p King m.from ≡ true
    → describes p (king_form_by (castles_short p m) (castles_long p m) m) n ≡ true → n ≡ m
king_alone one p m n position h g stands = by_wing _ _ refl refl
  where
    together : (right : Bool) (wing : Wing) → castles p m right wing ≡ true → castles p n right wing ≡ true → n ≡ m
    together right wing e d = grind (arith, common_steps, castles_ends, same_move, no_promotion)

    by_wing : (a b : Bool) → castles_short p m ≡ a → castles_long p m ≡ b → describes p (king_form_by a b m) n ≡ true → n ≡ m
    by_wing true b e f d = together _ _ e d
    by_wing false true e f d = together _ _ f d
    by_wing false false e f d =
        let s = said p King None None m.to None n d in
        same_move n m (one p p.side n.from m.from position (stepped p n g).from_on (stepped p m h).from_on s.stands stands) s.there
        (s.named ∙ sym (unpromoted p m King h stands refl))

-- A queen, a rook, a bishop or a knight: another one is a rival, and is told apart.

is_it_rival : (p : Parts) (m n : Move) → is_legal p n ≡ true → n.to ≡ m.to
    → n.promotion ≡ m.promotion → same_square n.from m.from ≡ false → is_rival p m n.from ≡ true
is_it_rival p m n g to named apart =
    and_from (not _) (is_legal p (from_square m n.from)) (ap not apart)
    (rw (same_move n (from_square m n.from) refl to named) at g)

pub among_rivals : (p : Parts) (k : Kind) (m n : Move) (test : Square → Bool) → is_legal p n ≡ true
    → own p k n.from ≡ true → is_rival p m n.from ≡ true → test n.from ≡ true → list_any test (rivals p k m) ≡ true
among_rivals p k m n test g stands rival found = grind (arith, common_steps, list_any-filter, any_contained, in_squares, stepped)

pub turn : (x y : ℕ) → (x == y) ≡ true → (y == x) ≡ true
turn x y h = grind (arith, nat_tests)

-- a rival does not fit the hints that tell it apart
told_away : (s t : Square) (any file rank : Bool)
    → hints_fit (file_by s any file rank) (rank_by s any file rank) t ≡ true → same_square t s ≡ false
    → any ≡ true → ((t.file == s.file) ≡ true → file ≡ true) → ((t.rank == s.rank) ≡ true → rank ≡ true) → ⊥
told_away s t any file rank fits apart a b c = grind (arith, nat_tests)

disambiguated_alone : (p : Parts) (k : Kind) (m n : Move) → is_legal p m ≡ true → is_legal p n ≡ true
    → own p k m.from ≡ true → same_kind k Pawn ≡ false → describes p (disambiguated_form k p m) n ≡ true → n ≡ m
disambiguated_alone p k m n h g stands may_have_rivals d =
    let s = said p k _ _ m.to None n d in
    let named = s.named ∙ sym (unpromoted p m k h stands may_have_rivals) in
    elim (cases_Bool (same_square n.from m.from)) [
      | inl e ↦ same_move n m (squares_same _ _ e) s.there named
      | inr e ↦
          let among = λ (test : Square → Bool). among_rivals p k m n test g s.stands (is_it_rival p m n g s.there named e) in
          absurd (told_away m.from n.from _ _ _ s.hints e (among (λ r. true) refl)
          (among (λ r. r.file == m.from.file)) (among (λ r. r.rank == m.from.rank)))
    ]

-- A pawn.

-- one rank ahead: from one rank alone
behind : (c : Colour) (a b t : ℕ) → is_ahead c a t ≡ true → is_ahead c b t ≡ true → a ≡ b
behind c a b t h g = grind (arith, nat_tests)

-- what stands on the square crossed
module _ (c : Colour) (cell : Option Piece) where
  no_one : is_none cell ≡ true → has_piece c Pawn cell ≡ true → ⊥
  no_one h g = grind arith

  not_both : has_piece c Pawn cell ≡ true → has_piece (other c) Pawn cell ≡ true → ⊥
  not_both h g = grind arith

-- a pawn does not come to where another one's double step crosses, nor past it
module _ (p : Parts) (x y : Move) (there : y.to ≡ x.to) (ahead : is_ahead p.side y.from.rank y.to.rank ≡ true)
    (file : x.from.file ≡ x.to.file) (low : x.from.rank ≡ pawn_rank p.side)
    (high : x.to.rank ≡ double_rank p.side) (free : is_empty p.board (crossed x) ≡ true) where
  onto : (f : ℕ) → f ≡ y.to.file → square f y.from.rank ≡ crossed x
  onto f e = grind (arith, common_steps)

  past : has_piece (other p.side) Pawn (at p.board (captured_pawn y)) ≡ true → ⊥
  past taken =
      no_one (other p.side) (at p.board (crossed x)) free (subst (λ s. has_piece (other p.side) Pawn (at p.board s) ≡ true) (onto _ refl) taken)

module _ (p : Parts) (m n : Move) (pawn_m : own p Pawn m.from ≡ true) (pawn_n : own p Pawn n.from ≡ true) (there : n.to ≡ m.to) where
  same_rank : is_ahead p.side m.from.rank m.to.rank ≡ true → is_ahead p.side n.from.rank n.to.rank ≡ true → n.from.rank ≡ m.from.rank
  same_rank h g = behind _ _ _ _ (rw there at g) h

  to_file : n.to.file ≡ m.to.file
  to_file = cc

  -- with the file told
  by_file : n.from.file ≡ m.from.file → gap m.from.file m.to.file ≡ 1
      → is_ahead p.side m.from.rank m.to.rank ≡ true → PawnWay p n → n.from ≡ m.from
  by_file file aside ahead h = grind (arith, common_steps, aside, same_rank, gap_apart, to_file, doubles)

  file_of_target : n.from.file ≡ n.to.file → m.from.file ≡ m.to.file → n.from.file ≡ m.from.file
  file_of_target h g = cc

  -- with no file told
  straight_alone : PawnWay p m → PawnWay p n → m.from.file ≡ m.to.file → n.from ≡ m.from
  straight_alone h wn file = grind (arith, common_steps, gap_apart, not_both, file_of_target, same_rank, doubles, past)

  aside : PawnWay p m → (m.from.file == m.to.file) ≡ false
      → (gap m.from.file m.to.file ≡ 1) × (is_ahead p.side m.from.rank m.to.rank ≡ true)
  aside g h = grind (arith, common_steps, both_ways, itself, doubles)

pawn_alone : (p : Parts) (m n : Move) → is_legal p m ≡ true → is_legal p n ≡ true
    → own p Pawn m.from ≡ true → describes p (pawn_form_by (is_capture p m) m) n ≡ true → n ≡ m
pawn_alone p m n h g pawn d = by_capture _ (pawn_takes p m pawn h) d
  where
    by_capture : (b : Bool) → b ≡ not (m.from.file == m.to.file) → describes p (pawn_form_by b m) n ≡ true → n ≡ m
    by_capture false e d =
        let s = said p Pawn None None m.to m.promotion n d in
        same_move n m (straight_alone p m n pawn s.stands s.there (pawn_way p m h pawn)
        (pawn_way p n g s.stands) (eqb-true m.from.file m.to.file (not-false _ (sym e)))) s.there s.named
    by_capture true e d =
        let s = said p Pawn (Some m.from.file) None m.to m.promotion n d in
        let way = aside p m n pawn s.stands s.there (pawn_way p m h pawn) (not-true (m.from.file == m.to.file) (sym e)) in
        let file = eqb-true m.from.file n.from.file (and_parts (m.from.file == n.from.file) true s.hints).0 in
        same_move n m (by_file p m n pawn s.stands s.there (sym file) way.0 way.1 (pawn_way p n g s.stands)) s.there s.named

-- All kinds.

pub alone : OneKing → (p : Parts) (k : Kind) (m n : Move) → is_position p ≡ true
    → is_legal p m ≡ true → own p k m.from ≡ true → agrees p (written k p m) n ≡ true → n ≡ m
alone one p k m n position h stands a = by_kind k stands (and_parts _ _ a)
  where
    by_kind : (k : Kind) → own p k m.from ≡ true → (is_legal p n ≡ true) × (describes p (written k p m) n ≡ true) → n ≡ m
    by_kind King s b = king_alone one p m n position h b.0 s b.1
    by_kind Pawn s b = pawn_alone p m n h b.0 s b.1
    by_kind k s b = disambiguated_alone p k m n h b.0 s refl b.1
