-- The origin of each step is a candidate, and so is that of each legal move.
use Rattle.chess_rules.proofs.Words.{Colour, Kind, Pawn, Move, Parts, Square, square, gap, inside, same_square, strictly_between, between_on_rank, Board, at, is_empty, is_clear, kind_attacks, attacks, own, home, home_rank, is_advance, is_double_step, is_pawn_step, short_right, long_right, short_wing, long_wing, Wing, sees, is_aligned, step, if_safe, is_on_board, board_after, after, CandidatesComplete, StepsFromCandidates, ◌≡◌, ℕ, ◌<◌, Bool, true, false, Option, None, Some, option_map, if◌then◌else◌, not, ◌&&◌, ◌||◌, refl, sym, ap₂, subst, arith, ◌==◌, nat_tests, or_cases, or_left, or_right, and_from, King, Knight, Piece, Promotion, squares, is_jump, same_kind, has_colour, has_piece, is_position, is_legal, every_promotion, has_legal_move, king_square, one_move, is_legal_pair, is_king_step, is_untried, has_untried_move, has_king_step, inl, inr, List, [], ◌∷◌, ◌∙◌, filter, list_any, false_from_ne_true, rules, common_steps}
use Rattle.chess_rules.proofs.moves.WaysToStep.{Castles, piece_step_means, passing_means, castles_means, way_of, by_piece, by_pawn, by_passing, by_short, by_long}
use Rattle.chess_rules.proofs.sets.AllSquares.{first_true, second_true, each_square, equal_from, equal_tests, not_true, same_tests, Passes, some_square, any_square}
use Rattle.chess_rules.proofs.lines.AttackToReach.{near, ahead_gap, attack_seen, clear_if}
use Rattle.chess_rules.proofs.moves.StepsKeepBoard.{attacks_as, double_ranks, one_kind, colour_of_piece}
use Rattle.chess_rules.proofs.positions.OneKing.{king_only_there}
use Rattle.chess_rules.proofs.moves.CellsAfterPut.{OnBoard}
use Rattle.chess_rules.proofs.positions.RulesOfPosition.{Sound, sound_from_position, king_of}
use Rattle.chess_rules.proofs.moves.LegalToPosition.{board_stays, Legal, from_on, to_on}
use Rattle.chess_rules.proofs.trying.FoundLists.{list_any-filter}
use Rattle.chess_rules.proofs.trying.CandidatesAreFew.{is_rider, kind_cases, sees_by_way}
use Rattle.chess_rules.proofs.trying.PromotionsAlike.{legal_after, one_will_do}

-- what a piece attacks it sees
seen_by : (k : Kind) (c : Colour) (p : Parts) (s t : Square) → kind_attacks k c p.board s t ≡ true → sees k p s t ≡ true
seen_by k c p s t h = grind (arith, attack_seen)

apart_by_rank : (s t : Square) → 0 < gap s.rank t.rank → not (same_square s t) ≡ true
apart_by_rank s t h = grind arith

advance_seen : (p : Parts) (m : Move) → is_advance p m ≡ true → sees Pawn p m.from m.to ≡ true
advance_seen p m h = grind (arith, common_steps, first_true, equal_from, ahead_gap, second_true, near)

-- what lies between two squares of one file, or of one rank

file_means : (s u t : Square) → s.file ≡ t.file → strictly_between s u t ≡ true
    → (u.file ≡ s.file) × (inside s.rank u.rank t.rank ≡ true)
file_means s u t same h = grind (arith, nat_tests)

rank_means : (s u t : Square) → s.rank ≡ t.rank → strictly_between s u t ≡ true → between_on_rank s u t ≡ true
rank_means s u t same h = grind (arith, nat_tests)

-- a pawn's double step is seen: the one square between is empty
double_seen : (p : Parts) (m : Move) → is_double_step p m ≡ true → sees Pawn p m.from m.to ≡ true
double_seen p m h =
    search (rules, first_true, second_true, equal_from, double_ranks, and_from, or_left, or_right, equal_tests, apart_by_rank, clear_if, file_means)

-- Castling: the king sees its end over the square that it crosses.

-- a part of a clear way on one rank is clear
clear_part : (b : Board) (r e k : ℕ) → ((x : ℕ) → inside 4 x e ≡ true → inside 4 x k ≡ true)
    → is_clear b (square 4 r) (square k r) ≡ true → is_clear b (square 4 r) (square e r) ≡ true
clear_part b r e k wider h =
    clear_if b (square 4 r) (square e r) (λ u file rank between.
    let on : between_on_rank (square 4 r) u (square e r) ≡ true = rank_means (square 4 r) u (square e r) refl between in
    let rest : ((u.rank == r) && inside 4 u.file e) ≡ true = second_true (r == r) _ on in
    not_true (strictly_between (square 4 r) u (square k r)) _
    (or_left _ _ (and_from (r == r) _ (first_true (r == r) _ on)
    (and_from (u.rank == r) _ (first_true (u.rank == r) _ rest) (wider u.file (second_true (u.rank == r) _ rest)))))
    (each_square (λ v. not (strictly_between (square 4 r) v (square k r)) || is_empty b v) u h file rank))

short_part : (x : ℕ) → inside 4 x 6 ≡ true → inside 4 x 7 ≡ true
short_part x h = grind arith

long_part : (x : ℕ) → inside 4 x 2 ≡ true → inside 4 x 0 ≡ true
long_part x h = grind arith

short_way : (b : Board) (c : Colour) → is_clear b (square 4 (home_rank c)) (square 7 (home_rank c)) ≡ true
    → (is_aligned (square 4 (home_rank c)) (square 6 (home_rank c)) && is_clear b (square 4 (home_rank c)) (square 6 (home_rank c))) ≡ true
short_way b c h = grind (arith, clear_part, short_part)

long_way : (b : Board) (c : Colour) → is_clear b (square 4 (home_rank c)) (square 0 (home_rank c)) ≡ true
    → (is_aligned (square 4 (home_rank c)) (square 2 (home_rank c)) && is_clear b (square 4 (home_rank c)) (square 2 (home_rank c))) ≡ true
long_way b c h = grind (arith, clear_part, long_part)

-- Each way to step.

module _ (p : Parts) where
  sees_pawn : (k : Kind) (s t : Square) → own p k s ≡ true → own p Pawn s ≡ true → sees Pawn p s t ≡ true → sees k p s t ≡ true
  sees_pawn k s t h g seen = grind arith

  by_attack : (m : Move) (k : Kind) → own p k m.from ≡ true → attacks p.board m.from m.to ≡ true → sees k p m.from m.to ≡ true
  by_attack m k h g = seen_by k p.side p m.from m.to (attacks_as p.side k (at p.board m.from) p.board m.from m.to h g)

  seen_by_pawn : (m : Move) (k : Kind) → own p k m.from ≡ true → is_pawn_step p m ≡ true → sees k p m.from m.to ≡ true
  seen_by_pawn m k h g = grind (arith, or_cases, sees_pawn, advance_seen, double_seen, by_attack, first_true)

  by_castling : (m : Move) (k : Kind) (wing : Wing)
      → (is_clear p.board (home p 4) (home p wing.rook) ≡ true → (is_aligned (home p 4) (home p wing.end) && is_clear p.board (home p 4) (home p wing.end)) ≡ true)
      → own p k m.from ≡ true → Castles p m wing → sees k p m.from m.to ≡ true
  by_castling m k wing way h g = grind arith

  pub step_seen : (m : Move) (k : Kind) (b : Board) → own p k m.from ≡ true → board_after p m ≡ Some b → sees k p m.from m.to ≡ true
  step_seen m k b h stepped =
      elim (way_of p m b stepped) [
        | by_piece w _ ↦ by_attack m k h (piece_step_means p m w).hits
        | by_pawn w _ ↦ seen_by_pawn m k h w
        | by_passing w _ ↦ by_attack m k h (passing_means p m w).hits
        | by_short w _ ↦
            by_castling m k short_wing (short_way p.board p.side) h (castles_means p m (short_right p.side p.rights) short_wing w)
        | by_long w _ ↦ by_castling m k long_wing (long_way p.board p.side) h (castles_means p m (long_right p.side p.rights) long_wing w)
      ]

  -- what the parts after a step say of it
  board_of : (m : Move) (q : Parts) (on : Bool) (o : Option Board) → (if on then option_map (after p m) o else None) ≡ Some q
      → (b : Board) × (o ≡ Some b)
  board_of m q on o h = grind (arith, common_steps)

-- a legal move is a step
step_of : (o : Option Parts) (q : Parts) → if_safe o ≡ Some q → o ≡ Some q
step_of o q h = grind arith

pub steps_from_candidates : StepsFromCandidates
steps_from_candidates p q m k h own =
    let (b, stepped) = board_of p m q (is_on_board m) (board_after p m) h in
    and_from _ _ own (step_seen p m k b own stepped)

pub candidates_complete : CandidatesComplete
candidates_complete p q m k h own = steps_from_candidates p q m k (step_of (step p m) q h) own

-- A move is legal exactly if one of the pairs that are tried is.

-- What is hit is a legal move.

any_promotion : (test : Option Promotion → Bool) (o : Option Promotion) → test o ≡ true → list_any test every_promotion ≡ true
any_promotion test o h = grind arith

abbrev some_promotion : Parts → Square → Square → Bool
some_promotion p from to = list_any (λ promotion. is_legal p (record { from = from; to = to; promotion = promotion })) every_promotion

moves_when : (p : Parts) (m : Move) → is_legal p m ≡ true → has_legal_move p ≡ true
moves_when p m h = by_squares (legal_after p m h)
  where
    by_squares : ((q : Parts) × Legal p m q) → has_legal_move p ≡ true
    by_squares (q, l) =
        let from : OnBoard m.from = from_on m l.on in
        let to : OnBoard m.to = to_on m l.on in
        any_square (λ s. list_any (λ t. some_promotion p s t) squares) m.from from.file from.rank
        (any_square (λ t. some_promotion p m.from t) m.to to.file to.rank
        (any_promotion (λ promotion. is_legal p (record { from = m.from; to = m.to; promotion = promotion })) m.promotion h))

moves_with_pair : (p : Parts) (s t : Square) → is_legal_pair p s t ≡ true → has_legal_move p ≡ true
unfolding is_legal_pair
moves_with_pair p s t h = moves_when p (one_move p s t) h

moves_with_king : (p : Parts) → has_king_step p ≡ true → has_legal_move p ≡ true
unfolding has_king_step
moves_with_king p h =
    let king : Square = king_square p.side p.board in
    let to : Passes (λ t. is_king_step p t && is_legal_pair p king t) =
    some_square (λ t. is_king_step p t && is_legal_pair p king t) (sym (list_any-filter (is_legal_pair p king) (is_king_step p) squares) ∙ h) in
    moves_with_pair p king to.on (second_true (is_king_step p to.on) _ to.holds)

moves_with_other : (p : Parts) → list_any (has_untried_move p) squares ≡ true → has_legal_move p ≡ true
unfolding has_untried_move
moves_with_other p h = by_target (some_square (λ t. list_any (λ s. is_legal_pair p s t) (filter (is_untried p t) squares)) h)
  where
    by_target : Passes (λ t. list_any (λ s. is_legal_pair p s t) (filter (is_untried p t) squares)) → has_legal_move p ≡ true
    by_target to =
        let from : Passes (λ s. is_untried p to.on s && is_legal_pair p s to.on) = some_square (λ s. is_untried p to.on s
        && is_legal_pair p s to.on) (sym (list_any-filter (λ s. is_legal_pair p s to.on) (is_untried p to.on) squares) ∙ to.holds) in
        moves_with_pair p from.on to.on (second_true (is_untried p to.on from.on) _ from.holds)

-- A legal move is hit.

-- the piece is one of some kind
pub kind_there : (c : Colour) (cell : Option Piece) → has_colour c cell ≡ true → (k : Kind) × (has_piece c k cell ≡ true)
kind_there c None h = cc
kind_there c (Some x) h = (x.kind, and_from _ _ h (itself x.kind))
  where
    itself : (k : Kind) → same_kind k k ≡ true
    itself k = grind arith

king_hit : (p : Parts) (s t : Square) → Sound p → OnBoard s → OnBoard t → own p King s ≡ true
    → is_king_step p t ≡ true → is_legal_pair p s t ≡ true → has_king_step p ≡ true
unfolding has_king_step
king_hit p s t sound on_s on_t owns step h =
    list_any-filter (is_legal_pair p (king_square p.side p.board)) (is_king_step p) squares
    ∙ any_square (λ u. is_king_step p u && is_legal_pair p (king_square p.side p.board) u) t on_t.file on_t.rank
    (and_from (is_king_step p t) (is_legal_pair p (king_square p.side p.board) t) step (subst (λ (u : Square). is_legal_pair p u t ≡ true) one h))
  where
    one : s ≡ king_square p.side p.board
    one = king_only_there p.side p.board s (king_square p.side p.board) sound.long (sound.kings_of p.side)
        (record { file = on_s.file; rank = on_s.rank; king = owns }) (king_of sound p.side)

other_hit : (p : Parts) (s t : Square) → OnBoard s → OnBoard t → is_untried p t s ≡ true
    → is_legal_pair p s t ≡ true → list_any (has_untried_move p) squares ≡ true
unfolding has_untried_move
other_hit p s t on_s on_t left h =
    any_square (λ u. list_any (λ q. is_legal_pair p q u) (filter (is_untried p u) squares)) t on_t.file on_t.rank
    (list_any-filter (λ q. is_legal_pair p q t) (is_untried p t) squares
    ∙ any_square (λ q. is_untried p t q && is_legal_pair p q t) s on_s.file on_s.rank (and_from (is_untried p t s) (is_legal_pair p s t) left h))

jump_untried : (p : Parts) (s t : Square) → own p Knight s ≡ true → is_jump s t ≡ true → is_untried p t s ≡ true
jump_untried p s t owns jumps = grind arith

way_untried : (p : Parts) (k : Kind) (s t : Square) → own p k s ≡ true → is_rider k ≡ true
    → sees k p s t ≡ true → (is_king_step p t && own p King s) ≡ false → is_untried p t s ≡ true
way_untried p k s t owns rides seen far =
    grind (arith, or_right, and_from, colour_of_piece, first_true, second_true, sees_by_way, false_from_ne_true, is_rider, one_kind)

hit_when : (p : Parts) (m : Move) → is_position p ≡ true → is_legal p m ≡ true
    → (has_king_step p || list_any (has_untried_move p) squares) ≡ true
hit_when p m position h = by_legal (legal_after p m h)
  where
    pair : is_legal_pair p m.from m.to ≡ true
    pair = one_will_do p m position h

    sound : Sound p
    sound = sound_from_position p position

    by_kind : OnBoard m.from → OnBoard m.to → (k : Kind) → own p k m.from ≡ true
        → sees k p m.from m.to ≡ true → (has_king_step p || list_any (has_untried_move p) squares) ≡ true
    by_kind from to k owns seen =
        elim (kind_cases k) [
          | inl rides ↦ by_step (is_king_step p m.to) refl (own p King m.from) refl rides
          | inr knight ↦ or_right (has_king_step p) _
              (other_hit p m.from m.to from to (jump_untried p m.from m.to (subst (λ (l : Kind). own p l m.from ≡ true) knight owns)
              (subst (λ (l : Kind). sees l p m.from m.to ≡ true) knight seen)) pair)
        ]
      where
        by_step : (x : Bool) → is_king_step p m.to ≡ x → (y : Bool) → own p King m.from ≡ y
            → is_rider k ≡ true → (has_king_step p || list_any (has_untried_move p) squares) ≡ true
        by_step true step true king rides = or_left _ (list_any (has_untried_move p) squares) (king_hit p m.from m.to sound from to king step pair)
        by_step true step false other rides = or_right (has_king_step p) _
            (other_hit p m.from m.to from to (way_untried p k m.from m.to owns rides seen (ap₂ (λ v w. v && w) step other)) pair)
        by_step false far y other rides = or_right (has_king_step p) _
            (other_hit p m.from m.to from to (way_untried p k m.from m.to owns rides seen (ap₂ (λ v w. v && w) far other)) pair)

    by_legal : ((q : Parts) × Legal p m q) → (has_king_step p || list_any (has_untried_move p) squares) ≡ true
    by_legal (q, l) =
        let (k, owns) = kind_there p.side (at p.board m.from) (board_stays p m l.board sound l.on l.stepped).own in
        by_kind (from_on m l.on) (to_on m l.on) k owns (step_seen p m k l.board owns l.stepped)

promotion_of : (p : Parts) (s t : Square) (os : List (Option Promotion))
    → list_any (λ promotion. is_legal p (record { from = s; to = t; promotion = promotion })) os ≡ true
    → (o : Option Promotion) × (is_legal p (record { from = s; to = t; promotion = o }) ≡ true)
promotion_of p s t [] h = cc
promotion_of p s t (o ∷ os) h =
    elim (or_cases (is_legal p (record { from = s; to = t; promotion = o })) _ h) [
      | inl here ↦ (o, here)
      | inr later ↦ promotion_of p s t os later
    ]

-- the search finds a legal move exactly if there is one
pub legal_move_found : (p : Parts) → is_position p ≡ true → has_legal_move p ≡ (has_king_step p || list_any (has_untried_move p) squares)
legal_move_found p position =
    same_tests _ _ (λ h. by_from (some_square (λ s. list_any (λ t. some_promotion p s t) squares) h))
    (λ h. elim (or_cases (has_king_step p)
    (list_any (has_untried_move p) squares) h) [ inl king ↦ moves_with_king p king | inr other ↦ moves_with_other p other ])
  where
    by_to : (s : Square) → Passes (λ t. some_promotion p s t) → (has_king_step p || list_any (has_untried_move p) squares) ≡ true
    by_to s w =
        let (o, legal) = promotion_of p s w.on every_promotion w.holds in
        hit_when p (record { from = s; to = w.on; promotion = o }) position legal

    by_from : Passes (λ s. list_any (λ t. some_promotion p s t) squares) → (has_king_step p || list_any (has_untried_move p) squares) ≡ true
    by_from w = by_to w.on (some_square (λ t. some_promotion p w.on t) w.holds)
