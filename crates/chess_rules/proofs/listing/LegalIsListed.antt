-- Each legal move is tried: those among the moves that are tried are all legal moves.
use Rattle.chess_rules.proofs.Words.{Colour, Knight, Pawn, Kind, Promotion, Move, Parts, Played, Square, squares, Board, at, has_colour, is_empty, other, own, sees, is_advance, is_double_step, is_pawn_way, last_rank, legal, every_promotion, every_move, legal_among, legal_moves, moves_between, played, is_tried, promotions_from, tries_from, tries_to, with_later, short_right, long_right, short_wing, long_wing, ◌≡◌, Bool, true, false, ◌&&◌, ◌==◌, inl, inr, List, [], map, Option, None, Some, is_some, option_map, if◌then◌else◌, refl, sym, ap, arith, cons_option, filter_map, flat_map, or_cases, false_from_ne_true, common_steps, rules}
use Rattle.chess_rules.specs.declared.piece.Promotion.TheVariants as promotions
use Rattle.chess_rules.proofs.sets.AllSquares.{second_true}
use Rattle.chess_rules.proofs.listing.FlatMaps.{all_kept, all_nothing, each_same, found_in_all, none_found}
use Rattle.chess_rules.proofs.moves.WaysToStep.{piece_step_means, pawn_step_means, passing_means, castles_means, way_of, by_piece, by_pawn, by_passing, by_short, by_long}
use Rattle.chess_rules.proofs.moves.StepsKeepBoard.{castling_ends_empty, long_is_wing, not_both, one_kind, short_is_wing}
use Rattle.chess_rules.proofs.moves.LegalToPosition.{Legal, board_stays, legal_means}
use Rattle.chess_rules.proofs.positions.RulesOfPosition.{Sound}
use Rattle.chess_rules.proofs.trying.CandidatesAreFew.{is_rider, kind_cases, sees_by_way}
use Rattle.chess_rules.proofs.trying.LegalIsTried.{kind_there, step_seen}
use Rattle.chess_rules.proofs.trying.PairsFromOrigin.{jump_back, own_squares, seen_back}
use Rattle.chess_rules.proofs.trying.PromotionsAlike.{arrives, named}

-- A legal move is from a piece of the side to move to a square on which that is tried.

empty_free : (c : Colour) (b : Board) (t : Square) → is_empty b t ≡ true → has_colour c (at b t) ≡ false
empty_free c b t h = grind arith

pawn_free : (p : Parts) (m : Move) → is_pawn_way p m ≡ true → has_colour p.side (at p.board m.to) ≡ false
pawn_free p m h =
    elim (or_cases (is_advance p m) _ h) [
      | inl one ↦ empty_free p.side p.board m.to (second_true _ (is_empty p.board m.to) one)
      | inr more ↦ elim (or_cases (is_double_step p m) _ more) [
        | inl two ↦ empty_free p.side p.board m.to (second_true _ (is_empty p.board m.to) (second_true _ _ two))
        | inr takes ↦ false_from_ne_true (has_colour p.side (at p.board m.to))
            (λ mine. not_both p.side (at p.board m.to) mine (second_true _ (has_colour (other p.side) (at p.board m.to)) takes))
      ]
    ]

target_free : (p q : Parts) (m : Move) → Legal p m q → has_colour p.side (at p.board m.to) ≡ false
target_free p q m l =
    elim (way_of p m l.board l.stepped) [
      | by_piece h _ ↦ (piece_step_means p m h).free
      | by_pawn h _ ↦ pawn_free p m (pawn_step_means p m h).way
      | by_passing h _ ↦ empty_free p.side p.board m.to (passing_means p m h).empty
      | by_short h _ ↦ empty_free p.side p.board m.to
          (castling_ends_empty p m short_wing short_is_wing (castles_means p m (short_right p.side p.rights) short_wing h))
      | by_long h _ ↦ empty_free p.side p.board m.to
          (castling_ends_empty p m long_wing long_is_wing (castles_means p m (long_right p.side p.rights) long_wing h))
    ]

no_knight : (p : Parts) (k : Kind) (s : Square) → is_rider k ≡ true → own p k s ≡ true → own p Knight s ≡ false
no_knight p k s rides owns = grind (arith, common_steps, false_from_ne_true, one_kind)

tried_when : (p : Parts) (k : Kind) (s t : Square) → own p k s ≡ true → sees k p s t ≡ true
    → has_colour p.side (at p.board t) ≡ false → is_tried p s t ≡ true
tried_when p k s t owns seen free = search (rules, kind_cases, no_knight, seen_back, sees_by_way, jump_back)

-- what is true of each legal move
record Tried (p : Parts) (m : Move) : Type 0 where
  mine : has_colour p.side (at p.board m.from) ≡ true
  tried : is_tried p m.from m.to ≡ true
  promoted : is_some m.promotion ≡ arrives p m

legal_tried : (p q : Parts) (m : Move) → Sound p → legal p m ≡ Some q → Tried p m
legal_tried p q m sound e =
    let l : Legal p m q = legal_means p m q e in
    let mine = (board_stays p m l.board sound l.on l.stepped).own in
    let (k, owns) = kind_there p.side (at p.board m.from) mine in
    record {
      mine = mine;
      tried = tried_when p k m.from m.to owns (step_seen p m k l.board owns l.stepped) (target_free p q m l);
      promoted = named p q m l;
    }

-- The moves of one pair.

none_played : (p : Parts) (m : Move) → ((q : Parts) → legal p m ≡ Some q → ⊥) → played p m ≡ None
none_played p m none = by_answer (legal p m) refl
  where
    by_answer : (o : Option Parts) → legal p m ≡ o → option_map {U = Played} (λ q. record { mv = m; next = q }) o ≡ None
    by_answer None e = refl
    by_answer (Some q) e = absurd (none q e)

abbrev move_of : Square → Square → Option Promotion → Move
move_of s t promotion = record { from = s; to = t; promotion = promotion }

module _ (h : Move → Option Played) (f : Option Promotion → Move) where
  last_promoted : h (f None) ≡ None → filter_map h (map f (promotions_from (Some promotions.Queen))) ≡ filter_map h (map f every_promotion)
  last_promoted none = ap (λ o. cons_option o (filter_map h (map f (promotions_from (Some promotions.Queen))))) (sym none)

  never_promoted : ((x : Promotion) → h (f (Some x)) ≡ None) → filter_map h (map f (promotions_from None)) ≡ filter_map h (map f every_promotion)
  never_promoted none = grind (arith, common_steps, none_found)

module _ (p : Parts) (sound : Sound p) where
  pair_tried : (s t : Square) → filter_map (played p) (tries_to p s t) ≡ filter_map (played p) (moves_between s t)
  unfolding tries_to with_later
  pair_tried s t = by_arrival ((t.rank == last_rank p.side) && own p Pawn s) refl
    where
      by_arrival : (x : Bool) → ((t.rank == last_rank p.side) && own p Pawn s) ≡ x
          → filter_map (played p) (map (move_of s t) (promotions_from (if x then Some promotions.Queen else None)))
          ≡ filter_map (played p) (moves_between s t)
      by_arrival true e = last_promoted (played p) (move_of s t)
          (none_played p (move_of s t None) (λ q l. cc ((legal_tried p q (move_of s t None) sound l).promoted, e)))
      by_arrival false e = never_promoted (played p) (move_of s t)
          (λ x. none_played p (move_of s t (Some x)) (λ q l. cc ((legal_tried p q (move_of s t (Some x)) sound l).promoted, e)))

  none_from : (s t : Square) → has_colour p.side (at p.board s) ≡ false → filter_map (played p) (moves_between s t) ≡ []
  none_from s t other =
      none_found (played p) (move_of s t) every_promotion
      (λ o. none_played p (move_of s t o) (λ q l. cc ((legal_tried p q (move_of s t o) sound l).mine, other)))

  none_to : (s t : Square) → is_tried p s t ≡ false → filter_map (played p) (moves_between s t) ≡ []
  none_to s t untried =
      none_found (played p) (move_of s t) every_promotion
      (λ o. none_played p (move_of s t o) (λ q l. cc ((legal_tried p q (move_of s t o) sound l).tried, untried)))

  -- All pairs of one origin, and of all origins.

  abbrev found_between : Square → Square → List Played
  found_between s t = filter_map (played p) (moves_between s t)

  origin_tried : (s : Square) → filter_map (played p) (tries_from p s) ≡ flat_map (found_between s) squares
  unfolding tries_from
  origin_tried s = search (rules, found_in_all, pair_tried, all_kept, none_to)

  none_of_origin : (s : Square) → has_colour p.side (at p.board s) ≡ false → flat_map (found_between s) squares ≡ []
  none_of_origin s theirs = all_nothing (found_between s) squares (λ t. none_from s t theirs)

  pub legal_listed : legal_among p (flat_map (tries_from p) (own_squares p)) ≡ legal_moves p
  unfolding legal_among every_move
  legal_listed = search (rules, found_in_all, each_same, origin_tried, all_kept, none_of_origin)
