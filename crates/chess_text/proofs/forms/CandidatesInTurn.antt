-- What a loop finds that tries the candidates of a form one by one.
use Rattle.chess_text.proofs.Words.{◌≡◌, ℕ, ◌+◌, ◌≤◌, true, false, ◌&&◌, List, [], ◌∷◌, take, drop, get_or, Option, Some, is_some, Err, refl, sym, ◌∙◌, ap, filter_map, option_to_list, ok_or, and_parts, IsPermutation-refl, Kind, Promotion, Parts, Square, Move, candidates, CandidatesComplete, own, is_legal, Man, NoMove, Ambiguous, move_from, move_of_form, only, piece_move_fits, played}
use Rattle.chess_text.proofs.forms.PieceForms.{with_position, IsLegalIfAny, kept_is_some, kept_next, fitting_is_played, other_is_not_played, candidates_own, from_square, reads_candidates, tried_at}
use Rattle.chess_text.proofs.forms.OnlyElement.{NextOf, next_of, none_left, still_none, first_one, second_one, not_at_once, at_the_end}

-- The first n candidates were tried, and one move at most was found.
module _ (p : Parts) (k : Kind) (file rank : Option ℕ) (to : Square) (promotion : Option Promotion) (n : ℕ) (found : Option Move)
    (so_far : filter_map (from_square p (Man k file rank to promotion) to promotion) (take n (candidates p k to))
    ≡ option_to_list (with_position p found)) (legal_so_far : IsLegalIfAny p found) where
  reads : CandidatesComplete → only (filter_map (from_square p (Man k file rank to promotion) to promotion) (candidates p k to))
      ≡ move_of_form p (Man k file rank to promotion)
  reads complete = reads_candidates p k file rank to promotion complete (candidates p k to) (IsPermutation-refl _)

  kept : is_some (with_position p found) ≡ is_some found
  kept = kept_is_some p found legal_so_far

  pub late : is_some found ≡ true → 1 ≤ n
  late some = not_at_once (from_square p (Man k file rank to promotion) to promotion) (candidates p k to) n (with_position p found) so_far (kept ∙ some)

  -- none is left
  pub at_end : CandidatesComplete → drop n (candidates p k to) ≡ [] → ok_or (with_position p found) NoMove ≡ move_of_form p (Man k file rank to promotion)
  at_end complete left =
      at_the_end (from_square p (Man k file rank to promotion) to promotion) (candidates p k to) n (with_position p found) so_far
      (none_left (candidates p k to) n left) ∙ reads complete

  -- the next one
  module _ (s : Square) (others : List Square) (left : drop n (candidates p k to) ≡ s ∷ others) where
    next : NextOf (candidates p k to) n s others
    next = next_of (candidates p k to) n s others left

    pub next_own : own p k s ≡ true
    next_own = rw next.is (candidates_own p k to (candidates p k to) (IsPermutation-refl _) n s next.low)

    tried : played (piece_move_fits p file rank (move_from to promotion s)) p (move_from to promotion s)
        ≡ from_square p (Man k file rank to promotion) to promotion (get_or (candidates p k to) n s)
    tried = tried_at p k file rank to promotion (candidates p k to) (IsPermutation-refl _) n s _ next.low next.is refl

    -- its move agrees, or it does not
    pub another : CandidatesComplete → (is_legal p (move_from to promotion s) && piece_move_fits p file rank (move_from to promotion s)) ≡ true
        → is_some found ≡ true → Err Ambiguous ≡ move_of_form p (Man k file rank to promotion)
    another complete agreed some =
        let m = move_from to promotion s in
        let fits = piece_move_fits p file rank m in
        let (x, is) = kept_next p m (and_parts _ fits agreed).0 in
        second_one (from_square p (Man k file rank to promotion) to promotion) (candidates p k to) n (with_position p found) so_far s
        (played fits p m) x next.low tried (fitting_is_played p m fits agreed ∙ is) (kept ∙ some) ∙ reads complete

    pub first : (is_legal p (move_from to promotion s) && piece_move_fits p file rank (move_from to promotion s)) ≡ true
        → is_some found ≡ false → filter_map (from_square p (Man k file rank to promotion) to promotion) (take (n + 1) (candidates p k to))
        ≡ option_to_list (with_position p (Some (move_from to promotion s)))
    first agreed none =
        let m = move_from to promotion s in
        let fits = piece_move_fits p file rank m in
        let (x, is) = kept_next p m (and_parts _ fits agreed).0 in
        first_one (from_square p (Man k file rank to promotion) to promotion) (candidates p k to) n (with_position p found) so_far s
        (played fits p m) x next.low tried (fitting_is_played p m fits agreed ∙ is) (kept ∙ none) ∙ ap option_to_list (sym is)

    pub passed : (is_legal p (move_from to promotion s) && piece_move_fits p file rank (move_from to promotion s)) ≡ false
        → filter_map (from_square p (Man k file rank to promotion) to promotion) (take (n + 1) (candidates p k to))
        ≡ option_to_list (with_position p found)
    passed other =
        let m = move_from to promotion s in
        let fits = piece_move_fits p file rank m in
        still_none (from_square p (Man k file rank to promotion) to promotion) (candidates p k to) n (with_position p found) so_far s
        (played fits p m) next.low tried (other_is_not_played p m fits other)
