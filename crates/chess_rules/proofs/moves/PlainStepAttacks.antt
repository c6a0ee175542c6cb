-- A plain step gives an attack only by the piece that moves, or along the line that it leaves.
use Rattle.chess_rules.proofs.Words.{Colour, Piece, Promotion, Move, Parts, Square, same_square, between_on_rank, between_on_file, between_on_diagonal, strictly_between, squares, Board, at, put, is_empty, other, has_colour, attacks, cell_attacks, is_attacked, is_clear, king_attacked, is_position, is_on_board, promoted, carried, board_after, after, legal, if_safe, is_legal, is_check, is_aligned, is_near, king_square, reaches_from, slides, Plain, step_kind, ◌≡◌, Bool, true, false, not, ◌&&◌, ◌||◌, ◌⊎◌, inl, inr, refl, sym, ◌∙◌, ap, ap₂, subst, arith, length, Option, None, Some, is_none, is_some, option_map, if◌then◌else◌, list_any, false≢true, and_from, false_from_ne_true, nat_tests, common_steps, rules}
use Rattle.chess_rules.proofs.sets.AllSquares.{first_true, second_true, each_square, all_squares, Passes, some_square, any_square, not_true, implied}
use Rattle.chess_rules.proofs.lines.AttackToReach.{attacker_is, cell_attack_is, none_or_all, between_cases, other-other}
use Rattle.chess_rules.proofs.positions.OneKing.{StandsAt}
use Rattle.chess_rules.proofs.moves.CellsAfterPut.{OnBoard, at_put_here, length-put, moved, at_moved, on_target, on_origin, on_other}
use Rattle.chess_rules.proofs.positions.RulesOfPosition.{Sound, sound_from_position, king_of, attack_on_king}
use Rattle.chess_rules.proofs.moves.BoardAfterMove.{arriving, king_after}
use Rattle.chess_rules.proofs.moves.KindsOfSteps.{board_of, step_of_kind}
use Rattle.chess_rules.proofs.moves.LegalToPosition.{board_stays, king_moves, king_waits, other_king_stays, king_seen, from_on, to_on, legal_unless_attacked}

-- A square between two lies on a line with the second.

module _ (s u t : Square) where
  between_on_rank_aligned : between_on_rank s u t ≡ true → is_aligned u t ≡ true
  between_on_rank_aligned h = grind arith

  between_on_file_aligned : between_on_file s u t ≡ true → is_aligned u t ≡ true
  between_on_file_aligned h = grind arith

  between_on_diagonal_aligned : between_on_diagonal s u t ≡ true → is_aligned u t ≡ true
  between_on_diagonal_aligned h = grind (arith, nat_tests)

  between_aligned : strictly_between s u t ≡ true → is_aligned u t ≡ true
  between_aligned h =
      between_cases s u t h (between_on_rank_aligned) (between_on_file_aligned) (between_on_diagonal_aligned)

-- A piece that attacks on one board attacks on another where the way is clear too.

pub cell_still : (cell : Option Piece) (a b : Board) (s t : Square) → (is_clear a s t ≡ true → is_clear b s t ≡ true)
    → cell_attacks cell a s t ≡ true → cell_attacks cell b s t ≡ true
cell_still cell a b s t clear h = grind arith

-- what does not slide attacks on each board alike
no_slide : (c : Colour) (cell : Option Piece) (a b : Board) (s t : Square) → ((has_colour c cell && reaches_from cell s t) && not (is_near cell))
    ≡ false → (has_colour c cell && cell_attacks cell a s t) ≡ (has_colour c cell && cell_attacks cell b s t)
no_slide c cell a b s t none = grind arith

-- Where a piece leaves no line to k, and the piece that arrives does not attack k, k is attacked no
-- more than before.
module _ (b : Board) (from to k : Square) (cell : Option Piece) (c : Colour)
    (long : length b ≡ 64) (on_from : OnBoard from) (on_to : OnBoard to) (on_k : OnBoard k) where
  arrived : at (moved b from to cell) to ≡ cell
  arrived = at_put_here (put b from None) to cell (length-put b from None ∙ long) on_to

  clear_before : (s : Square) → is_none cell ≡ false → is_aligned from k ≡ false → is_clear (moved b from to cell) s k ≡ true → is_clear b s k ≡ true
  clear_before s full apart h =
      all_squares (λ u. not (strictly_between s u k) || is_empty b u) (λ u file rank.
      implied (strictly_between s u k) (is_empty b u) (λ between.
      empty_before u (record { file = file; rank = rank }) between
      (not_true (strictly_between s u k) _ between
      (each_square (λ u. not (strictly_between s u k) || is_empty (moved b from to cell) u) u h file rank))))
    where
      empty_before : (u : Square) → OnBoard u → strictly_between s u k ≡ true → is_empty (moved b from to cell) u ≡ true → is_empty b u ≡ true
      empty_before u on between empty = search (rules, at_moved, on_target, is_none, on_origin, between_aligned, on_other)

  abbrev pub Opens : Type 0
  Opens = (is_aligned from k ≡ false) ⊎ (list_any (slides b c k) squares ≡ false)

  attacked_before : (s : Square) → OnBoard s → is_none cell ≡ false → Opens
      → (has_colour c (at b s) && cell_attacks (at b s) (moved b from to cell) s k) ≡ true → (has_colour c (at b s) && attacks b s k) ≡ true
  attacked_before s on full (inl apart) h = grind (arith, common_steps, and_from, first_true, cell_still, clear_before)
  attacked_before s on full (inr none) h =
      sym (no_slide c (at b s) (moved b from to cell) b s k
      (false_from_ne_true (slides b c k s)
      (λ slides_there. false≢true (sym none ∙ any_square (slides b c k) s on.file on.rank slides_there)))) ∙ h

  pub calm : is_none cell ≡ false → Opens → (has_colour c cell && attacks (moved b from to cell) to k) ≡ false
      → is_attacked b c k ≡ false → is_attacked (moved b from to cell) c k ≡ false
  calm full opens quiet before = false_from_ne_true (is_attacked (moved b from to cell) c k)
      (λ h. by_square (some_square (λ s. has_colour c (at (moved b from to cell) s) && attacks (moved b from to cell) s k) h))
    where
      by_square : Passes (λ s. has_colour c (at (moved b from to cell) s) && attacks (moved b from to cell) s k) → ⊥
      by_square w =
          let on : OnBoard w.on = record { file = w.file; rank = w.rank } in
          elim (at_moved b from to w.on cell long on_from on_to on) [
            | on_target is _ ↦ false≢true (sym quiet ∙ (ap (λ o. has_colour c o && attacks (moved b from to cell) to k) (sym arrived)
                ∙ subst (λ (s : Square). (has_colour c (at (moved b from to cell) s) && attacks (moved b from to cell) s k) ≡ true) is w.holds))
            | on_origin _ none ↦ false≢true (sym (ap (has_colour c) none) ∙ first_true _ _ w.holds)
            | on_other _ _ same ↦ false≢true (sym before ∙ any_square (λ s. has_colour c (at b s) && attacks b s k) w.on w.file w.rank
                (attacked_before w.on on full opens
                (ap (λ o. has_colour c o && cell_attacks o (moved b from to cell) w.on k) (sym same) ∙ w.holds)))
          ]

  -- Where the square is attacked all the same, a piece that slides does it.
  still_slides : (s : Square) → (has_colour c (at b s) && cell_attacks (at b s) (moved b from to cell) s k) ≡ true
      → (has_colour c (at b s) && attacks b s k) ≡ false
      → (((has_colour c (at b s) && reaches_from (at b s) s k) && not (is_near (at b s))) && is_clear (moved b from to cell) s k) ≡ true
  still_slides s hits before = grind (arith, common_steps, moved, second_true, cell_attack_is, and_from, no_slide)

  pub along_line : is_none cell ≡ false → (has_colour c cell && attacks (moved b from to cell) to k) ≡ false
      → is_attacked b c k ≡ false
      → is_attacked (moved b from to cell) c k ≡ list_any (λ s. slides (moved b from to cell) c k s && is_clear (moved b from to cell) s k) squares
  along_line full quiet before = by_test (is_attacked (moved b from to cell) c k) refl
    where
      by_square : Passes (λ s. has_colour c (at (moved b from to cell) s) && attacks (moved b from to cell) s k)
          → list_any (λ s. slides (moved b from to cell) c k s && is_clear (moved b from to cell) s k) squares ≡ true
      by_square w =
          let on : OnBoard w.on = record { file = w.file; rank = w.rank } in
          elim (at_moved b from to w.on cell long on_from on_to on) [
            | on_target is _ ↦ absurd (false≢true (sym quiet ∙ (ap (λ o. has_colour c o && attacks (moved b from to cell) to k) (sym arrived)
                ∙ subst (λ (s : Square). (has_colour c (at (moved b from to cell) s) && attacks (moved b from to cell) s k) ≡ true) is w.holds)))
            | on_origin _ none ↦ absurd (false≢true (sym (ap (has_colour c) none) ∙ first_true _ _ w.holds))
            | on_other _ _ same ↦ any_square (λ s. slides (moved b from to cell) c k s && is_clear (moved b from to cell) s k) w.on w.file w.rank
                (ap (λ o. ((has_colour c o && reaches_from o w.on k) && not (is_near o)) && is_clear (moved b from to cell) w.on k) same
                ∙ still_slides w.on
                (ap (λ o. has_colour c o && cell_attacks o (moved b from to cell) w.on k) (sym same) ∙ w.holds)
                (false_from_ne_true _ (λ e. false≢true (sym before ∙ any_square (λ s. has_colour c (at b s) && attacks b s k) w.on w.file w.rank e))))
          ]

      seen : (w : Passes (λ s. slides (moved b from to cell) c k s && is_clear (moved b from to cell) s k))
          → is_attacked (moved b from to cell) c k ≡ true
      seen w = search (rules, any_square, moved, attacker_is, and_from, first_true, second_true)

      by_test : (x : Bool) → is_attacked (moved b from to cell) c k ≡ x
          → x ≡ list_any (λ s. slides (moved b from to cell) c k s && is_clear (moved b from to cell) s k) squares
      by_test true e = sym (by_square (some_square (λ s. has_colour c (at (moved b from to cell) s) && attacks (moved b from to cell) s k) e))
      by_test false e = sym (false_from_ne_true _ (λ h. false≢true (sym e
          ∙ seen (some_square (λ s. slides (moved b from to cell) c k s && is_clear (moved b from to cell) s k) h))))

-- A plain step.

pub plain_board : (p : Parts) (m : Move) (b : Board) → step_kind p m ≡ Plain → board_after p m ≡ Some b → carried p m ≡ b
plain_board p m b plain h = ap (λ k. board_of k p m) (sym plain) ∙ (step_of_kind p m b h).board

arriving_own : (c : Colour) (q : Option Promotion) (cell : Option Piece) → has_colour c cell ≡ true → has_colour c (promoted c q cell) ≡ true
arriving_own c q cell h = grind arith

pub not_other : (c : Colour) (cell : Option Piece) → has_colour c cell ≡ true → has_colour (other c) cell ≡ false
not_other c cell h = grind arith

-- the king that stays is safe, if it was not attacked and sees no square that is left
pub safe_when_plain : (p : Parts) (m : Move) (b : Board) (k : Square) → is_position p ≡ true
    → is_on_board m ≡ true → board_after p m ≡ Some b → step_kind p m ≡ Plain
    → k ≡ king_square p.side p.board → is_check p ≡ false → same_square m.from k ≡ false
    → (is_aligned m.from k ≡ false) ⊎ (list_any (slides p.board (other p.side) k) squares ≡ false) → is_legal p m ≡ true
safe_when_plain p m b k position on h plain is calm_before apart unseen =
    sym (legal_unless_attacked p m b false position on h
    (sym (ap (is_attacked b (other p.side)) (sym still)
    ∙ (ap (λ a. is_attacked a (other p.side) k) (sym (plain_board p m b plain h)) ∙ quiet))))
  where
    sound : Sound p
    sound = sound_from_position p position

    still : k ≡ king_square p.side b
    still = sym (king_waits m k apart) ∙ (ap (λ s. king_after s m) is ∙ king_moves p m b p.side position on h)

    stands : StandsAt p.side p.board (king_square p.side p.board)
    stands = king_of sound p.side

    on_k : OnBoard k
    on_k = subst (λ (s : Square). OnBoard s) (sym is) (record { file = stands.file; rank = stands.rank })

    before : is_attacked p.board (other p.side) k ≡ false
    before = ap (is_attacked p.board (other p.side)) is
        ∙ (sym (attack_on_king sound p.side) ∙ calm_before)

    arrives : has_colour p.side (arriving p m) ≡ true
    arrives = arriving_own p.side m.promotion (at p.board m.from) (board_stays p m b sound on h).own

    quiet : is_attacked (carried p m) (other p.side) k ≡ false
    quiet =
        calm p.board m.from m.to k (arriving p m) (other p.side) sound.long
        (from_on m on) (to_on m on) on_k
        (none_or_all p.side (arriving p m) arrives) unseen
        (ap (λ x. x && attacks (carried p m) m.to k) (not_other p.side (arriving p m) arrives)) before

-- whether the step gives check, seen from the other king
pub check_is_seen : (p : Parts) (m : Move) (b : Board) (k : Square)
    → is_position p ≡ true → is_on_board m ≡ true → board_after p m ≡ Some b
    → k ≡ king_square (other p.side) p.board → king_attacked b (other p.side) ≡ is_attacked b p.side k
check_is_seen p m b k position on h is = grind (arith, common_steps, king_seen, other-other, other_king_stays)

-- A plain step whose piece does not attack the other king.
module _ (p : Parts) (m : Move) (b : Board) (k : Square) (position : is_position p ≡ true)
    (on : is_on_board m ≡ true) (h : board_after p m ≡ Some b) (plain : step_kind p m ≡ Plain)
    (is : k ≡ king_square (other p.side) p.board) where
  sound : Sound p
  sound = sound_from_position p position

  stands_k : StandsAt (other p.side) p.board k
  stands_k = subst (λ (s : Square). StandsAt (other p.side) p.board s) (sym is) (king_of sound (other p.side))

  before : is_attacked p.board p.side k ≡ false
  before = ap₂ (λ c s. is_attacked p.board c s) (sym (other-other p.side)) is
      ∙ (sym (attack_on_king sound (other p.side)) ∙ sound.safe)

  arrives : has_colour p.side (arriving p m) ≡ true
  arrives = arriving_own p.side m.promotion (at p.board m.from) (board_stays p m b sound on h).own

  on_k : OnBoard k
  on_k = record { file = stands_k.file; rank = stands_k.rank }

  there : at b m.to ≡ arriving p m
  there = ap (λ a. at a m.to) (sym (plain_board p m b plain h))
      ∙ arrived p.board m.from m.to k (arriving p m) p.side sound.long (from_on m on) (to_on m on) on_k

  -- the piece that moved is of the side
  pub arrived_own : has_colour p.side (at b m.to) ≡ true
  arrived_own = ap (has_colour p.side) there ∙ arrives

  -- if it attacks the king, that is in check
  pub check_by_piece : attacks b m.to k ≡ true → king_attacked b (other p.side) ≡ true
  check_by_piece hits = check_is_seen p m b k position on h is
      ∙ any_square (λ s. has_colour p.side (at b s) && attacks b s k) m.to (to_on m on).file (to_on m on).rank
      (and_from _ _ arrived_own hits)

  module _ (harmless : attacks b m.to k ≡ false) where
    no_attacker : (has_colour p.side (arriving p m) && attacks (carried p m) m.to k) ≡ false
    no_attacker = ap₂ (λ x a. x && attacks a m.to k) arrives (plain_board p m b plain h) ∙ harmless

    -- the king is not in check, if it sees no square that is left
    pub no_check_when_plain : is_aligned m.from k ≡ false → king_attacked b (other p.side) ≡ false
    no_check_when_plain unseen =
        check_is_seen p m b k position on h is
        ∙ (ap (λ a. is_attacked a p.side k) (sym (plain_board p m b plain h))
        ∙ calm p.board m.from m.to k (arriving p m) p.side sound.long (from_on m on) (to_on m on) on_k
        (none_or_all p.side (arriving p m) arrives) (inl unseen) no_attacker before)

    -- and else it is if a piece that slides attacks it
    pub check_along_line : king_attacked b (other p.side) ≡ list_any (λ s. slides b p.side k s && is_clear b s k) squares
    check_along_line =
        check_is_seen p m b k position on h is
        ∙ subst (λ (a : Board). is_attacked a p.side k ≡ list_any (λ s. slides a p.side k s && is_clear a s k) squares)
        (plain_board p m b plain h)
        (along_line p.board m.from m.to k (arriving p m) p.side sound.long (from_on m on) (to_on m on) on_k
        (none_or_all p.side (arriving p m) arrives) no_attacker before)

-- a move that is no step is not legal, and a legal one is a step
by_step : (on : Bool) (p : Parts) (m : Move) (o : Option Board) → is_some o ≡ false
    → if_safe (if on then option_map (after p m) o else None) ≡ None
by_step on p m o h = grind arith

pub none_unless_step : (p : Parts) (m : Move) → is_some (board_after p m) ≡ false → is_some (legal p m) ≡ false
none_unless_step p m h = ap is_some (by_step (is_on_board m) p m (board_after p m) h)

pub step_when_legal : (p : Parts) (m : Move) → is_legal p m ≡ true → is_some (board_after p m) ≡ true
step_when_legal p m h = by_test (is_some (board_after p m)) refl
  where
    by_test : (x : Bool) → is_some (board_after p m) ≡ x → is_some (board_after p m) ≡ true
    by_test true e = e
    by_test false e = absurd (false≢true (sym (none_unless_step p m e) ∙ h))

pub none_when_not : {X : Type 0} (o : Option X) → is_some o ≡ false → o ≡ None
none_when_not o h = grind arith
