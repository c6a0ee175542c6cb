-- In check, a move to no square that meets the attack is not legal.
use Rattle.chess_rules.proofs.Words.{Colour, King, Knight, Pawn, Piece, Move, Parts, Square, same_square, strictly_between, is_adjacent, squares, Board, at, cell_of, is_empty, other, has_colour, attacks, cell_attacks, is_attacked, is_clear, king_attacked, is_position, is_target, own, short_right, short_wing, long_right, long_wing, Wing, castles, carried, is_legal, is_check, king_square, has, members, is_king_step, is_untried, one_move, is_legal_pair, has_untried_move, Bits, ◌≡◌, ◌≢◌, ℕ, Bool, true, false, not, ◌&&◌, ◌||◌, refl, sym, ◌∙◌, ap, ap₂, subst, arith, length, Option, None, is_none, list_any, false≢true, and_from, false_from_ne_true, not-true, common_steps, HasAttacker, MeetsAttack, is_king_move, is_unattacked, stand_ready, rules}
use Rattle.chess_rules.proofs.moves.WaysToStep.{PieceStep, Castles, piece_step_means, pawn_step_means, passing_means, castles_means, way_of, by_piece, by_pawn, by_passing, by_short, by_long}
use Rattle.chess_rules.proofs.sets.AllSquares.{first_true, second_true, each_square, Passes, some_square, any_square, not_true, cell_of-square_at}
use Rattle.chess_rules.proofs.lines.AttackToReach.{clear_if, squares_same, other-other, adjacent_back}
use Rattle.chess_rules.proofs.positions.OneKing.{StandsAt, king_only_there}
use Rattle.chess_rules.proofs.moves.CellsAfterPut.{OnBoard, moved, at_moved, on_target, on_origin, on_other}
use Rattle.chess_rules.proofs.positions.RulesOfPosition.{Sound, sound_from_position, king_of, attack_on_king}
use Rattle.chess_rules.proofs.moves.BoardAfterMove.{arriving}
use Rattle.chess_rules.proofs.moves.StepsKeepBoard.{attacks_as, one_kind}
use Rattle.chess_rules.proofs.moves.LegalToPosition.{Legal, board_stays, king_moves, king_waits, king_seen, from_on, to_on}
use Rattle.chess_rules.proofs.moves.PlainStepAttacks.{cell_still, not_other}
use Rattle.chess_rules.proofs.sets.SetsToSquares.{any_member}
use Rattle.chess_rules.proofs.trying.FoundLists.{list_any-filter}
use Rattle.chess_rules.proofs.trying.PromotionsAlike.{legal_after}

-- An attacker that is not taken, on a way that stays clear, attacks still.
module _ (b : Board) (from to k : Square) (cell : Option Piece) (c : Colour)
    (long : length b ≡ 64) (on_from : OnBoard from) (on_to : OnBoard to) (mine : has_colour c (at b from) ≡ false) where
  pub still_attacked : (s : Square) → OnBoard s → (has_colour c (at b s) && attacks b s k) ≡ true
      → s ≢ to → (strictly_between s to k ≡ true → ⊥) → is_attacked (moved b from to cell) c k ≡ true
  still_attacked s on h apart aside =
      any_square (λ u. has_colour c (at (moved b from to cell) u) && attacks (moved b from to cell) u k) s on.file on.rank
      (subst (λ (o : Option Piece). (has_colour c o && cell_attacks o (moved b from to cell) s k) ≡ true) (sym stays)
      (and_from _ _ theirs (cell_still (at b s) b (moved b from to cell) s k clear_then (second_true (has_colour c (at b s)) _ h))))
    where
      theirs : has_colour c (at b s) ≡ true
      theirs = first_true (has_colour c (at b s)) _ h

      stays : at (moved b from to cell) s ≡ at b s
      stays = grind (arith, common_steps, at_moved, on_from, on_to, on_target, on_origin, mine, theirs, on_other)

      empty_then : (u : Square) → OnBoard u → strictly_between s u k ≡ true → is_empty b u ≡ true
          → is_empty (moved b from to cell) u ≡ true
      empty_then u on_u between empty = search (rules, at_moved, on_from, on_to, on_target, on_origin, is_none, on_other)

      clear_then : is_clear b s k ≡ true → is_clear (moved b from to cell) s k ≡ true
      clear_then clear =
          clear_if (moved b from to cell) s k (λ u file rank between.
          empty_then u (record { file = file; rank = rank }) between
          (not_true (strictly_between s u k) _ between
          (each_square (λ v. not (strictly_between s v k) || is_empty b v) u clear file rank)))

-- the attack on the king is met by the set
pub check_met : (p : Parts) (b : Board) (c : Colour) (k : Square) (set : ℕ) → is_position p ≡ true → is_check p ≡ true → b ≡ p.board
    → c ≡ other p.side → k ≡ king_square p.side p.board → MeetsAttack b c k set
    → HasAttacker p.board (other p.side) (king_square p.side p.board) set
check_met p b c k set position check same_board same_colour same_king h =
    grind (arith, common_steps, sound_from_position, attack_on_king)

-- A position in check, with no en passant target, and the targets that may meet the check.
module _ (p : Parts) (set : ℕ) (position : is_position p ≡ true) (check : is_check p ≡ true) (no_target : p.target ≡ None)
    (meets : HasAttacker p.board (other p.side) (king_square p.side p.board) set) where
  abbrev king : Square
  king = king_square p.side p.board

  sound : Sound p
  sound = sound_from_position p position

  stands : StandsAt p.side p.board king
  stands = king_of sound p.side

  attacked : is_attacked p.board (other p.side) king ≡ true
  attacked = sym (attack_on_king sound p.side) ∙ check

  module _ (m : Move) (q : Parts) (l : Legal p m q) where
    on_from : OnBoard m.from
    on_from = from_on m l.on

    on_to : OnBoard m.to
    on_to = to_on m l.on

    mine : has_colour p.side (at p.board m.from) ≡ true
    mine = (board_stays p m l.board sound l.on l.stepped).own

    -- a piece other than the king goes elsewhere, and the king is attacked still
    other_goes : has set (cell_of m.to) ≡ false → carried p m ≡ l.board → same_square m.from king ≡ false → ⊥
    other_goes out is apart =
        false≢true (sym l.safe ∙ (ap (king_attacked l.board) (other-other p.side) ∙ (king_seen p m l.board p.side position l.on l.stepped
        ∙ (ap₂ (λ b s. is_attacked b (other p.side) s) (sym is) (sym waits) ∙ still))))
      where
        waits : king ≡ king_square p.side l.board
        waits = sym (king_waits m king apart) ∙ king_moves p m l.board p.side position l.on l.stepped

        still : is_attacked (carried p m) (other p.side) king ≡ true
        still =
            still_attacked p.board m.from m.to king (arriving p m) (other p.side) sound.long on_from on_to
            (not_other p.side (at p.board m.from) mine) meets.from (record { file = meets.file; rank = meets.rank }) meets.attacks
            (λ e. false≢true (sym out ∙ subst (λ (s : Square). has set (cell_of s) ≡ true) e meets.here))
            (λ between. false≢true (sym out ∙ meets.way m.to on_to.file on_to.rank between))

    king_there : same_square m.from king ≡ true → own p King m.from ≡ true
    king_there same = subst (λ (s : Square). own p King s ≡ true) (sym (squares_same m.from king same)) stands.king

    -- the king's step was tried
    king_goes : same_square m.from king ≡ true → PieceStep p m → is_untried p m.to m.from ≡ true → ⊥
    king_goes same h left = left_out (own p Knight m.from) _ _ (is_king_step p m.to) (own p King m.from) _ no_knight step (king_there same) left
      where
        beside : is_adjacent m.from m.to ≡ true
        beside = attacks_as p.side King (at p.board m.from) p.board m.from m.to (king_there same) h.hits

        step : is_king_step p m.to ≡ true
        step = and_from _ _ (adjacent_back m.to king
            ∙ subst (λ (s : Square). is_adjacent s m.to ≡ true) (squares_same m.from king same) beside) (ap not h.free)

        no_knight : own p Knight m.from ≡ false
        no_knight = false_from_ne_true (own p Knight m.from)
            (λ knight. cc (one_kind p.side p.side King Knight (at p.board m.from) (king_there same) knight))

        left_out : (v w x y z clear : Bool) → v ≡ false → y ≡ true → z ≡ true → ((v && w) || ((x && not (y && z)) && clear)) ≡ true → ⊥
        left_out v w x y z clear n s k h = grind arith

    no_castling : (right : Bool) (wing : Wing) → castles p m right wing ≡ true → ⊥
    no_castling right wing h = by_parts (castles_means p m right wing h)
      where
        free : is_unattacked p 4 ≡ true
        free = first_true (is_unattacked p 4) _ (second_true (stand_ready p wing.rook) _
            (second_true ((right && is_none m.promotion) && is_king_move p m wing.end) _ h))

        by_parts : Castles p m wing → ⊥
        by_parts w =
            let at_home : m.from ≡ king = king_only_there p.side p.board m.from king sound.long (sound.kings_of p.side)
            (record { file = on_from.file; rank = on_from.rank; king = w.king }) stands in
            false≢true (sym (ap not (subst (λ (s : Square). is_attacked p.board (other p.side) s ≡ true) (sym at_home ∙ w.from) attacked)) ∙ free)

    elsewhere : has set (cell_of m.to) ≡ false → is_untried p m.to m.from ≡ true → ⊥
    elsewhere out left =
        elim (way_of p m l.board l.stepped) [
          | by_piece h is ↦ by_king (same_square m.from king) refl is (λ same. king_goes same (piece_step_means p m h) left)
          | by_pawn h is ↦ by_king (same_square m.from king) refl is (λ same. cc
              (one_kind p.side p.side King Pawn (at p.board m.from) (king_there same) (pawn_step_means p m h).pawn))
          | by_passing h _ ↦ false≢true (sym (ap (λ o. is_target o m.to) no_target) ∙ (passing_means p m h).target)
          | by_short h _ ↦ no_castling (short_right p.side p.rights) short_wing h
          | by_long h _ ↦ no_castling (long_right p.side p.rights) long_wing h
        ]
      where
        by_king : (x : Bool) → same_square m.from king ≡ x → carried p m ≡ l.board → (same_square m.from king ≡ true → ⊥) → ⊥
        by_king true same is tried = tried same
        by_king false apart is tried = other_goes out is apart

  not_legal : (m : Move) → has set (cell_of m.to) ≡ false → is_untried p m.to m.from ≡ true → is_legal p m ≡ false
  not_legal m out left = false_from_ne_true (is_legal p m) (λ h. let (q, l) = legal_after p m h in elsewhere m q l out left)

  not_legal_pair : (t s : Square) → has set (cell_of t) ≡ false → is_untried p t s ≡ true → is_legal_pair p s t ≡ false
  unfolding is_legal_pair
  not_legal_pair t s out left = not_legal (one_move p s t) out left

  none_to : (t : Square) → has set (cell_of t) ≡ false → has_untried_move p t ≡ false
  unfolding has_untried_move
  none_to t out =
      list_any-filter (λ s. is_legal_pair p s t) (is_untried p t) squares
      ∙ false_from_ne_true _ (λ h. by_origin (some_square (λ s. is_untried p t s && is_legal_pair p s t) h))
    where
      by_origin : Passes (λ s. is_untried p t s && is_legal_pair p s t) → ⊥
      by_origin w = grind (arith, common_steps, not_legal_pair, first_true, second_true)

  -- no pair is legal for any other target
  pub none_elsewhere : (rest : ℕ) → Bits rest (λ i. not (has set i)) → list_any (has_untried_move p) (members rest) ≡ false
  none_elsewhere rest others =
      sym (any_member rest (λ s. not (has set (cell_of s))) (has_untried_move p) (record {
        of = λ i low. others.of i low ∙ ap (λ j. not (has set j)) (sym (cell_of-square_at i));
      }))
      ∙ false_from_ne_true _ (λ h. by_target (some_square (λ t. not (has set (cell_of t)) && has_untried_move p t) h))
    where
      by_target : Passes (λ t. not (has set (cell_of t)) && has_untried_move p t) → ⊥
      by_target w = grind (arith, common_steps, none_to, not-true, first_true, second_true)
