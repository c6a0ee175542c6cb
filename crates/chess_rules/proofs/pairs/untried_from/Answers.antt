use Rattle.chess_rules.proofs.Words.{Knight, Parts, Square, Board, at, cell_of, has_colour, has_kind, own, is_aligned, is_clear, is_untried, is_king_step, Places, square_at, has, ◌≡◌, ℕ, ◌<◌, Bool, true, false, not, sym, ◌∙◌, subst, arith, ◌&&◌, common_steps, rules}
use Rattle.chess_rules.proofs.positions.RulesOfPosition.{own_king}
use Rattle.chess_rules.proofs.sets.SetsToSquares.{at_place, places_and, places_not, places_same}
use Rattle.chess_rules.proofs.sets.WordsToCells.{piece_is}
use Rattle.chess_rules.proofs.trying.PairsFromOrigin.{knight_pair, king_pair, other_pair}
use Rattle.chess_rules.proofs.pairs.untried_from.Goals as goal

-- whether the side's piece there is a knight
knight_there : (p : Parts) (b : Board) (s : Square) (w : ℕ) (x : Bool) → b ≡ p.board → has_colour p.side (at p.board s) ≡ true
    → Places w (λ u. has_kind Knight (at b u)) → cell_of s < 64 → square_at (cell_of s) ≡ s → has w (cell_of s) ≡ x → own p Knight s ≡ x
knight_there p b s w x is mine knights inside again h = grind (arith, common_steps, piece_is, has, cell_of, has_kind, at_place)

seen_there : (p : Parts) (b : Board) (s : Square) (w : ℕ) → b ≡ p.board → Places w (λ t. is_aligned t s && is_clear b t s)
    → Places w (λ t. is_aligned t s && is_clear p.board t s)
seen_there p b s w is h = subst (λ (a : Board). Places w (λ t. is_aligned t s && is_clear a t s)) is h

pub returns-then-has : goal.returns-then-has
returns-then-has c = search (rules, knight_there, places_same, knight_pair)

pub returns-then-is : goal.returns-then-is
returns-then-is c =
    let p = c.args.position.now in
    let s = c.args.origin in
    let knight = knight_there p c.board-board.result.now s c.of_kind.result false c.board-board.ensures c.requires
    c.of_kind.ensures c.has.ensures.inside c.has.ensures.again (sym c.has.ensures.value ∙ c.if-has.false) in
    let king = own_king p s c.king.result c.recall_invariant.ensures c.recall_invariant-2.ensures.file c.recall_invariant-2.ensures.rank
    c.king.ensures ∙ (sym c.is.ensures ∙ c.if-is.true) in
    places_same c.bitand.result (λ t. (is_aligned t s && is_clear p.board t s) && not (is_king_step p t)) (λ t. is_untried p t s)
    (places_and _ _ _ _ _ c.bitand.ensures
    (seen_there p c.board-board.result.now s c.seen_from-seen.result c.board-board.ensures c.seen_from-seen.ensures)
    (places_not _ _ _ c.not.ensures c.king_targets.ensures))
    (λ t. king_pair p s t c.requires knight king)

pub returns : goal.returns
returns c =
    let p = c.args.position.now in
    let s = c.args.origin in
    let knight = knight_there p c.board-board.result.now s c.of_kind.result false c.board-board.ensures c.requires
    c.of_kind.ensures c.has.ensures.inside c.has.ensures.again (sym c.has.ensures.value ∙ c.if-has.false) in
    let king = own_king p s c.king.result c.recall_invariant.ensures c.recall_invariant-2.ensures.file c.recall_invariant-2.ensures.rank
    c.king.ensures ∙ (sym c.is.ensures ∙ c.if-is.false) in
    places_same c.seen_from-seen.result _ (λ t. is_untried p t s)
    (seen_there p c.board-board.result.now s c.seen_from-seen.result c.board-board.ensures c.seen_from-seen.ensures)
    (λ t. other_pair p s t c.requires knight king)
