use Rattle.chess_rules.proofs.Words.{cell_of, has, ◌≡◌, ℕ, ◌<◌, not, ◌&&◌, ◌∙◌, ap, ap₂, nat_lt}
use Rattle.chess_rules.proofs.sets.AllSquares.{cell_of-square_at}
use Rattle.chess_rules.proofs.lines.SeenAlong.{seen_places}
use Rattle.chess_rules.proofs.attack.seen_along.Goals as goal

pub returns : goal.returns
returns c =
    let t = c.args.origin in
    let before : (i : ℕ) → i < 64 → has c.before-before.result i ≡ nat_lt i (cell_of t) =
    λ i low. c.before-before.ensures.of i low ∙ ap (λ j. nat_lt j (cell_of t)) (cell_of-square_at i) in
    seen_places c.args.board.now t c.args.line c.occupied.result c.bitand.result c.bitand-2.result c.up_to_lowest.result c.highest_onward.result
    c.recall_invariant.ensures.file c.recall_invariant.ensures.rank c.requires
    c.occupied.ensures
    (λ i low. c.bitand.ensures.of i low
    ∙ ap₂ (λ x y. x && y) (c.bitand-blocking.ensures.of i low) (c.not.ensures.of i low ∙ ap not (before i low)))
    (λ i low. c.bitand-2.ensures.of i low ∙ ap₂ (λ x y. x && y) (c.bitand-blocking.ensures.of i low) (before i low))
    c.up_to_lowest.ensures c.highest_onward.ensures c.bitand-4.result
    (λ i low. c.bitand-4.ensures.of i low ∙ ap (λ x. has c.args.line i && x) (c.bitand-3.ensures.of i low))
