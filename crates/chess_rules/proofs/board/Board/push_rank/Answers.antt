use Rattle.chess_rules.proofs.Words.{◌∙◌, ◌+◌, ◌*◌, ◌%◌, ◌^◌, ap, arith, common_steps}
use Rattle.chess_rules.proofs.sets.RanksToWords.{are_words_pushed, cells_pushed}
use Rattle.chess_rules.proofs.board.Board.push_rank.Goals as goal

pub invariant_of-self : goal.invariant_of-self
invariant_of-self c = grind (arith, common_steps, are_words_pushed)

pub returns : goal.returns
returns c row eight value =
    cells_pushed c.self.inside
    (record { straight = c.with_rank_below.result; diagonal = c.with_rank_below-2.result; near = c.with_rank_below-3.result; black = c.with_rank_below-4.result })
    c.args.lanes row eight value c.self.invariant
    (c.with_rank_below.ensures ∙ ap (λ k. k + 256 * (c.self.inside.straight % 2 ^ 56)) c.from.ensures)
    (c.with_rank_below-2.ensures ∙ ap (λ k. k + 256 * (c.self.inside.diagonal % 2 ^ 56)) c.from-2.ensures)
    (c.with_rank_below-3.ensures ∙ ap (λ k. k + 256 * (c.self.inside.near % 2 ^ 56)) c.from-3.ensures)
    (c.with_rank_below-4.ensures ∙ ap (λ k. k + 256 * (c.self.inside.black % 2 ^ 56)) c.from-4.ensures)
    c.args.self.now c.self.view_is
