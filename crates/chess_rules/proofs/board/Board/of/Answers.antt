use Rattle.std.proofs.Math.ListN.{drop_of_length-le}
use Rattle.chess_rules.proofs.Words.{◌≤◌, ◌++◌, None, length, sym, ◌∙◌, ap, arith, append-nil, replicate, length-drop, length-take-le, common_steps}
use Rattle.chess_rules.proofs.sets.RanksToWords.{next_rank}
use Rattle.chess_rules.proofs.board.Board.of.Goals as goal

pub loop-above-init : goal.loop-above-init
loop-above-init c =
    c.empty-board.ensures
    ∙ ap (λ b. b ++ replicate 64 None) (sym (let short : length c.args.contents.now ≤ 64 = omega (arith, c.told-contents) in drop_of_length-le c.args.contents.now short))

pub push_rank-requires : goal.push_rank-requires
push_rank-requires c = grind (arith, common_steps, length-take-le, length-drop)

pub loop-above-preserved : goal.loop-above-preserved
loop-above-preserved c = grind (arith, common_steps, length-take-le, length-drop, replicate, next_rank)

pub returns : goal.returns
returns c = grind (arith, common_steps, replicate, append-nil)
