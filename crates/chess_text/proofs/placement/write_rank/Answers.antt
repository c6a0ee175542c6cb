use Rattle.chess_text.proofs.Words.{arith, nat_tests, ◌∙◌, length-set}
use Rattle.chess_text.proofs.positions.NumbersToText.{next_square, number_is_small, square_written, stored_within}
use Rattle.chess_text.proofs.placement.write_rank.Goals as goal

pub byte_of_number-requires : goal.byte_of_number-requires
byte_of_number-requires c =
    number_is_small _ _ _ _ _ _ _ (next_square c.args.position.now.board c.args.rank c.loop.counter c.loop-test.true c.loop.invariant.squares)

pub overflow_sub-text : goal.overflow_sub-text
overflow_sub-text c =
    omega (
      arith,
      stored_within _ _ _ _ _ _ _ c.from-end.result c.byte_of_number.result (record {
        few = grind (arith, nat_tests);
        adds = λ h. grind (arith, nat_tests);
        stays = λ h. grind (arith, nat_tests);
        letter = c.byte_of_number.ensures.piece;
        digit = c.byte_of_number.ensures.run;
      })
          (next_square c.args.position.now.board c.args.rank c.loop.counter c.loop-test.true c.loop.invariant.squares),
    )

pub loop-preserved : goal.loop-preserved
loop-preserved c =
    record {
      squares =
          square_written _ _ _ _ _ _ _ c.from-end.result c.byte_of_number.result (record {
            few = grind (arith, nat_tests);
            adds = λ h. grind (arith, nat_tests);
            stays = λ h. grind (arith, nat_tests);
            letter = c.byte_of_number.ensures.piece;
            digit = c.byte_of_number.ensures.run;
          })
          (next_square c.args.position.now.board c.args.rank c.loop.counter c.loop-test.true c.loop.invariant.squares);
      within = omega arith;
      long = length-set _ _ _ ∙ c.loop.invariant.long;
    }
