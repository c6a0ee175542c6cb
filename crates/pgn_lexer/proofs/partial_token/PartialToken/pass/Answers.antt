use Rattle.pgn_lexer.proofs.Words.{arith, length-drop, take_rest, rules}
use Rattle.pgn_lexer.proofs.stepping.WholeRuns.{passes_none, passes_line_end, passes_space, passes_period, passes_number}
use Rattle.pgn_lexer.proofs.bytes.ClassToTest.{blank_class, line_end_class}
use Rattle.pgn_lexer.proofs.partial_token.PartialToken.pass.Goals as goal

pub loop-used-init : goal.loop-used-init
loop-used-init c = search (rules, passes_none)

pub loop-used-preserved-then-byte-eq46 : goal.loop-used-preserved-then-byte-eq46
loop-used-preserved-then-byte-eq46 c = search (rules, passes_space, passes_period)

pub loop-used-preserved-then-is_in : goal.loop-used-preserved-then-is_in
loop-used-preserved-then-is_in c =
    let here = c.loop-used.invariant in
    let is = rw take_rest at c.in-Some.ensures in
    record {
      within = omega (arith, is.run.within, length-drop c.loop-used.used c.args.piece.now);
      room = here.room;
      outside = tt;
      passes = passes_number _ _ _ _ _ _ here.passes c.loop-used-test.true here.room here.outside c.if-skips_numbers-2.true _ is;
    }

pub loop-used-preserved-then-is_in-2 : goal.loop-used-preserved-then-is_in-2
loop-used-preserved-then-is_in-2 c = search (rules, passes_line_end, line_end_class)

pub loop-used-preserved : goal.loop-used-preserved
loop-used-preserved c = search (rules, passes_space, blank_class)
