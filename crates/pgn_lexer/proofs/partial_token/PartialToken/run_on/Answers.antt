use Rattle.pgn_lexer.proofs.Words.{refl, arith}
use Rattle.pgn_lexer.proofs.stepping.PieceByByte.{ran_ends, ran_ends_before, ran_fails, ran_out, ran_uses}
use Rattle.pgn_lexer.proofs.partial_token.PartialToken.run_on.Goals as goal

pub loop-used-init : goal.loop-used-init
loop-used-init c = record { within = omega arith; ran = λ old ran. ran }

pub returns-in-Ends : goal.returns-in-Ends
returns-in-Ends c = λ old ran. ran_ends _ old _ _ _ _ (omega arith) refl (c.loop-used.invariant.ran old ran) _ _ c.in-Ends.ensures

pub returns-in-EndsBefore : goal.returns-in-EndsBefore
returns-in-EndsBefore c = λ old ran. ran_ends_before _ old _ _ _ _ (omega arith) refl (c.loop-used.invariant.ran old ran) _ _ c.in-EndsBefore.ensures

pub returns-in-Fault : goal.returns-in-Fault
returns-in-Fault c = λ old ran. ran_fails _ old _ _ _ _ (omega arith) refl (c.loop-used.invariant.ran old ran) _ _ c.in-Fault.ensures

pub loop-used-preserved : goal.loop-used-preserved
loop-used-preserved c = record {
  within = c.copy_text-used.ensures.within;
  ran = λ old ran. c.copy_text-used.ensures.ran old
      (ran_uses _ old _ _ _ _ (omega arith) refl (c.loop-used.invariant.ran old ran) _ c.in-Used.ensures);
}

pub returns : goal.returns
returns c = λ old ran. ran_out _ old _ _ _ (omega arith) (c.loop-used.invariant.ran old ran)
