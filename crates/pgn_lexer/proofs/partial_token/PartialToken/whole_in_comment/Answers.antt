use Rattle.pgn_lexer.proofs.Words.{sym, ◌∙◌, arith, take_rest, rules}
use Rattle.pgn_lexer.proofs.stepping.PieceByByte.{close_begun}
use Rattle.pgn_lexer.proofs.stepping.WholeRuns.{passes_none, passes_gap, reads_word, reads_close, sound_between}
use Rattle.pgn_lexer.proofs.partial_token.PartialToken.whole_in_comment.Goals as goal

pub loop-used-init : goal.loop-used-init
loop-used-init c = search (rules, passes_none)

pub loop-used-preserved : goal.loop-used-preserved
loop-used-preserved c =
    let here = c.loop-used.invariant in
    record {
      within = omega arith;
      room = here.room;
      comment = here.comment;
      passes = λ skips. rw (← here.comment) at (passes_gap skips _ _ _ _ _ (here.passes skips) c.loop-used-test.true here.room c.args.close here.comment _
          (sym c.begins_in_comment.ensures ∙ c.in-Gap.is));
    }

pub returns-in-Text-clause-reads : goal.returns-in-Text-clause-reads
returns-in-Text-clause-reads c = λ skips.
    let here = c.loop-used.invariant in
    rw here.comment (reads_word skips _ _ _ _ _ (here.passes skips) c.loop-used-test.true here.room c.args.close here.comment _ _ _ _
    (sym c.begins_in_comment.ensures ∙ c.in-Text.is) (rw take_rest at c.in-Some.ensures))

pub returns-in-Alone-clause-reads : goal.returns-in-Alone-clause-reads
returns-in-Alone-clause-reads c = λ skips.
    let here = c.loop-used.invariant in
    rw c.kind-kind.ensures (reads_close skips _ _ _ _ _ (here.passes skips) c.loop-used-test.true here.room c.args.close here.comment _ _
    (sym c.begins_in_comment.ensures ∙ c.in-Alone.is))

pub returns-in-Alone-clause-sound : goal.returns-in-Alone-clause-sound
returns-in-Alone-clause-sound c =
    let between = close_begun c.args.close _ c.in-Alone.sign c.in-Alone.mode (sym c.begins_in_comment.ensures ∙ c.in-Alone.is) in
    sound_between _ between.1 _ _ _ c.loop-used.invariant.room

pub invariant_of-self-in-Alone : goal.invariant_of-self-in-Alone
invariant_of-self-in-Alone c =
    let between = close_begun c.args.close _ c.in-Alone.sign c.in-Alone.mode (sym c.begins_in_comment.ensures ∙ c.in-Alone.is) in
    let sound = sound_between c.in-Alone.mode between.1 0 0 _ c.loop-used.invariant.room in sound.room
