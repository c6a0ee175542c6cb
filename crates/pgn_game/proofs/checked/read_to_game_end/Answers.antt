use Rattle.pgn_game.proofs.Words.{◌≡◌, arith, refl, true, false, Device, device, rules}
use Rattle.pgn_game.specs.steps.Flow.{FinishesLeft}
use Rattle.pgn_game.proofs.ReaderFitsInMemory.{fits_alike}
use Rattle.pgn_game.proofs.putting.SilentReader.{seen_alike, silence_then}
use Rattle.pgn_game.proofs.reader.ErrorReturned.{error_returned}
use Rattle.pgn_game.proofs.twice.FailuresOfSteps.{counts_behind}
use Rattle.pgn_game.proofs.twice.SourceToReading.{end_of, ended_before, ends_source, fault_of, game_of}
use Rattle.pgn_game.proofs.checked.read_to_game_end.Goals as goal

pub finish_left-requires : goal.finish_left-requires
finish_left-requires g c = (search fits_alike, c.requires)

-- the source had ended before
pub returns-then-has_ended-clause-reads : goal.returns-then-has_ended-clause-reads
returns-then-has_ended-clause-reads g c =
    let over : c.args.has_ended.now ≡ true = c.if-has_ended.true in
    let ends = c.finish_left.ensures.finishes in
    rw over (record {
      reads = λ start left_old u begins. ends_source start left_old _ _ _ _ _ _ _ _ _ (ended_before left_old _ start _ u _ begins refl) ends;
      games = ends.games;
      few = λ is. c.finish_left.ensures.few;
      finished = ends.finished;
      fault = ends.fault;
      counted = counts_behind c.finish_left.result _ _ _ refl refl refl ends.counted;
    })

pub returns-then-has_ended-clause-silent : goal.returns-then-has_ended-clause-silent
returns-then-has_ended-clause-silent g c = c.finish_left.ensures.silent

pub read_source-requires : goal.read_source-requires
read_source-requires g c = (search fits_alike, c.requires)

pub returns-in_err-read_source-clause-reads : goal.returns-in_err-read_source-clause-reads
returns-in_err-read_source-clause-reads g c =
    let from : c.args.has_ended.now ≡ false = c.if-has_ended.false in
    let f = c.in_err-read_source.field-0.0 in
    let reads = rw c.in_err-read_source.was at c.read_source.ensures.reads in
    rw (error_returned _ c.from_residual.ensures.1) (record {
      reads = λ start left_old u begins. fault_of left_old _ _ start _ _ u _ _ _ _ _ _ begins from f reads;
      games = omega (arith, reads.games);
      few = λ is. absurd (cc (is));
      finished = reads.not_finished;
      fault = reads.fault;
      counted = reads.counted;
    })

pub returns-in_err-read_source-clause-silent : goal.returns-in_err-read_source-clause-silent
returns-in_err-read_source-clause-silent g c = c.read_source.ensures.silent

pub returns-then-branch-clause-reads : goal.returns-then-branch-clause-reads
returns-then-branch-clause-reads g c =
    let from : c.args.has_ended.now ≡ false = c.if-has_ended.false in
    let reads = rw (c.in_ok-read_source.was, c.if-branch.true) at c.read_source.ensures.reads in
    rw from (record {
      reads = λ start left_old u begins. game_of left_old _ _ start _ _ u _ _ _ _ _ _ begins refl reads;
      games = reads.games;
      few = λ is. reads.few refl;
      finished = reads.not_finished;
      fault = reads.fault;
      counted = reads.counted;
    })

pub returns-then-branch-clause-silent : goal.returns-then-branch-clause-silent
returns-then-branch-clause-silent g c = c.read_source.ensures.silent

pub finish_left-requires-2 : goal.finish_left-requires-2
finish_left-requires-2 g c = search (rules, fits_alike)

-- the source has ended now
pub returns-clause-reads : goal.returns-clause-reads
returns-clause-reads g c =
    let from : c.args.has_ended.now ≡ false = c.if-has_ended.false in
    let reads = rw (c.in_ok-read_source.was, c.if-branch.false) at c.read_source.ensures.reads in
    let last = device g.W.Sink.taken g.W.Sink.failures c.read_source.new.out c.finish_left-2.new.out in
    let ends = seen_alike (λ (d : Device). FinishesLeft true c.read_source.new.converter c.finish_left-2.new.self c.finish_left-2.result d) _ _ last c.read_source.ensures.silent.silent
    c.finish_left-2.ensures.finishes in
    record {
      reads = λ start left_old u begins. ends_source start left_old _ _ _ _ _ _ _ _ _ (end_of left_old _ _ start _ _ u _ _ _ _ _ _ begins from reads) ends;
      games = omega (arith, ends.games, reads.games);
      few = λ is. omega (arith, c.finish_left-2.ensures.few, reads.games);
      finished = ends.finished;
      fault = ends.fault;
      counted = counts_behind c.finish_left-2.result _ _ _ reads.counted.0 reads.counted.1 refl ends.counted;
    }

pub returns-clause-silent : goal.returns-clause-silent
returns-clause-silent g c = silence_then _ _ _ _ _ _ c.read_source.ensures.silent c.finish_left-2.ensures.silent
