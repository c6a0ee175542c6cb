use Rattle.pgn_game.proofs.Words.{false, ◌∙◌, arith, le_trans, refl, Bool, Err, Device, device, rules}
use Rattle.pgn_game.specs.steps.Flow.{FinishesLeft}
use Rattle.pgn_game.proofs.ReaderFitsInMemory.{fits_alike}
use Rattle.pgn_game.proofs.flow.NextGame.{source_ends, source_game, source_stops}
use Rattle.pgn_game.proofs.flow.Stops.{shown_if, stop_shown_if}
use Rattle.pgn_game.proofs.putting.SilentReader.{none_fails, seen_alike, silence_then}
use Rattle.pgn_game.proofs.reader.ErrorReturned.{error_returned}
use Rattle.pgn_game.proofs.twice.FailuresOfSteps.{counts_behind, none_written}
use Rattle.pgn_game.proofs.games.convert_game.Goals as goal

pub read_source-requires : goal.read_source-requires
read_source-requires g c = (search fits_alike, c.requires)

pub finish_left-requires : goal.finish_left-requires
finish_left-requires g c = search (rules, fits_alike)

pub returns-in_err-read_source-clause-goes : goal.returns-in_err-read_source-clause-goes
returns-in_err-read_source-clause-goes g c =
    let f = c.in_err-read_source.field-0.0 in
    let reads = rw c.in_err-read_source.was at c.read_source.ensures.reads in
    let same = c.read_source.ensures.silent.silent in
    let source = device g.R.Source.left g.R.Source.failures c.args.source.now c.read_source.new.source in
    let sink = device g.W.Sink.taken g.W.Sink.failures c.args.out.now c.read_source.new.out in
    rw (error_returned _ c.from_residual.ensures.1) (record {
      reads = search (rules, source_stops, stop_shown_if, none_written, shown_if);
      fewer = λ is. absurd (cc);
      fault = reads.fault;
      probes = reads.probes;
      counted = λ free. reads.counted;
    })

pub returns-in_err-read_source-clause-silent : goal.returns-in_err-read_source-clause-silent
returns-in_err-read_source-clause-silent g c = c.read_source.ensures.silent

pub returns-then-branch-clause-goes : goal.returns-then-branch-clause-goes
returns-then-branch-clause-goes g c =
    let reads = rw (c.in_ok-read_source.was, c.if-branch.true) at c.read_source.ensures.reads in
    record {
      reads = λ p u given have.
          source_game p u given _ _ _ _ _ _ _ _ _ _ have c.requires.not_finished reads (shown_if _ _ _ c.read_source.ensures.silent.silent);
      fewer = λ is. rw (reads.not_finished, c.requires.not_finished) (omega (arith, reads.games, reads.few refl));
      fault = reads.fault;
      probes = reads.probes;
      counted = λ free. reads.counted;
    }

pub returns-then-branch-clause-silent : goal.returns-then-branch-clause-silent
returns-then-branch-clause-silent g c = c.read_source.ensures.silent

pub returns-clause-goes : goal.returns-clause-goes
returns-clause-goes g c =
    let reads = rw (c.in_ok-read_source.was, c.if-branch.false) at c.read_source.ensures.reads in
    let same = c.read_source.ensures.silent.silent in
    let quiet = c.finish_left.ensures.silent.silent ∙ same in
    let last = device g.W.Sink.taken g.W.Sink.failures c.read_source.new.out c.finish_left.new.out in
    let left = seen_alike (λ (d : Device). FinishesLeft false c.read_source.new.converter c.finish_left.new.self c.finish_left.result d) _ _ last same
    c.finish_left.ensures.finishes in
    record {
      reads = λ p u given have.
          source_ends p u given _ _ _ _ _ _ _ _ _ _ have c.requires.not_finished c.finish_left.new.self _ _ _ c.finish_left.result reads left (shown_if _ _ _ quiet)
          (λ f is. stop_shown_if _ _ _ _ quiet (λ silent. none_fails {A = Bool} _ (Err f) last silent (rw is at left.counted)))
          (λ f is. stop_shown_if _ _ _ _ quiet (λ silent. none_fails {A = Bool} _ (Err f) last silent (rw is at left.counted)));
      fewer = λ is. rw (left.finished, is, c.requires.not_finished) (omega arith);
      fault = left.fault;
      probes = le_trans reads.probes left.probes;
      counted = λ free. counts_behind c.finish_left.result _ _ _ reads.counted.0 reads.counted.1 refl left.counted;
    }

pub returns-clause-silent : goal.returns-clause-silent
returns-clause-silent g c = silence_then _ _ _ _ _ _ c.read_source.ensures.silent c.finish_left.ensures.silent
