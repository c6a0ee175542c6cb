use Rattle.pgn_game.proofs.Words.{KeepsSilence, ◌≡◌, ◌+◌, ◌∙◌, Ok, false, true, ap, drop, length-drop, refl, sink_of, take_rest, rules}
use Rattle.pgn_game.specs.steps.Flow.{StepsIn}
use Rattle.pgn_game.proofs.ReaderFitsInMemory.{fits_alike}
use Rattle.pgn_game.proofs.flow.InTurn.{goes_none, steps_then}
use Rattle.pgn_game.proofs.flow.StepsIn.{before_rest}
use Rattle.pgn_game.proofs.putting.SilentReader.{seen_alike, silence_kept, silence_then}
use Rattle.pgn_game.proofs.converter.Converter.feed_front.Goals as goal
use Rattle.pgn_game.proofs.converter.Converter.feed_front.Goals.{After-step-step}

pub loop-at-init : goal.loop-at-init
loop-at-init g c = record { reads = goes_none _ _ _ _ c.requires.before; silent = silence_kept _ _ _ refl }

pub step-step-requires : goal.step-step-requires
step-step-requires g c = (search fits_alike, rw take_rest (before_rest c.requires.short c.loop-at.invariant.reads c.loop-at-test.true))

-- what was read up to the step, and in it
module _ (g : _) (c : After-step-step g) where
  step : StepsIn c.loop-at.self (drop c.loop-at.at c.args.piece.now) c.step-step.new.self c.step-step.result.used c.step-step.result.outcome
      (sink_of c.args.self.now.reading g.W.Sink.taken g.W.Sink.failures c.loop-at.out c.step-step.new.out)
  step = rw take_rest at (seen_alike (StepsIn _ _ _ _ _) _ _ _ c.loop-at.invariant.silent.silent c.step-step.ensures.steps)

  steps : StepsIn c.args.self.now c.args.piece.now c.step-step.new.self (c.loop-at.at + c.step-step.result.used) c.step-step.result.outcome
      (sink_of c.args.self.now.reading g.W.Sink.taken g.W.Sink.failures c.args.out.now c.step-step.new.out)
  steps = steps_then c.loop-at-test.true c.loop-at.invariant.reads step

  silent : KeepsSilence c.args.self.now.reading c.step-step.new.self.reading c.args.out.now c.step-step.new.out
  silent = silence_then _ _ _ _ _ _ c.loop-at.invariant.silent c.step-step.ensures.silent

pub loop-at-preserved : goal.loop-at-preserved
loop-at-preserved g c =
    let after = (goal.at.loop-at-preserved g c).After-step-step in
    let read : c.step-step.result.outcome ≡ Ok c.in-Ok.finished = c.in-Ok.is in
    let is : c.step-step.result.outcome ≡ Ok false = read ∙ ap Ok c.if-finished.false in
    record { reads = (rw is at (steps g after)).reads; silent = silent g after }

pub loop-at-smaller : goal.loop-at-smaller
loop-at-smaller g c = search (rules, After-step-step, length-drop)

pub returns-in-Err-clause-reads : goal.returns-in-Err-clause-reads
returns-in-Err-clause-reads g c = (rw c.in-Err.is at (steps g ((goal.at.returns-in-Err-clause-reads g c).After-step-step))).reads

pub returns-in-Err-clause-silent : goal.returns-in-Err-clause-silent
returns-in-Err-clause-silent g c = silent g ((goal.at.returns-in-Err-clause-silent g c).After-step-step)

pub returns-then-finished-clause-reads : goal.returns-then-finished-clause-reads
returns-then-finished-clause-reads g c =
    let after = (goal.at.returns-then-finished-clause-reads g c).After-step-step in
    let read : c.step-step.result.outcome ≡ Ok c.in-Ok.finished = c.in-Ok.is in
    let is : c.step-step.result.outcome ≡ Ok true = read ∙ ap Ok c.if-finished.true in
    (rw is at (steps g after)).reads

pub returns-then-finished-clause-silent : goal.returns-then-finished-clause-silent
returns-then-finished-clause-silent g c = silent g ((goal.at.returns-then-finished-clause-silent g c).After-step-step)

pub overflow_add-at : goal.overflow_add-at
overflow_add-at g c = search (rules, take_rest, length-drop)
