use Rattle.pgn_game.proofs.Words.{Bool, Converter, IsSound, KeepsSilence, Err, Reason, Result, false, true, sink_of, kind_of, ◌≡◌, ◌∙◌, arith, ap, subst, Ok, take_rest, drop, refl, rules}
use Rattle.pgn_game.specs.steps.Flow.{HasTakenToken, ReadsIn, StepsIn, settled, taken_at}
use Rattle.pgn_game.specs.steps.TokenTaken.{TakesPlaced}
use Rattle.pgn_game.proofs.ReaderFitsInMemory.{fits_alike, fits_game}
use Rattle.pgn_game.proofs.flow.InTurn.{goes_none, reads_in_then, steps_then}
use Rattle.pgn_game.proofs.flow.PastNumbers.{reads_past}
use Rattle.pgn_game.proofs.flow.StepsIn.{before_now, before_rest, has_taken_behind, room_behind, sound_behind, steps_behind, steps_run}
use Rattle.pgn_game.proofs.putting.SilentReader.{seen_alike, silence_kept, silence_then}
use Rattle.pgn_game.proofs.stepping.AcceptedToConverter.{now_at}
use Rattle.pgn_game.proofs.stepping.StepsAtEnd.{FieldsBefore, fields_before, view_of}
use Rattle.pgn_game.proofs.stepping.StepsOverTokens.{sound_past}
use Rattle.pgn_game.proofs.converter.Converter.run_movetext.Goals as goal
use Rattle.pgn_game.proofs.converter.Converter.run_movetext.Goals.{After-take_entry, Left-loop-used, else-loop-used-test, then-loop-used-test+in_default}

pub loop-used-init : goal.loop-used-init
loop-used-init g c =
    record { stage = c.requires.stage; reads = goes_none _ _ _ _ c.requires.piece.before; silent = silence_kept _ _ _ refl }

pub whole_token-count-requires : goal.whole_token-count-requires
whole_token-count-requires g c = rw take_rest (rw (← c.self.view_is) at (room_behind c.requires.piece.short c.loop-used.invariant.reads))

pub take_entry-requires : goal.take_entry-requires
take_entry-requires g c =
    let at = c.loop-used.invariant in
    let old = fields_before c.self.view_is c.self.invariant (before_now at.reads) in
    let behind = rw (take_rest, c.in-Some.is) at c.whole_token-count.ensures.reads in
    (search fits_game, (omega (arith, old.sound.few_plies refl, old.sound.count), (rw (← c.self.view_is) at at.stage, behind.reads.lengths)))

pub invariant_of-self : goal.invariant_of-self
invariant_of-self g c =
    let at = c.loop-used.invariant in
    let old = fields_before c.self.view_is c.self.invariant (before_now at.reads) in
    let within = rw take_rest at c.whole_token-count.ensures.used in
    let passes = rw (take_rest, c.in_default.is) at c.whole_token-count.ensures.reads in
    rw (old.flag, old.not_over, old.none)
    (sound_past _ _ _ _ old.sound (rw (← c.self.view_is) at (room_behind c.requires.piece.short at.reads)) (λ _. rw (← c.self.view_is) at at.stage) passes within)

-- The token of an iteration, which the reader takes in movetext.
module _ (g : _) (c : After-take_entry g) where
  old : FieldsBefore c.self.inside.lexer c.self.inside.game c.self.inside.games c.self.inside.has_finished_game c.self.inside.is_finished c.self.inside.fault c.loop-used.self
  old = fields_before c.self.view_is c.self.invariant (before_now c.loop-used.invariant.reads)

  alike : c.self.inside.game.writing.is_silent ≡ c.args.self.now.reading.writing.is_silent
  alike = ap (λ (s : Converter). s.reading.writing.is_silent) c.self.view_is ∙ c.loop-used.invariant.silent.silent

  silent : KeepsSilence c.args.self.now.reading c.take_entry.new.self c.args.out.now c.take_entry.new.out
  silent = search (rules, silence_then)

  module _ (taken : Result Bool Reason) (is : c.take_entry.result ≡ taken) where
    takes : TakesPlaced c.self.inside.game (kind_of c.in-Some.token.kind) c.in-Some.token.at c.take_entry.new.self taken
        (sink_of c.args.self.now.reading g.W.Sink.taken g.W.Sink.failures c.loop-used.out c.take_entry.new.out)
    takes = search (rules, seen_alike, alike)

    abbrev here : Converter
    here = now_at c.whole_token-count.new.self c.take_entry.new.self c.self.inside.games false

    -- the step that it is
    steps : StepsIn c.loop-used.self (drop c.loop-used.used c.args.piece.now) (settled c.in-Some.token.at taken here)
        c.whole_token-count.result.0 (taken_at c.in-Some.token.at taken)
        (sink_of c.args.self.now.reading g.W.Sink.taken g.W.Sink.failures c.loop-used.out c.take_entry.new.out)
    steps =
        let at = c.loop-used.invariant in
        subst (λ (s : Converter). StepsIn s (drop c.loop-used.used c.args.piece.now) (settled c.in-Some.token.at taken here)
        c.whole_token-count.result.0 (taken_at c.in-Some.token.at taken)
        (sink_of c.args.self.now.reading g.W.Sink.taken g.W.Sink.failures c.loop-used.out c.take_entry.new.out)) old.same
        (steps_behind _ _ _ _ old.sound (rw (← c.self.view_is) at (room_behind c.requires.piece.short at.reads)) (λ _. rw (← c.self.view_is) at at.stage)
        (rw (take_rest, c.in-Some.is) at c.whole_token-count.ensures.reads) (rw take_rest at c.whole_token-count.ensures.used)
        c.take_entry.new.self taken _ takes)

    still_sound : IsSound c.whole_token-count.new.self c.take_entry.new.self c.self.inside.games c.self.inside.has_finished_game c.self.inside.is_finished c.self.inside.fault
    still_sound =
        let at = c.loop-used.invariant in
        rw (old.flag, old.not_over, old.none)
        (sound_behind _ _ _ _ old.sound (rw (← c.self.view_is) at (room_behind c.requires.piece.short at.reads)) (λ _. rw (← c.self.view_is) at at.stage)
        (rw (take_rest, c.in-Some.is) at c.whole_token-count.ensures.reads) (rw take_rest at c.whole_token-count.ensures.used)
        c.take_entry.new.self taken _ takes)

    has_taken : HasTakenToken here taken
    has_taken =
        let at = c.loop-used.invariant in
        has_taken_behind _ _ _ _ old.sound (rw (← c.self.view_is) at (room_behind c.requires.piece.short at.reads)) (λ _. rw (← c.self.view_is) at at.stage)
        (rw (take_rest, c.in-Some.is) at c.whole_token-count.ensures.reads) (rw take_rest at c.whole_token-count.ensures.used)
        c.take_entry.new.self taken _ takes

    -- the same of its fields
    room_for : HasTakenToken (view_of c.whole_token-count.new.self c.take_entry.new.self c.self.inside.games c.self.inside.has_finished_game c.self.inside.is_finished c.self.inside.fault) taken
    room_for = rw (old.flag, old.not_over, old.none) has_taken

pub invariant_of-self-in-Err : goal.invariant_of-self-in-Err
invariant_of-self-in-Err g c = still_sound g (goal.at.invariant_of-self-in-Err g c).After-take_entry (Err c.in-Err.reason) c.in-Err.is

pub settle-outcome-requires : goal.settle-outcome-requires
settle-outcome-requires g c =
    (search fits_alike, room_for g ((goal.at.settle-outcome-requires g c).After-take_entry) (Err c.in-Err.reason) c.in-Err.is)

pub returns-in-Err-clause-steps : goal.returns-in-Err-clause-steps
returns-in-Err-clause-steps g c =
    let after = (goal.at.returns-in-Err-clause-steps g c).After-take_entry in
    let old = old g after in
    rw (c.settle-outcome.ensures.settled, c.settle-outcome.ensures.outcome, old.flag, old.not_over)
    (steps_then c.loop-used-test.true c.loop-used.invariant.reads (steps g after (Err c.in-Err.reason) c.in-Err.is))

pub returns-in-Err-clause-silent : goal.returns-in-Err-clause-silent
returns-in-Err-clause-silent g c =
    rw c.settle-outcome.ensures.settled (silent g ((goal.at.returns-in-Err-clause-silent g c).After-take_entry))

pub invariant_of-self-then-finished : goal.invariant_of-self-then-finished
invariant_of-self-then-finished g c =
    let read : c.take_entry.result ≡ Ok c.in-Ok.finished = c.in-Ok.is in
    still_sound g (goal.at.invariant_of-self-then-finished g c).After-take_entry (Ok true) (read ∙ ap Ok c.if-finished.true)

pub settle-outcome-requires-then-finished : goal.settle-outcome-requires-then-finished
settle-outcome-requires-then-finished g c =
    (search fits_alike, room_for g ((goal.at.settle-outcome-requires-then-finished g c).After-take_entry) (Ok true) (c.in-Ok.is ∙ ap Ok c.if-finished.true))

pub returns-then-finished-clause-steps : goal.returns-then-finished-clause-steps
returns-then-finished-clause-steps g c =
    let after = (goal.at.returns-then-finished-clause-steps g c).After-take_entry in
    let old = old g after in
    let read : c.take_entry.result ≡ Ok c.in-Ok.finished = c.in-Ok.is in
    rw (c.settle-outcome-then-finished.ensures.settled, c.settle-outcome-then-finished.ensures.outcome, old.not_over, old.none)
    (steps_then c.loop-used-test.true c.loop-used.invariant.reads (steps g after (Ok true) (read ∙ ap Ok c.if-finished.true)))

pub returns-then-finished-clause-silent : goal.returns-then-finished-clause-silent
returns-then-finished-clause-silent g c =
    rw c.settle-outcome-then-finished.ensures.settled (silent g ((goal.at.returns-then-finished-clause-silent g c).After-take_entry))

pub invariant_of-self-else-finished : goal.invariant_of-self-else-finished
invariant_of-self-else-finished g c =
    let read : c.take_entry.result ≡ Ok c.in-Ok.finished = c.in-Ok.is in
    still_sound g (goal.at.invariant_of-self-else-finished g c).After-take_entry (Ok false) (read ∙ ap Ok c.if-finished.false)

pub loop-used-preserved : goal.loop-used-preserved
loop-used-preserved g c =
    let at = c.loop-used.invariant in
    let after = (goal.at.loop-used-preserved g c).After-take_entry in
    let read : c.take_entry.result ≡ Ok c.in-Ok.finished = c.in-Ok.is in
    let is : c.take_entry.result ≡ Ok false = read ∙ ap Ok c.if-finished.false in
    let old = old g after in
    rw (old.flag, old.not_over, old.none) (record {
      stage = (takes g after (Ok false) is).stays.1 (rw (← c.self.view_is) at at.stage);
      reads = reads_in_then c.loop-used-test.true at.reads (steps g after (Ok false) is).reads;
      silent = silent g after;
    })

-- What the loop has taken when it ends. Behind its last token it may have passed numbers.
ran : (g : _) (c : Left-loop-used g) → ReadsIn c.args.self.now c.args.piece.now c.loop-used-test.self c.loop-used-test.used (Ok false)
    (sink_of c.args.self.now.reading g.W.Sink.taken g.W.Sink.failures c.args.out.now c.loop-used.out)
ran g c =
    let at = c.loop-used.invariant in
    elim c.loop-used-test.branch [
      | else-loop-used-test w ↦ rw (w.self-is, w.used-is) at.reads
      | then-loop-used-test+in_default w ↦
          let old = fields_before w.self.view_is w.self.invariant (before_now at.reads) in
          rw (w.self-is, w.used-is, old.flag, old.not_over, old.none)
          (reads_in_then w.loop-used-test.true at.reads
          (subst (λ (s : Converter). ReadsIn s (drop c.loop-used.used c.args.piece.now)
          (now_at w.whole_token-count.new.self w.self.inside.game w.self.inside.games false) w.whole_token-count.result.0 (Ok false) (sink_of c.args.self.now.reading g.W.Sink.taken g.W.Sink.failures c.loop-used.out c.loop-used.out)) old.same
          (reads_past _ _ _ _ _ _ (λ _. rw (← w.self.view_is) at at.stage) (rw (take_rest, w.in_default.is) at w.whole_token-count.ensures.reads) (rw take_rest at w.whole_token-count.ensures.used))))
    ]

pub returns-then-used-piece-clause-steps : goal.returns-then-used-piece-clause-steps
returns-then-used-piece-clause-steps g c =
    steps_run (omega (arith, c.requires.piece.some, c.if-used-piece.true)) (ran g (goal.at.returns-then-used-piece-clause-steps g c).Left-loop-used)

pub step_on-step-requires : goal.step_on-step-requires
step_on-step-requires g c =
    let ran = ran g (goal.at.step_on-step-requires g c).Left-loop-used in
    (search fits_alike, rw take_rest (before_rest c.requires.piece.short ran (omega (arith, ran.goes.within, c.if-used-piece.false))))

-- and that it kept silence
kept : (g : _) (c : Left-loop-used g) → KeepsSilence c.args.self.now.reading c.loop-used-test.self.reading c.args.out.now c.loop-used.out
kept g c = search (rules, else-loop-used-test, then-loop-used-test+in_default)

pub returns-then-used-piece-clause-silent : goal.returns-then-used-piece-clause-silent
returns-then-used-piece-clause-silent g c = kept g (goal.at.returns-then-used-piece-clause-silent g c).Left-loop-used

pub returns-clause-steps : goal.returns-clause-steps
returns-clause-steps g c =
    let left = (goal.at.returns-clause-steps g c).Left-loop-used in
    let ran = ran g left in
    steps_then (omega (arith, ran.goes.within, c.if-used-piece.false)) ran
    (rw take_rest at (seen_alike (StepsIn _ _ _ _ _) _ _ _ (kept g left).silent c.step_on-step.ensures.steps))

pub returns-clause-silent : goal.returns-clause-silent
returns-clause-silent g c =
    silence_then _ _ _ _ _ _ (kept g (goal.at.returns-clause-silent g c).Left-loop-used) c.step_on-step.ensures.silent
