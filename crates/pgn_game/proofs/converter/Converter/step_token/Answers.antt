use Rattle.pgn_game.proofs.Words.{Bool, Err, Reason, Result, kind_of, true, ◌≡◌, ◌∙◌, ap, sink_of, IsSound, List, Option, ℕ, refl, None, false, ◌<◌, take_rest, IsTrue, Ok, false≢true, length, arith, rules}
use Rattle.pgn_game.specs.steps.Flow.{HasTakenToken, ReadsIn, StepsIn, settled, taken_at}
use Rattle.pgn_game.specs.steps.TokenTaken.{TakesPlaced}
use Rattle.pgn_game.proofs.ReaderFitsInMemory.{fits_alike, fits_game}
use Rattle.pgn_game.proofs.flow.InTurn.{steps_at_once, steps_then}
use Rattle.pgn_game.proofs.flow.PastNumbers.{reads_past}
use Rattle.pgn_game.proofs.flow.StepsIn.{before_rest, has_taken_behind, sound_behind, steps_behind, steps_of, steps_run}
use Rattle.pgn_game.proofs.putting.SilentReader.{silence_kept}
use Rattle.pgn_game.proofs.stepping.AcceptedToConverter.{now_at}
use Rattle.pgn_game.proofs.stepping.ReadsInText.{between}
use Rattle.pgn_game.proofs.stepping.StepsAtEnd.{fields_before, short_before}
use Rattle.pgn_game.proofs.stepping.StepsOverTokens.{sound_past}
use Rattle.pgn_game.proofs.converter.Converter.step_token.Goals as goal
use Rattle.pgn_game.proofs.converter.Converter.step_token.Goals.{After-take_token, In_default}

-- no number is skipped
not_in_movetext : {A : Type 0} → IsTrue false → A
not_in_movetext skipped = absurd (false≢true skipped)

-- Behind white space no token lies whole in the piece.
module _ (g : _) (c : In_default g) where
  passed : (o : Option (List ℕ)) (failures : ℕ) → ReadsIn (now_at c.self.inside.lexer c.self.inside.game c.self.inside.games false) c.args.piece.now
      (now_at c.whole_token-used.new.self c.self.inside.game c.self.inside.games false) c.whole_token-used.result.0 (Ok false) (between o o failures failures)
  passed o failures = reads_past _ _ _ _ o failures not_in_movetext (rw c.in_default.is at c.whole_token-used.ensures.reads) c.whole_token-used.ensures.used

  still_sound : IsSound c.whole_token-used.new.self c.self.inside.game c.self.inside.games c.self.inside.has_finished_game c.self.inside.is_finished c.self.inside.fault
  still_sound =
      let old = fields_before c.self.view_is c.self.invariant c.requires.before in
      rw (old.flag, old.none, old.not_over)
      (sound_past _ _ _ _ old.sound (short_before c.self.view_is c.requires) not_in_movetext
      (rw c.in_default.is at c.whole_token-used.ensures.reads) c.whole_token-used.ensures.used)

pub take_token-requires : goal.take_token-requires
take_token-requires g c =
    let old = fields_before c.self.view_is c.self.invariant c.requires.before in
    let behind = rw c.in-Some.is at c.whole_token-used.ensures.reads in
    (search fits_game, (omega (arith, old.sound.few_plies refl, old.sound.count), behind.reads.lengths))

pub invariant_of-self : goal.invariant_of-self
invariant_of-self g c = still_sound g (goal.at.invariant_of-self g c).In_default

pub step_on-requires : goal.step_on-requires
step_on-requires g c =
    let old = fields_before c.self.view_is c.self.invariant c.requires.before in
    let goes = (passed g (goal.at.step_on-requires g c).In_default None 0).goes in search (rules, fits_alike, short_before)

pub returns-then-used-eq0-clause-steps : goal.returns-then-used-eq0-clause-steps
returns-then-used-eq0-clause-steps g c =
    let old = fields_before c.self.view_is c.self.invariant c.requires.before in
    steps_of _ _ _ _ old.same
    (steps_at_once c.requires.some c.if-used-eq0.true (passed g (goal.at.returns-then-used-eq0-clause-steps g c).In_default _ _)
    (rw (old.flag, old.none, old.not_over) at c.step_on.ensures.steps))

pub returns-then-used-piece-clause-steps : goal.returns-then-used-piece-clause-steps
returns-then-used-piece-clause-steps g c =
    let old = fields_before c.self.view_is c.self.invariant c.requires.before in
    let some : 0 < c.whole_token-used.result.0 = omega (arith, c.requires.some, c.if-used-piece.true) in
    rw (old.flag, old.none, old.not_over)
    (steps_of _ _ _ _ old.same (steps_run some (passed g (goal.at.returns-then-used-piece-clause-steps g c).In_default _ _)))

pub invariant_of-self-else-used-eq0 : goal.invariant_of-self-else-used-eq0
invariant_of-self-else-used-eq0 g c = still_sound g (goal.at.invariant_of-self-else-used-eq0 g c).In_default

pub step_on-rest-requires : goal.step_on-rest-requires
step_on-rest-requires g c =
    let old = fields_before c.self.view_is c.self.invariant c.requires.before in
    let passed = passed g (goal.at.step_on-rest-requires g c).In_default None 0 in
    let here : c.whole_token-used.result.0 < length c.args.piece.now = omega (arith, passed.goes.within, c.if-used-piece.false) in
    (search fits_alike, rw (old.flag, old.none, old.not_over, take_rest) (before_rest (short_before c.self.view_is c.requires) passed here))

pub returns-in_default-clause-steps : goal.returns-in_default-clause-steps
returns-in_default-clause-steps g c =
    let old = fields_before c.self.view_is c.self.invariant c.requires.before in
    let here : c.whole_token-used.result.0 < length c.args.piece.now = omega (arith, c.whole_token-used.ensures.used, c.if-used-piece.false) in
    steps_of _ _ _ _ old.same
    (steps_then here (passed g (goal.at.returns-in_default-clause-steps g c).In_default _ _)
    (rw (old.flag, old.none, old.not_over, take_rest) at c.step_on-rest.ensures.steps))

pub whole_token-used-requires : goal.whole_token-used-requires
whole_token-used-requires g c = rw (← c.self.view_is) at c.requires.short

pub returns-then-used-eq0-clause-silent : goal.returns-then-used-eq0-clause-silent
returns-then-used-eq0-clause-silent g c = rw (← c.self.view_is) c.step_on.ensures.silent

pub returns-then-used-piece-clause-silent : goal.returns-then-used-piece-clause-silent
returns-then-used-piece-clause-silent g c = rw (← c.self.view_is) (silence_kept _ _ _ refl)

pub returns-in_default-clause-silent : goal.returns-in_default-clause-silent
returns-in_default-clause-silent g c = rw (← c.self.view_is) c.step_on-rest.ensures.silent

-- A token lies whole in the piece, and the reader has taken it.
module _ (g : _) (c : After-take_token g) (taken : Result Bool Reason) (is : c.take_token.result ≡ taken) where
  takes : TakesPlaced c.self.inside.game (kind_of c.in-Some.token.kind) c.in-Some.token.at c.take_token.new.self taken
      (sink_of c.self.inside.game g.W.Sink.taken g.W.Sink.failures c.args.out.now c.take_token.new.out)
  takes = rw is at c.take_token.ensures.takes

  steps : StepsIn (now_at c.self.inside.lexer c.self.inside.game c.self.inside.games false) c.args.piece.now
      (settled c.in-Some.token.at taken (now_at c.whole_token-used.new.self c.take_token.new.self c.self.inside.games false))
      c.whole_token-used.result.0 (taken_at c.in-Some.token.at taken)
      (sink_of c.self.inside.game g.W.Sink.taken g.W.Sink.failures c.args.out.now c.take_token.new.out)
  steps =
      let old = fields_before c.self.view_is c.self.invariant c.requires.before in
      steps_behind _ _ _ _ old.sound (short_before c.self.view_is c.requires) not_in_movetext (rw c.in-Some.is at c.whole_token-used.ensures.reads)
      c.whole_token-used.ensures.used c.take_token.new.self taken _ takes

  sound : IsSound c.whole_token-used.new.self c.take_token.new.self c.self.inside.games c.self.inside.has_finished_game c.self.inside.is_finished c.self.inside.fault
  sound =
      let old = fields_before c.self.view_is c.self.invariant c.requires.before in
      rw (old.flag, old.none, old.not_over)
      (sound_behind _ _ _ _ old.sound (short_before c.self.view_is c.requires) not_in_movetext (rw c.in-Some.is at c.whole_token-used.ensures.reads)
      c.whole_token-used.ensures.used c.take_token.new.self taken _ takes)

  has_taken : HasTakenToken (now_at c.whole_token-used.new.self c.take_token.new.self c.self.inside.games false) taken
  has_taken =
      let old = fields_before c.self.view_is c.self.invariant c.requires.before in
      has_taken_behind _ _ _ _ old.sound (short_before c.self.view_is c.requires) not_in_movetext (rw c.in-Some.is at c.whole_token-used.ensures.reads)
      c.whole_token-used.ensures.used c.take_token.new.self taken _ takes

pub invariant_of-self-in-Err : goal.invariant_of-self-in-Err
invariant_of-self-in-Err g c = sound g (goal.at.invariant_of-self-in-Err g c).After-take_token (Err c.in-Err.reason) c.in-Err.is

pub settle-outcome-requires : goal.settle-outcome-requires
settle-outcome-requires g c =
    let old = fields_before c.self.view_is c.self.invariant c.requires.before in
    (search fits_alike, rw (old.flag, old.none, old.not_over) (has_taken g (goal.at.settle-outcome-requires g c).After-take_token (Err c.in-Err.reason) c.in-Err.is))

pub returns-in-Err-clause-steps : goal.returns-in-Err-clause-steps
returns-in-Err-clause-steps g c =
    let old = fields_before c.self.view_is c.self.invariant c.requires.before in
    rw (c.settle-outcome.ensures.settled, c.settle-outcome.ensures.outcome, old.flag, old.not_over)
    (steps_of _ _ _ _ old.same (steps g (goal.at.returns-in-Err-clause-steps g c).After-take_token (Err c.in-Err.reason) c.in-Err.is))

pub invariant_of-self-then-finished : goal.invariant_of-self-then-finished
invariant_of-self-then-finished g c =
    let read : c.take_token.result ≡ Ok c.in-Ok.finished = c.in-Ok.is in
    sound g (goal.at.invariant_of-self-then-finished g c).After-take_token (Ok true) (read ∙ ap Ok c.if-finished.true)

pub settle-outcome-requires-then-finished : goal.settle-outcome-requires-then-finished
settle-outcome-requires-then-finished g c =
    let old = fields_before c.self.view_is c.self.invariant c.requires.before in
    let read : c.take_token.result ≡ Ok c.in-Ok.finished = c.in-Ok.is in (
      search fits_alike,
      rw (old.flag, old.none, old.not_over) (has_taken g (goal.at.settle-outcome-requires-then-finished g c).After-take_token (Ok true) (read ∙ ap Ok c.if-finished.true)),
    )

pub returns-then-finished-clause-steps : goal.returns-then-finished-clause-steps
returns-then-finished-clause-steps g c =
    let old = fields_before c.self.view_is c.self.invariant c.requires.before in
    let read : c.take_token.result ≡ Ok c.in-Ok.finished = c.in-Ok.is in
    rw (c.settle-outcome-then-finished.ensures.settled, c.settle-outcome-then-finished.ensures.outcome, old.none, old.not_over)
    (steps_of _ _ _ _ old.same (steps g (goal.at.returns-then-finished-clause-steps g c).After-take_token (Ok true) (read ∙ ap Ok c.if-finished.true)))

pub invariant_of-self-else-finished : goal.invariant_of-self-else-finished
invariant_of-self-else-finished g c =
    let read : c.take_token.result ≡ Ok c.in-Ok.finished = c.in-Ok.is in
    sound g (goal.at.invariant_of-self-else-finished g c).After-take_token (Ok false) (read ∙ ap Ok c.if-finished.false)

pub returns-else-finished-clause-steps : goal.returns-else-finished-clause-steps
returns-else-finished-clause-steps g c =
    let old = fields_before c.self.view_is c.self.invariant c.requires.before in
    let read : c.take_token.result ≡ Ok c.in-Ok.finished = c.in-Ok.is in
    rw (old.flag, old.none, old.not_over)
    (steps_of _ _ _ _ old.same (steps g (goal.at.returns-else-finished-clause-steps g c).After-take_token (Ok false) (read ∙ ap Ok c.if-finished.false)))
