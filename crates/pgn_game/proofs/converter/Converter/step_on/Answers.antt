use Rattle.pgn_game.proofs.Words.{arith, refl, rules}
use Rattle.pgn_game.proofs.ReaderFitsInMemory.{fits_alike, fits_game}
use Rattle.pgn_game.proofs.flow.StepsIn.{has_taken, sound_taken, steps_fault, steps_more, steps_of, steps_taken}
use Rattle.pgn_game.proofs.putting.SilentReader.{silence_kept}
use Rattle.pgn_game.proofs.stepping.StepsAtEnd.{fields_before, short_before, sound_behind_fault}
use Rattle.pgn_game.proofs.stepping.StepsOverTokens.{sound_more}
use Rattle.pgn_game.proofs.converter.Converter.step_on.Goals as goal

pub next-scan-requires : goal.next-scan-requires
next-scan-requires g c = rw (← c.self.view_is) at c.requires.short

pub take_copied-taken-requires : goal.take_copied-taken-requires
take_copied-taken-requires g c =
    let old = fields_before c.self.view_is c.self.invariant c.requires.before in (
      search fits_game,
      (omega (arith, old.sound.few_plies refl, old.sound.count), rw c.in-Token.is at c.next-scan.follows.holds-at-none.lengths),
    )

pub settle-requires : goal.settle-requires
settle-requires g c =
    let old = fields_before c.self.view_is c.self.invariant c.requires.before in (
      search fits_alike,
      rw (old.flag, old.none, old.not_over)
          (has_taken _ _ _ _ c.requires.some c.next-scan.ensures.used (rw c.in-Token.is at c.next-scan.follows.holds-at-none) c.take_copied-taken.new.self _ old.sound
          (short_before c.self.view_is c.requires) c.take_copied-taken.result c.take_copied-taken.ensures.takes),
    )

pub returns-in-NeedMore-clause-steps : goal.returns-in-NeedMore-clause-steps
returns-in-NeedMore-clause-steps g c =
    let old = fields_before c.self.view_is c.self.invariant c.requires.before in
    rw (old.flag, old.none, old.not_over)
    (steps_of _ _ _ _ old.same (steps_more _ _ _ _ c.requires.some c.next-scan.ensures.used (rw c.in-NeedMore.is at c.next-scan.follows.holds-at-none) _ _))

pub returns-in-Token-clause-steps : goal.returns-in-Token-clause-steps
returns-in-Token-clause-steps g c =
    let old = fields_before c.self.view_is c.self.invariant c.requires.before in
    rw (c.settle.ensures.settled, c.settle.ensures.outcome, old.flag, old.none, old.not_over)
    (steps_of _ _ _ _ old.same
    (steps_taken _ _ _ _ c.requires.some c.next-scan.ensures.used (rw c.in-Token.is at c.next-scan.follows.holds-at-none) c.take_copied-taken.new.self _
    c.take_copied-taken.result c.take_copied-taken.ensures.takes))

pub returns-in-Fault-clause-steps : goal.returns-in-Fault-clause-steps
returns-in-Fault-clause-steps g c =
    let old = fields_before c.self.view_is c.self.invariant c.requires.before in
    rw (old.flag, old.not_over, c.lexical-fault.ensures)
    (steps_of _ _ _ _ old.same
    (steps_fault _ _ _ _ c.requires.some c.next-scan.ensures.used c.in-Fault.fault (rw c.in-Fault.is at c.next-scan.follows.holds-at-none) _ _))

pub invariant_of-self : goal.invariant_of-self
invariant_of-self g c = search (rules, fields_before, sound_more, short_before)

pub invariant_of-self-in-Token : goal.invariant_of-self-in-Token
invariant_of-self-in-Token g c =
    let old = fields_before c.self.view_is c.self.invariant c.requires.before in search (rules, sound_taken, short_before)

pub invariant_of-self-in-Fault : goal.invariant_of-self-in-Fault
invariant_of-self-in-Fault g c = search (rules, fields_before, sound_behind_fault, short_before)

pub returns-in-NeedMore-clause-silent : goal.returns-in-NeedMore-clause-silent
returns-in-NeedMore-clause-silent g c = rw (← c.self.view_is) (silence_kept _ _ _ refl)

pub returns-in-Fault-clause-silent : goal.returns-in-Fault-clause-silent
returns-in-Fault-clause-silent g c = rw (← c.self.view_is) (silence_kept _ _ _ refl)
