use Rattle.pgn_game.proofs.Words.{Bool, Err, device, refl}
use Rattle.pgn_game.proofs.ReaderFitsInMemory.{fits_alike}
use Rattle.pgn_game.proofs.putting.SilentReader.{none_fails, silence_kept}
use Rattle.pgn_game.proofs.flow.AtEnd.{after_finish}
use Rattle.pgn_game.proofs.flow.Stops.{shown_if, stop_shown_if}
use Rattle.pgn_game.proofs.converter.Converter.finish.Goals as goal

pub finish_left-requires : goal.finish_left-requires
finish_left-requires g c =
    (search fits_alike, rw (← c.self.view_is) (record { no_fault = c.in_default.is; not_finished = rw (← c.self.view_is) at c.requires.not_finished }))

pub returns-clause-ends : goal.returns-clause-ends
returns-clause-ends g c =
    let left = c.finish_left.ensures.finishes in
    let same = c.finish_left.ensures.silent.silent in
    let sink = device g.W.Sink.taken g.W.Sink.failures c.args.out.now c.finish_left.new.out in
    λ p u b given stands.
    after_finish p u b given c.args.self.now _ stands c.requires.not_finished c.finish_left.result c.finish_left.new.self _ _ _ (shown_if _ _ _ same)
    (λ f is. stop_shown_if _ _ _ _ same (λ silent. none_fails {A = Bool} _ (Err f) sink silent (rw is at left.counted))) left

pub returns-clause-finished : goal.returns-clause-finished
returns-clause-finished g c = c.finish_left.ensures.finishes.finished

pub returns-clause-count : goal.returns-clause-count
returns-clause-count g c = c.finish_left.ensures.finishes.count

pub returns-clause-probes : goal.returns-clause-probes
returns-clause-probes g c = c.finish_left.ensures.finishes.probes

pub returns-clause-fault : goal.returns-clause-fault
returns-clause-fault g c = c.finish_left.ensures.finishes.fault

pub returns-clause-counted : goal.returns-clause-counted
returns-clause-counted g c = λ going. c.finish_left.ensures.finishes.counted

pub returns-clause-silent : goal.returns-clause-silent
returns-clause-silent g c = c.finish_left.ensures.silent

pub returns-in-Some-clause-silent : goal.returns-in-Some-clause-silent
returns-in-Some-clause-silent g c = silence_kept _ _ _ refl
