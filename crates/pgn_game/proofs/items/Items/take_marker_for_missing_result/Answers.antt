use Rattle.pgn_game.proofs.Words.{refl}
use Rattle.pgn_game.specs.steps.ItemsSteps.{fault_in, is_at_end}
use Rattle.pgn_game.proofs.giving.CurrentFitsInMemory.{items_fit_current}
use Rattle.pgn_game.proofs.giving.MissingTakesMarker.{gives_by_marker, sound_by_marker}
use Rattle.pgn_game.proofs.items.Items.take_marker_for_missing_result.Goals as goal

pub take_marker_for_missing_result-requires : goal.take_marker_for_missing_result-requires
take_marker_for_missing_result-requires g c = search items_fit_current

pub invariant_of-self : goal.invariant_of-self
invariant_of-self g c =
    let old = c.self.inside in
    rw c.take_marker_for_missing_result.ensures.only_switch
    (sound_by_marker old.lexer old.current.reading old.current.games (is_at_end old.state) (fault_in old.state) c.self.invariant)

pub returns-clause-only_switch : goal.returns-clause-only_switch
returns-clause-only_switch g c = rw (← c.self.view_is, c.take_marker_for_missing_result.ensures.only_switch) refl

pub returns-clause-gives : goal.returns-clause-gives
returns-clause-gives g c =
    rw (← c.self.view_is, c.take_marker_for_missing_result.ensures.only_switch) (gives_by_marker _ c.take_marker_for_missing_result.ensures.silent)
