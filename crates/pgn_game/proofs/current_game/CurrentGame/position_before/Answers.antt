use Rattle.pgn_game.proofs.Words.{sym, subst, ◌∙◌}
use Rattle.pgn_game.specs.steps.Accepted.{without_writer}
use Rattle.pgn_game.specs.steps.ItemsSteps.{IsSoundGame}
use Rattle.pgn_game.proofs.giving.EventToItem.{legal_if_move, none_next, played_before}
use Rattle.pgn_game.proofs.giving.CurrentFitsInMemory.{current_fits_reader}
use Rattle.pgn_game.proofs.current_game.CurrentGame.position_before.Goals as goal

pub position_before-requires : goal.position_before-requires
position_before-requires g c =
    let is = sym c.move_of.ensures ∙ c.in-Some.is in
    let none = none_next (without_writer c.self.inside.reader) c.self.inside.last c.in-Some.field-0 is _ c.self.invariant.behind in
    (search current_fits_reader, played_before (without_writer c.self.inside.reader) c.self.inside.last c.in-Some.field-0 is (c.self.invariant.last none))

pub returns-in-Some-clause-legal : goal.returns-in-Some-clause-legal
returns-in-Some-clause-legal g c = legal_if_move _ (subst IsSoundGame c.self.view_is c.self.invariant)

pub returns-in-None-clause-legal : goal.returns-in-None-clause-legal
returns-in-None-clause-legal g c = legal_if_move _ (subst IsSoundGame c.self.view_is c.self.invariant)
