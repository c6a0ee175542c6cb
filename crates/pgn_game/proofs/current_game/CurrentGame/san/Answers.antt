use Rattle.pgn_game.proofs.Words.{sym, ◌∙◌}
use Rattle.pgn_game.specs.steps.Accepted.{without_writer}
use Rattle.pgn_game.proofs.giving.EventToItem.{leads_from, none_next, played_before}
use Rattle.pgn_game.proofs.giving.CurrentFitsInMemory.{current_fits_reader}
use Rattle.pgn_game.proofs.current_game.CurrentGame.san.Goals as goal

pub position_before-before-requires : goal.position_before-before-requires
position_before-before-requires g c =
    let is = sym c.move_of.ensures ∙ c.in-Some.is in
    let none = none_next (without_writer c.self.inside.reader) c.self.inside.last c.in-Some.mv is _ c.self.invariant.behind in
    (search current_fits_reader, played_before (without_writer c.self.inside.reader) c.self.inside.last c.in-Some.mv is (c.self.invariant.last none))

pub position-requires : goal.position-requires
position-requires g c = search current_fits_reader

pub write_san_of-requires-clause-legal : goal.write_san_of-requires-clause-legal
write_san_of-requires-clause-legal g c =
    let is = sym c.move_of.ensures ∙ c.in-Some.is in
    let none = none_next (without_writer c.self.inside.reader) c.self.inside.last c.in-Some.mv is _ c.self.invariant.behind in
    rw c.position.ensures (leads_from (without_writer c.self.inside.reader) c.self.inside.last c.in-Some.mv is (c.self.invariant.last none) _ c.position_before-before.ensures)
