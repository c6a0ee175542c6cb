use Rattle.pgn_game.proofs.Words.{sym, ◌∙◌}
use Rattle.pgn_game.specs.steps.Accepted.{without_writer}
use Rattle.pgn_game.proofs.giving.EventToItem.{played_before}
use Rattle.pgn_game.proofs.giving.CurrentFitsInMemory.{current_fits_reader}
use Rattle.pgn_game.proofs.current_game.CurrentGame.position.Goals as goal

pub position_before-requires : goal.position_before-requires
position_before-requires g c =
    let is = sym c.move_of.ensures ∙ c.in-Some.is in
    (search current_fits_reader, played_before (without_writer c.self.inside.reader) c.self.inside.pending c.in-Some.field-0 is c.self.invariant.pending)

pub position-requires : goal.position-requires
position-requires g c = search current_fits_reader
