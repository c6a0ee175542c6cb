use Rattle.pgn_game.proofs.Words.{refl, sym, ◌∙◌, Unknown, marker_text, roster}
use Rattle.pgn_game.proofs.refusals.ReaderToPart.{has_pair_found}
use Rattle.pgn_game.proofs.pairs.ExportedValues.{in_roster-value}
use Rattle.pgn_game.proofs.section.is_in_roster.Goals as goal

pub returns : goal.returns
returns c =
    let defaults = roster (marker_text Unknown) in
    let name = c.args.name.now in
    sym (in_roster-value (marker_text Unknown) name
    ∙ has_pair_found defaults defaults name c.unknown_value.result _ refl c.unknown_value.ensures.value c.is_some.ensures)
