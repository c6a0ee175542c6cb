use Rattle.pgn_game.proofs.Words.{ap, has_whole_pairs}
use Rattle.pgn_game.proofs.ReaderLemmas.{reader_fits}
use Rattle.pgn_game.proofs.game.Game.write_section.Goals as goal

pub mode-requires : goal.mode-requires
mode-requires g c = search reader_fits

pub shown_result-requires : goal.shown_result-requires
shown_result-requires g c = search reader_fits

pub pairs-requires : goal.pairs-requires
pairs-requires g c =
    let between = rw (← c.self.view_is) at c.requires in
    (search reader_fits, ap has_whole_pairs between)

pub has_fen-requires : goal.has_fen-requires
has_fen-requires g c = search reader_fits
