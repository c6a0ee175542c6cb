use Rattle.pgn_game.proofs.Words.{refl}
use Rattle.pgn_game.proofs.ReaderLemmas.{reader_fits}
use Rattle.pgn_game.proofs.putting.EndToGame.{marker_fails, marker_refused, marker_taken, unbegun_marker}
use Rattle.pgn_game.proofs.reader.ErrorReturned.{error_returned}
use Rattle.pgn_game.proofs.game.Game.end_game.Goals as goal

pub is_in_movetext-begun-requires : goal.is_in_movetext-begun-requires
is_in_movetext-begun-requires g c = search reader_fits

pub end_game-requires : goal.end_game-requires
end_game-requires g c = (search reader_fits, rw (← c.self.view_is) at c.requires)

pub complete_section-requires : goal.complete_section-requires
complete_section-requires g c =
    (search reader_fits, rw c.in_ok-end_game.ensures.after refl)

pub returns-in_err-end_game : goal.returns-in_err-end_game
returns-in_err-end_game g c =
    rw (error_returned _ c.from_residual.ensures.1, ← c.self.view_is)
    (marker_refused c.self.inside.writer c.self.inside.reader c.end_game.new.self c.args.marker c.in_err-end_game.field-0.0 c.in_err-end_game.ensures)

pub returns-in_err-complete_section : goal.returns-in_err-complete_section
returns-in_err-complete_section g c =
    let may = rw (← c.self.view_is) at c.requires in
    rw (error_returned _ c.from_residual-in_err-complete_section.ensures.1, ← c.self.view_is)
    (unbegun_marker g.W.Sink.taken g.W.Sink.failures c.self.inside.writer c.complete_section.new.writer c.self.inside.reader c.end_game.new.self
    c.args.marker c.in_ok-end_game.ensures may c.is_in_movetext-begun.result c.is_in_movetext-begun.ensures c.args.out.now c.complete_section.new.out
    c.in_err-complete_section.ensures.writer c.in_err-complete_section.field-0.0 c.in_err-complete_section.ensures.section)

pub returns-in_err-put_marker : goal.returns-in_err-put_marker
returns-in_err-put_marker g c =
    let may = rw (← c.self.view_is) at c.requires in
    let section = c.in_ok-complete_section.ensures in
    rw (error_returned _ c.from_residual-in_err-put_marker.ensures.1, ← c.self.view_is)
    (marker_fails g.W.Sink.taken g.W.Sink.failures c.self.inside.writer c.complete_section.new.writer c.self.inside.reader c.end_game.new.self
    c.args.marker c.in_ok-end_game.ensures may c.is_in_movetext-begun.result c.is_in_movetext-begun.ensures c.args.out.now c.complete_section.new.out
    section.writer section.section c.put_marker.new.self c.put_marker.new.out c.in_err-put_marker.field-0.0 c.in_err-put_marker.ensures)

pub returns : goal.returns
returns g c =
    let may = rw (← c.self.view_is) at c.requires in
    let section = c.in_ok-complete_section.ensures in
    rw (← c.self.view_is)
    (marker_taken g.W.Sink.taken g.W.Sink.failures c.self.inside.writer c.complete_section.new.writer c.self.inside.reader c.end_game.new.self
    c.args.marker c.in_ok-end_game.ensures may c.is_in_movetext-begun.result c.is_in_movetext-begun.ensures c.args.out.now c.complete_section.new.out
    section.writer section.section c.put_marker.new.self c.put_marker.new.out c.in_ok-put_marker.ensures)
