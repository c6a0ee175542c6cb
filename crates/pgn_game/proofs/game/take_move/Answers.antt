use Rattle.pgn_game.proofs.Words.{Writer, ap, ◌∙◌, WriteFault, rules}
use Rattle.pgn_game.proofs.ReaderLemmas.{reader_alike}
use Rattle.pgn_game.proofs.putting.EventToGame.{failed_at, move_fails, move_taken, section_fails, taken_at}
use Rattle.pgn_game.proofs.reader.ErrorReturned.{error_returned}
use Rattle.pgn_game.proofs.game.take_move.Goals as goal

pub ensure_section-requires : goal.ensure_section-requires
ensure_section-requires g c = (search reader_alike, (c.requires.stage, c.requires.begun))

pub returns-in_err-ensure_section : goal.returns-in_err-ensure_section
returns-in_err-ensure_section g c = record {
  written = ap (λ (w : Writer). w.written) c.in_err-ensure_section.ensures.writer;
  takes = λ old k place e means at mode is.
      rw (error_returned _ c.from_residual.ensures.1)
      (failed_at place WriteFault means.no_marker (section_fails g.W.Sink.taken g.W.Sink.failures c.args.writer.now c.ensure_section.new.writer old c.args.reader.now c.ensure_section.new.reader k e means at c.args.out.now c.ensure_section.new.out
      c.in_err-ensure_section.field-0.0 c.in_err-ensure_section.ensures.section));
}

pub write_move-requires : goal.write_move-requires
write_move-requires g c = search (rules, reader_alike)

pub returns-in_err-write_move : goal.returns-in_err-write_move
returns-in_err-write_move g c = record {
  written = c.in_err-write_move.ensures.written ∙ ap (λ (w : Writer). w.written) c.in_ok-ensure_section.ensures.writer;
  takes = λ old k place e means at mode is.
      let begun = c.in_ok-ensure_section.ensures in
      rw (error_returned _ c.from_residual-in_err-write_move.ensures.1)
      (failed_at place WriteFault means.no_marker (move_fails g.W.Sink.taken g.W.Sink.failures c.args.writer.now c.ensure_section.new.writer old c.args.reader.now c.ensure_section.new.reader k e means at c.args.out.now c.ensure_section.new.out
      begun.section mode begun.reader begun.writer c.write_move.new.writer c.write_move.new.out c.write_move.new.reader c.args.mv c.args.probes is c.in_err-write_move.field-0.0 c.in_err-write_move.ensures));
}

pub returns : goal.returns
returns g c = record {
  written = c.in_ok-write_move.ensures.written ∙ ap (λ (w : Writer). w.written) c.in_ok-ensure_section.ensures.writer;
  takes = λ old k place e means at mode is.
      let begun = c.in_ok-ensure_section.ensures in
      taken_at place (move_taken g.W.Sink.taken g.W.Sink.failures c.args.writer.now c.ensure_section.new.writer old c.args.reader.now c.ensure_section.new.reader k e means at c.args.out.now c.ensure_section.new.out
      begun.section mode begun.reader begun.writer c.write_move.new.writer c.write_move.new.out c.write_move.new.reader c.args.mv c.args.probes is c.in_ok-write_move.ensures);
}
