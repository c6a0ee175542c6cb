use Rattle.pgn_game.proofs.Words.{Writer, ap, ◌∙◌, WriteFault, codes, decimal, ◌++◌}
use Rattle.pgn_game.proofs.ReaderLemmas.{reader_alike}
use Rattle.pgn_game.proofs.putting.EventToGame.{annotation_fails, annotation_taken, failed_at, section_fails, taken_at}
use Rattle.pgn_game.proofs.reader.ErrorReturned.{error_returned}
use Rattle.pgn_game.proofs.game.take_glyph.Goals as goal

pub ensure_section-requires : goal.ensure_section-requires
ensure_section-requires g c = (search reader_alike, (c.requires.stage, c.requires.begun))

pub returns-in_err-ensure_section : goal.returns-in_err-ensure_section
returns-in_err-ensure_section g c = record {
  written = ap (λ (w : Writer). w.written) c.in_err-ensure_section.ensures.writer;
  takes = λ old k place e means at mode is.
      rw (error_returned _ c.from_residual.ensures.1)
      (failed_at place WriteFault means.no_marker (section_fails g.W.Sink.taken g.W.Sink.failures c.args.writer.now c.ensure_section.new.writer old c.args.reader.now c.ensure_section.new.reader k e means at c.args.out.now c.ensure_section.new.out
      c.in_err-ensure_section.field-0.0 c.in_err-ensure_section.ensures.section));
}

pub returns-in_err-put_glyph : goal.returns-in_err-put_glyph
returns-in_err-put_glyph g c = record {
  written = ap (λ (w : Writer). w.written) c.in_err-put_glyph.ensures.writes.writer ∙ ap (λ (w : Writer). w.written) c.in_ok-ensure_section.ensures.writer;
  takes = λ old k place e means at mode is.
      let begun = c.in_ok-ensure_section.ensures in
      rw (error_returned _ c.from_residual-in_err-put_glyph.ensures.1)
      (failed_at place WriteFault means.no_marker (annotation_fails g.W.Sink.taken g.W.Sink.failures c.args.writer.now c.ensure_section.new.writer old c.args.reader.now c.ensure_section.new.reader k e means at c.args.out.now c.ensure_section.new.out
      begun.section mode begun.reader begun.writer c.put_glyph.new.self c.put_glyph.new.out (codes "$" ++ decimal c.args.glyph) is c.in_err-put_glyph.field-0.0 c.in_err-put_glyph.ensures));
}

pub returns : goal.returns
returns g c = record {
  written = ap (λ (w : Writer). w.written) c.in_ok-put_glyph.ensures.writes.writer ∙ ap (λ (w : Writer). w.written) c.in_ok-ensure_section.ensures.writer;
  takes = λ old k place e means at mode is.
      let begun = c.in_ok-ensure_section.ensures in
      taken_at place (annotation_taken g.W.Sink.taken g.W.Sink.failures c.args.writer.now c.ensure_section.new.writer old c.args.reader.now c.ensure_section.new.reader k e means at c.args.out.now c.ensure_section.new.out
      begun.section mode begun.reader begun.writer c.put_glyph.new.self c.put_glyph.new.out (codes "$" ++ decimal c.args.glyph) is c.in_ok-put_glyph.ensures);
}
