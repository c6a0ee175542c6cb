use Rattle.pgn_game.proofs.Words.{Writer, WriteFault, ap, items_meant, pairs_meant}
use Rattle.pgn_game.proofs.ReaderLemmas.{reader_alike}
use Rattle.pgn_game.proofs.putting.EventToGame.{failed_at, number_means_same, number_taken, section_fails, taken_at}
use Rattle.pgn_game.proofs.reader.ErrorReturned.{error_returned}
use Rattle.pgn_game.proofs.game.take_number.Goals as goal

pub ensure_section-requires : goal.ensure_section-requires
ensure_section-requires g c = (search reader_alike, (c.requires.stage, c.requires.begun))

pub returns-in_err-ensure_section : goal.returns-in_err-ensure_section
returns-in_err-ensure_section g c = record {
  written = ap (λ (w : Writer). w.written) c.in_err-ensure_section.ensures.writer;
  takes = λ old k place e means at mode is.
      rw (error_returned _ c.from_residual.ensures.1)
      (failed_at place WriteFault means.no_marker (section_fails g.W.Sink.taken g.W.Sink.failures c.args.writer.now c.ensure_section.new.writer old c.args.reader.now c.ensure_section.new.reader k e means at c.args.out.now c.ensure_section.new.out
      c.in_err-ensure_section.field-0.0 c.in_err-ensure_section.ensures.section));
}

pub returns : goal.returns
returns g c = record {
  written = ap (λ (w : Writer). w.written) c.in_ok-ensure_section.ensures.writer;
  takes = λ old k place e means at mode is.
      taken_at place (number_taken g.W.Sink.taken g.W.Sink.failures c.args.writer.now c.ensure_section.new.writer old c.args.reader.now c.ensure_section.new.reader k e means at c.args.out.now c.ensure_section.new.out
      c.in_ok-ensure_section.ensures.section (ap items_meant is) (ap pairs_meant is) (number_means_same e old.text c.args.reader.now.text is means.text));
}
