use Rattle.pgn_game.proofs.Words.{◌-◌, true, ap, profile_of, None, Converter}
use Rattle.pgn_game.proofs.putting.SilentReader.{ready_silently}
use Rattle.pgn_game.proofs.stepping.WholeInput.{is_short_slice}
use Rattle.pgn_game.proofs.twice.FailuresOfSteps.{no_write_to}
use Rattle.pgn_game.proofs.conversion.check_slice.Goals as goal

pub convert_text-requires : goal.convert_text-requires
convert_text-requires g c = (
  c.requires.memory,
  ready_silently c.new-converter.result c.write_nothing.ensures.only_switch c.new-converter.ensures.not_finished c.new-converter.ensures.stands.has_read.no_fault,
)

pub returns : goal.returns
returns g c =
    let p = profile_of g.row.T (g.row.L - 1) c.args.mode in
    let silent = ap (λ (s : Converter). s.reading.writing.is_silent) c.write_nothing.ensures.only_switch in
    let checks = rw silent at (c.convert_text.ensures.converts p (c.write_nothing.ensures.stands p _ _ c.new-converter.ensures.stands)) in
    record {
      checks = (checks, no_write_to c.convert_text.result (rw silent at c.convert_text.ensures.counted));
      short = is_short_slice true p _ None None c.convert_text.result checks;
    }
