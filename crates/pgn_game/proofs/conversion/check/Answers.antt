use Rattle.pgn_game.proofs.Words.{◌-◌, true, ap, Converter, profile_of, device, None}
use Rattle.pgn_game.proofs.putting.SilentReader.{ready_silently}
use Rattle.pgn_game.proofs.stepping.WholeInput.{is_short}
use Rattle.pgn_game.proofs.twice.FailuresOfSteps.{no_write_in}
use Rattle.pgn_game.proofs.conversion.check.Goals as goal

pub convert_all-requires : goal.convert_all-requires
convert_all-requires g c = (
  c.requires.memory,
  ready_silently c.new-converter.result c.write_nothing.ensures.only_switch c.new-converter.ensures.not_finished c.new-converter.ensures.stands.has_read.no_fault,
)

pub returns : goal.returns
returns g c =
    let p = profile_of g.row.T (g.row.L - 1) c.args.mode in
    let source = device g.R.Source.left g.R.Source.failures c.args.reader.now c.convert_all.new.reader in
    let silent = ap (λ (s : Converter). s.reading.writing.is_silent) c.write_nothing.ensures.only_switch in
    let converts = rw silent at (c.convert_all.ensures.converts p (c.write_nothing.ensures.stands p _ _ c.new-converter.ensures.stands)) in
    let counted = rw silent at c.convert_all.ensures.counted in
    record {
      checks = (converts, no_write_in c.convert_all.result source counted);
      short = is_short true p _ source.after None None c.convert_all.result converts;
      counted = counted;
    }

pub new-converter-requires : goal.new-converter-requires
new-converter-requires g c = (c.requires.memory, c.requires.levels)

pub write_nothing-requires : goal.write_nothing-requires
write_nothing-requires g c = c.requires.memory
