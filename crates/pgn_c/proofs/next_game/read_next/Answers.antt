use Rattle.pgn_c.proofs.Words.{false, drop, profile_counting, text_from, device}
use Rattle.pgn_c.proofs.NextGames.{finds_as}
use Rattle.pgn_c.proofs.next_game.read_next.Goals as goal

pub returns-clause-next : goal.returns-clause-next
returns-clause-next g c =
    let made = c.converter_at-converter.ensures in
    (finds_as (profile_counting c.args.mode c.args.missing) (text_from c.args.text.now c.args.from) (drop c.args.from c.args.text.now)
    c.run_next.result c.run_next.new.converter (device g.W.Sink.taken g.W.Sink.failures c.args.out.now c.run_next.new.out) _ false made.writes
    (c.run_next.ensures.runs (profile_counting c.args.mode c.args.missing) made.begins)).0

pub returns-clause-full : goal.returns-clause-full
returns-clause-full g c = rw c.converter_at-converter.ensures.writes at c.run_next.ensures.full
