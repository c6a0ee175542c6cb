use Rattle.pgn_game.proofs.Words.{Profile, ◌-◌, max, refl, ap, ◌∙◌, arith, device, Device, one_more, checked_profile, WritesGame, CountsResult}
use Rattle.pgn_game.proofs.putting.SilentReader.{unseen}
use Rattle.pgn_game.proofs.twice.FailuresOfSteps.{first_counts, second_counts, source_fails}
use Rattle.pgn_game.proofs.twice.ReadingsToConversion.{both_end, both_more, both_none, first_stops, second_stops}
use Rattle.pgn_game.proofs.reader.ErrorReturned.{error_returned}
use Rattle.pgn_game.proofs.checked.convert_checked.Given.{Over}
use Rattle.pgn_game.proofs.checked.convert_checked.Goals.{After-read_game, After-write_game}
use Rattle.pgn_game.proofs.checked.convert_checked.Goals as goal

-- The first source is read to the end of one game more.
module _ (g : Over) (c : After-read_game g) where
  abbrev q : Profile
  q = checked_profile g.row.T (g.row.L - 1) c.args.mode

  abbrev first : Device
  first = device g.Q.Source.left g.Q.Source.failures c.args.first.now c.read_game.new.source

  abbrev second : Device
  second = device g.R.Source.left g.R.Source.failures c.args.second.now c.loop-marker.second

  abbrev sink : Device
  sink = device g.W.Sink.taken g.W.Sink.failures c.args.writer.now c.loop-marker.writer

-- The game is read from the second source too, and written. `here` are the devices in this call.
module _ (g : Over) (c : After-write_game g) where
  abbrev second_here : Device
  second_here = device g.R.Source.left g.R.Source.failures c.loop-marker.second c.write_game.new.source

  abbrev sink_here : Device
  sink_here = device g.W.Sink.taken g.W.Sink.failures c.loop-marker.writer c.write_game.new.out

  abbrev second_read : Device
  second_read = device g.R.Source.left g.R.Source.failures c.args.second.now c.write_game.new.source

  abbrev written : Device
  written = device g.W.Sink.taken g.W.Sink.failures c.args.writer.now c.write_game.new.out

  writes : WritesGame second_here.before second_here.after c.loop-marker.behind c.in-Some.marker c.write_game.new.self c.write_game.result
      sink_here.before sink_here.after
  writes = c.write_game.ensures.writes c.loop-marker.invariant.second_writes

  counted : CountsResult c.write_game.result second_here sink_here
  counted = unseen (CountsResult c.write_game.result second_here) _ sink_here c.loop-marker.invariant.second_writes c.write_game.ensures.counted

pub loop-marker-init : goal.loop-marker-init
loop-marker-init g c =
    record {
      first_going = c.write_nothing.ensures.going;
      second_going = c.new-behind.ensures.going;
      first_silent = c.write_nothing.ensures.silent;
      second_writes = c.new-behind.ensures.writes;
      first = refl;
      second = refl;
      sink = refl;
      both = both_none (checked_profile g.row.T (g.row.L - 1) c.args.mode) _ _ _ _ _
          (c.write_nothing.ensures.given _ _ _ (c.new-ahead.ensures.given _)) (c.new-behind.ensures.given _);
    }

pub returns-in_err-marker-clause-converts : goal.returns-in_err-marker-clause-converts
returns-in_err-marker-clause-converts g c =
    let read = (goal.at.returns-in_err-marker-clause-converts g c).After-read_game in
    let so = c.loop-marker.invariant in
    let f = c.in_err-marker.field-0.0 in
    rw (error_returned _ c.from_residual.ensures.1)
    (first_stops (q g read) (first g read) (second g read) (sink g read) _ c.loop-marker.ahead c.loop-marker.behind so.both f
    (λ is. source_fails f.reason _ _ _ _ c.in_err-marker.ensures.counted is ∙ ap one_more so.first)
    (c.in_err-marker.ensures.reads so.first_silent (q g read) _ so.both.first_tokens so.both.first_stands))

pub returns-in_err-marker-clause-counted : goal.returns-in_err-marker-clause-counted
returns-in_err-marker-clause-counted g c =
    let read = (goal.at.returns-in_err-marker-clause-counted g c).After-read_game in
    let so = c.loop-marker.invariant in
    rw (error_returned _ c.from_residual.ensures.1)
    (first_counts c.in_err-marker.field-0.0.reason (first g read) (second g read) (sink g read) _ so.first so.second so.sink c.in_err-marker.ensures.counted)

pub returns-clause-converts : goal.returns-clause-converts
returns-clause-converts g c =
    let read = (goal.at.returns-clause-converts g c).After-read_game in
    let so = c.loop-marker.invariant in
    let x = so.both in
    let reads = rw c.in_default.is at c.in_ok-marker.ensures.reads in
    both_end (q g read) (first g read) (second g read) (sink g read) _ c.loop-marker.ahead c.loop-marker.behind x c.read_game.new.self
    c.totals.result
    (reads so.first_silent (q g read) _ x.first_tokens x.first_stands) (c.in_ok-marker.ensures.silent ∙ so.first_silent)
    so.second_writes c.totals.ensures.games c.totals.ensures.plies
    (c.totals.ensures.probes ∙ ap (λ n. max n c.loop-marker.behind.converter.reading.most_probes) c.most_probes.ensures.value)
    (omega (arith, c.most_probes.ensures.value, c.most_probes.ensures.bound))
    (omega (arith, c.totals.ensures.probes, c.totals.ensures.bound))

pub loop-marker-preserved : goal.loop-marker-preserved
loop-marker-preserved g c =
    let write = (goal.at.loop-marker-preserved g c).After-write_game in
    let so = c.loop-marker.invariant in
    let x = so.both in
    let q = checked_profile g.row.T (g.row.L - 1) c.args.mode in
    let counts = rw c.in_ok-write_game.was at (counted g write) in
    record {
      first_going = (rw c.in-Some.is at c.in_ok-marker.ensures.going).0;
      second_going = c.in_ok-write_game.ensures.going;
      first_silent = c.in_ok-marker.ensures.silent ∙ so.first_silent;
      second_writes = c.in_ok-write_game.ensures.silent.silent ∙ so.second_writes;
      first = c.in_ok-marker.ensures.counted.0 ∙ so.first;
      second = counts.0 ∙ so.second;
      sink = counts.1 ∙ so.sink;
      both =
          both_more q _ _ _ _ c.loop-marker.ahead c.loop-marker.behind _ _ x c.in-Some.marker c.read_game.new.self c.write_game.new.self _ _ _
          ((rw c.in-Some.is at c.in_ok-marker.ensures.reads) so.first_silent q _ x.first_tokens x.first_stands)
          ((rw c.in_ok-write_game.was at (writes g write)) q _ x.second_tokens x.second_stands);
    }

pub returns-in_err-write_game-clause-converts : goal.returns-in_err-write_game-clause-converts
returns-in_err-write_game-clause-converts g c =
    let here = goal.at.returns-in_err-write_game-clause-converts g c in
    let read = here.After-read_game in
    let write = here.After-write_game in
    let so = c.loop-marker.invariant in
    let x = so.both in
    let f = c.in_err-write_game.field-0.0 in
    rw (error_returned _ c.from_residual-in_err-write_game.ensures.1)
    (second_stops (q g read) (first g read) (second_read g write) (written g write) _ _ _ c.loop-marker.ahead c.loop-marker.behind x c.in-Some.marker c.read_game.new.self f
    ((rw c.in-Some.is at c.in_ok-marker.ensures.reads) so.first_silent (q g read) _ x.first_tokens x.first_stands)
    ((rw c.in_err-write_game.was at (writes g write)) (q g read) _ x.second_tokens x.second_stands)
    (λ is. source_fails f.reason _ _ _ _ c.in_err-write_game.ensures.counted is ∙ ap one_more so.second))

pub returns-in_err-write_game-clause-counted : goal.returns-in_err-write_game-clause-counted
returns-in_err-write_game-clause-counted g c =
    let here = goal.at.returns-in_err-write_game-clause-counted g c in
    let write = here.After-write_game in
    let so = c.loop-marker.invariant in
    rw (error_returned _ c.from_residual-in_err-write_game.ensures.1)
    (second_counts c.in_err-write_game.field-0.0.reason (first g here.After-read_game) (second_read g write) (written g write) _ _
    (c.in_ok-marker.ensures.counted.0 ∙ so.first) so.second so.sink (rw c.in_err-write_game.was at (counted g write)))

pub new-ahead-requires : goal.new-ahead-requires
new-ahead-requires g c = (c.requires.memory, c.requires.levels)

pub new-behind-requires : goal.new-behind-requires
new-behind-requires g c = (c.requires.memory, c.requires.levels)

pub write_nothing-requires : goal.write_nothing-requires
write_nothing-requires g c = (c.requires.memory, c.new-ahead.ensures.going)

pub read_game-requires : goal.read_game-requires
read_game-requires g c = (c.requires.memory, c.loop-marker.invariant.first_going)

pub write_game-requires : goal.write_game-requires
write_game-requires g c = (c.requires.memory, c.loop-marker.invariant.second_going)

pub most_probes-requires : goal.most_probes-requires
most_probes-requires g c = c.requires.memory

pub totals-requires : goal.totals-requires
totals-requires g c = (c.requires.memory, (c.loop-marker.invariant.second_going, c.most_probes.ensures.bound))
