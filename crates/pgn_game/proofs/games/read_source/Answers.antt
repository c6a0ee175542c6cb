use Rattle.pgn_game.proofs.Words.{◌≤◌, ◌^◌, ◌∙◌, ap, arith, le_refl, le_trans, refl, Device, device, one_more, sink_of, rules}
use Rattle.pgn_game.specs.steps.Flow.{FeedsPiece}
use Rattle.pgn_game.proofs.ReaderFitsInMemory.{fits_alike}
use Rattle.pgn_game.proofs.flow.NextGame.{fed_fault, fed_game, given_more, given_none, read_fails}
use Rattle.pgn_game.proofs.putting.SilentReader.{seen_alike, silence_kept, silence_then}
use Rattle.pgn_game.proofs.reader.ErrorReturned.{error_returned}
use Rattle.pgn_game.proofs.twice.FailuresOfSteps.{behind_still, reader_reason}
use Rattle.pgn_game.proofs.games.read_source.Goals as goal
use Rattle.pgn_game.proofs.games.read_source.Goals.{After-feed_piece}

-- the unused bytes are fed, and the sink is seen as the call sees it
module _ (g : _) (c : After-feed_piece g) where
  abbrev sink : Device
  sink = device g.W.Sink.taken g.W.Sink.failures c.loop-used.out c.feed_piece.new.out

  fed : FeedsPiece c.loop-used.converter c.loop-used.buffer c.feed_piece.new.self c.feed_piece.result
      (sink_of c.args.converter.now.reading g.W.Sink.taken g.W.Sink.failures c.loop-used.out c.feed_piece.new.out)
  fed = search (rules, seen_alike)

  short : c.args.converter.now.lexer.count ≤ 2 ^ 62
  short = omega (arith, c.loop-used.invariant.grows, fed.goes.grows, fed.goes.short)

pub loop-used-init : goal.loop-used-init
loop-used-init g c = search (rules, le_refl, silence_kept, given_none)

pub feed_piece-requires : goal.feed_piece-requires
feed_piece-requires g c = (search fits_alike, c.loop-used.invariant.going)

pub returns-in_err-used-clause-reads : goal.returns-in_err-used-clause-reads
returns-in_err-used-clause-reads g c =
    let after = (goal.at.returns-in_err-used-clause-reads g c).After-feed_piece in
    let feeds = rw c.in_err-used.was at (fed g after) in
    let so = c.loop-used.invariant in
    let f = c.in_err-used.field-0.0 in
    rw (error_returned _ c.from_residual.ensures.1) (record {
      reads = fed_fault _ _ _ _ _ _ _ _ _ _ 0 _ _ so.given f feeds;
      short = short g after;
      games = omega (arith, feeds.goes.games.0, so.games);
      few = λ is. absurd (cc (is));
      none_else = feeds.goes.games.1;
      not_finished = feeds.goes.not_finished;
      fault = feeds.goes.fault;
      probes = le_trans so.probes feeds.goes.probes;
      counted = behind_still f.reason _ _ _ _ _ _ so.source so.sink (reader_reason f.reason _ _ _ feeds.goes.counted);
    })

pub returns-in_err-used-clause-silent : goal.returns-in_err-used-clause-silent
returns-in_err-used-clause-silent g c = silence_then _ _ _ _ _ _ c.loop-used.invariant.silent c.feed_piece.ensures.silent

pub returns-in-Game-clause-reads : goal.returns-in-Game-clause-reads
returns-in-Game-clause-reads g c =
    let after = (goal.at.returns-in-Game-clause-reads g c).After-feed_piece in
    let feeds = rw (c.in_ok-used.was, c.in-Game.is) at (fed g after) in
    let so = c.loop-used.invariant in
    rw c.skip.ensures (record {
      reads = fed_game _ _ _ _ _ _ _ _ _ _ 0 _ _ so.given c.in-Game.used feeds;
      short = short g after;
      games = omega (arith, feeds.goes.games.0, so.games);
      few = λ is. omega (arith, feeds.goes.games.1, so.games);
      none_else = tt;
      not_finished = feeds.goes.not_finished;
      fault = feeds.goes.fault;
      probes = le_trans so.probes feeds.goes.probes;
      counted = (so.source, feeds.goes.counted ∙ so.sink);
    })

pub returns-in-Game-clause-silent : goal.returns-in-Game-clause-silent
returns-in-Game-clause-silent g c = silence_then _ _ _ _ _ _ c.loop-used.invariant.silent c.feed_piece.ensures.silent

pub skip-requires : goal.skip-requires
skip-requires g c = search (rules, After-feed_piece, fed)

pub returns-in_err-read_more-clause-reads : goal.returns-in_err-read_more-clause-reads
returns-in_err-read_more-clause-reads g c =
    let after = (goal.at.returns-in_err-read_more-clause-reads g c).After-feed_piece in
    let feeds = rw (c.in_ok-used.was, c.in-All.is) at (fed g after) in
    let so = c.loop-used.invariant in
    let more = c.in_err-read_more.ensures.more in
    rw (error_returned _ c.from_residual-in_err-read_more.ensures.1) (record {
      reads = read_fails _ _ _ _ _ _ _ _ _ _ 0 _ _ so.given feeds _ _ _ _ more.2 more.0 more.1;
      short = short g after;
      games = rw more.1 (omega (arith, feeds.goes.games.0, so.games));
      few = λ is. absurd (cc (is));
      none_else = rw more.1 refl;
      not_finished = rw more.1 feeds.goes.not_finished;
      fault = rw more.1 refl;
      probes = rw more.1 (le_trans so.probes feeds.goes.probes);
      counted = rw more.0 (c.in_err-read_more.ensures.counted ∙ ap one_more so.source, feeds.goes.counted ∙ so.sink);
    })

pub returns-in_err-read_more-clause-silent : goal.returns-in_err-read_more-clause-silent
returns-in_err-read_more-clause-silent g c =
    rw (c.in_err-read_more.ensures.more.1) (silence_then _ _ _ _ _ _ c.loop-used.invariant.silent c.feed_piece.ensures.silent)

pub loop-used-preserved : goal.loop-used-preserved
loop-used-preserved g c =
    let after = (goal.at.loop-used-preserved g c).After-feed_piece in
    let feeds = rw (c.in_ok-used.was, c.in-All.is) at (fed g after) in
    let so = c.loop-used.invariant in
    let more = rw c.if-not-branch.false at c.in_ok-read_more.ensures.more in
    rw more.0 (record {
      going = record { no_fault = feeds.goes.fault; not_finished = feeds.goes.not_finished };
      games = feeds.goes.games.0 ∙ so.games;
      grows = le_trans so.grows feeds.goes.grows;
      probes = le_trans so.probes feeds.goes.probes;
      source = c.in_ok-read_more.ensures.counted ∙ so.source;
      sink = feeds.goes.counted ∙ so.sink;
      silent = silence_then _ _ _ _ _ _ so.silent c.feed_piece.ensures.silent;
      given = given_more _ _ _ _ _ _ _ _ _ _ 0 _ _ so.given feeds _ _ _ more.2;
    })

pub loop-used-smaller : goal.loop-used-smaller
loop-used-smaller g c = search (rules, After-feed_piece, fed)

pub read_more-requires : goal.read_more-requires
read_more-requires g c = search (rules, After-feed_piece, fits_alike, fed)

pub returns-then-not-branch-clause-reads : goal.returns-then-not-branch-clause-reads
returns-then-not-branch-clause-reads g c =
    let after = (goal.at.returns-then-not-branch-clause-reads g c).After-feed_piece in
    let feeds = rw (c.in_ok-used.was, c.in-All.is) at (fed g after) in
    let so = c.loop-used.invariant in
    let more = rw c.if-not-branch.true at c.in_ok-read_more.ensures.more in
    rw more.0 (record {
      reads = λ start u tokens ahead here. (given_more _ _ _ _ _ _ _ _ _ _ 0 _ _ so.given feeds c.read_more.new.buffer _ _ (rw more.1 more.2) start u tokens ahead here, more.1, more.3);
      short = short g after;
      games = omega (arith, feeds.goes.games.0, so.games);
      few = λ is. absurd (cc (is));
      none_else = feeds.goes.games.1;
      not_finished = feeds.goes.not_finished;
      fault = feeds.goes.fault;
      probes = le_trans so.probes feeds.goes.probes;
      counted = (c.in_ok-read_more.ensures.counted ∙ so.source, feeds.goes.counted ∙ so.sink);
    })

pub returns-then-not-branch-clause-silent : goal.returns-then-not-branch-clause-silent
returns-then-not-branch-clause-silent g c = search (rules, silence_then)
