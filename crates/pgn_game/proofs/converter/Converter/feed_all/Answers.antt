use Rattle.pgn_game.proofs.putting.SilentReader.{seen_alike, silence_kept, silence_then}
use Rattle.pgn_game.proofs.Words.{◌+◌, ◌≤◌, device, sink_of, arith, refl, drop, length, ◌∙◌, length-drop, take_rest, err_from_is_err_and, Feeds}
use Rattle.pgn_game.proofs.ReaderFitsInMemory.{fits_alike}
use Rattle.pgn_game.proofs.stepping.AcceptedToConverter.{follows_own}
use Rattle.pgn_game.proofs.stepping.GamesInPiece.{all_none, all_more, all_fed, all_stops}
use Rattle.pgn_game.proofs.converter.Converter.feed_all.Goals as goal
use Rattle.pgn_game.proofs.converter.Converter.feed_all.Goals.{After-feed, In-Game}

-- the rest of the piece is fed, and the sink is seen as the call sees it
fed : (g : _) (c : After-feed g) → Feeds c.loop-used.self (drop c.loop-used.at c.args.piece.now) c.feed.new.self c.feed.result
    (sink_of c.args.self.now.reading g.W.Sink.taken g.W.Sink.failures c.loop-used.out c.feed.new.out)
fed g c =
    seen_alike (λ d. Feeds c.loop-used.self (drop c.loop-used.at c.args.piece.now) c.feed.new.self c.feed.result d) _ _
    (device g.W.Sink.taken g.W.Sink.failures c.loop-used.out c.feed.new.out) c.loop-used.invariant.silent.silent (rw take_rest at c.feed.ensures.feeds)

-- a game that is finished ends in the piece
ends_within : (g : _) (c : In-Game g) → c.loop-used.at + c.in-Game.used ≤ length c.args.piece.now
ends_within g c =
    let used = rw (c.in-Game.is, take_rest) at c.in_ok-feed.ensures.used in
    omega (arith, used, length-drop c.loop-used.at c.args.piece.now, c.loop-used.invariant.within)

pub loop-used-init : goal.loop-used-init
loop-used-init g c =
    record {
      within = omega arith;
      count = omega arith;
      going = c.requires;
      counted = refl;
      silent = silence_kept _ _ _ refl;
      feeds = λ p u given stands is_decided. all_none p _ u given c.args.piece.now _ stands is_decided;
    }

pub returns-in_err-feed : goal.returns-in_err-feed
returns-in_err-feed g c =
    let e = err_from_is_err_and c.from_residual.result c.from_residual.ensures.1 in
    let old = c.loop-used.invariant in
    let fed = rw c.in_err-feed.was at (fed g (goal.at.returns-in_err-feed g c).After-feed) in
    rw (e.1, e.2) (record {
      feeds = λ p u given stands is_decided.
          let so = old.feeds p u given stands is_decided in
          all_stops p u given c.args.piece.now c.loop-used.at _ _ _ _ so c.feed.new.self _
          (fed p _ _ _ so.stands (follows_own (drop c.loop-used.at c.args.piece.now)));
      goes = record {
        count = tt;
        short = c.feed.ensures.short;
        not_finished = c.feed.ensures.not_finished;
        fault = c.in_err-feed.ensures.fault;
        counted = rw (← old.counted) (rw old.silent.silent at (c.in_err-feed.ensures.counted old.going.no_fault));
      };
      silent = silence_then _ _ _ _ _ _ old.silent c.feed.ensures.silent;
    })

pub returns-in-All-clause-feeds : goal.returns-in-All-clause-feeds
returns-in-All-clause-feeds g c =
    let after = (goal.at.returns-in-All-clause-feeds g c).After-feed in
    λ p u given stands is_decided.
    let so = c.loop-used.invariant.feeds p u given stands is_decided in
    all_fed p u given c.args.piece.now c.loop-used.at _ _ _ _ so _
    ((rw (c.in_ok-feed.was, c.in-All.is) at (fed g after)) p _ _ _ so.stands (follows_own (drop c.loop-used.at c.args.piece.now)))

pub returns-in-All-clause-silent : goal.returns-in-All-clause-silent
returns-in-All-clause-silent g c = silence_then _ _ _ _ _ _ c.loop-used.invariant.silent c.feed.ensures.silent

pub loop-used-preserved : goal.loop-used-preserved
loop-used-preserved g c =
    let after = (goal.at.loop-used-preserved g c).After-feed in
    let count = rw c.in-Game.is at c.in_ok-feed.ensures.count in
    let so = c.loop-used.invariant in
    record {
      within = ends_within g (goal.at.loop-used-preserved g c).In-Game;
      count = omega (arith, count, so.count);
      going = record { no_fault = c.in_ok-feed.ensures.fault; not_finished = c.feed.ensures.not_finished };
      counted = rw so.silent.silent at (c.in_ok-feed.ensures.counted so.going.no_fault) ∙ so.counted;
      silent = silence_then _ _ _ _ _ _ so.silent c.feed.ensures.silent;
      feeds = λ p u given stands is_decided.
          let so = c.loop-used.invariant.feeds p u given stands is_decided in
          all_more p u given c.args.piece.now c.loop-used.at _ _ _ _ so _ _
          ((rw (c.in_ok-feed.was, c.in-Game.is) at (fed g after)) p _ _ _ so.stands (follows_own (drop c.loop-used.at c.args.piece.now)));
    }

pub feed-requires : goal.feed-requires
feed-requires g c = (search fits_alike, c.loop-used.invariant.going.not_finished)

pub loop-used-smaller : goal.loop-used-smaller
loop-used-smaller g c =
    let advances = rw c.in-Game.is at c.in_ok-feed.ensures.advances in
    omega (arith, advances, ends_within g (goal.at.loop-used-smaller g c).In-Game)

pub overflow_add-at : goal.overflow_add-at
overflow_add-at g c =
    let count = rw c.in-Game.is at c.in_ok-feed.ensures.count in
    omega (arith, count, c.feed.ensures.short, c.loop-used.invariant.count)
