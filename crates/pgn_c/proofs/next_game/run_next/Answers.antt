use Rattle.pgn_c.proofs.Words.{Ok, Err, true, false, drop, ap, ◌∙◌, arith, length-append, take_rest, length-drop, white_space, in_first_column, device}
use Rattle.pgn_c.proofs.NextGames.{ends_as, game_fed, fault_fed, game_at_end, none_at_end, fault_at_end}
use Rattle.pgn_c.proofs.next_game.run_next.Goals as goal

pub returns-in-Ok-Game-clause-runs : goal.returns-in-Ok-Game-clause-runs
returns-in-Ok-Game-clause-runs g c p stands =
    let is = c.in-Ok-Game.is ∙ ap Ok c.in-Ok-Game.field-0-is in
    let feeds = rw (is, take_rest) at c.feed.ensures.feeds in
    let used = rw (is, take_rest) at c.feed.ensures.used in
    game_fed p _ _ _ c.games_end_by_marker.ensures c.texts_end_between_games.ensures _ _ c.feed.new.self _ _ used
    (omega (arith, c.requires.count, stands.lexer.count))
    (feeds _ _ _ _ stands tt) c.finished_game.ensures.game

pub returns-in-Ok-true-clause-runs : goal.returns-in-Ok-true-clause-runs
returns-in-Ok-true-clause-runs g c p stands =
    let feeds = rw (c.in-Ok-All.is ∙ ap Ok c.in-Ok-All.field-0-is, take_rest) at c.feed.ensures.feeds in
    let ends = ends_as c.feed.new.self c.finish.new.self (Ok true) (device g.W.Sink.taken g.W.Sink.failures c.feed.new.out c.finish.new.out) _ _
    c.feed.ensures.silent.silent (rw (c.in-Ok-true.is ∙ ap Ok c.in-Ok-true.field-0-test) at c.finish.ensures.ends) in
    let fed = feeds _ _ _ _ stands tt in
    game_at_end p _ _ _ c.games_end_by_marker.ensures
    c.texts_end_between_games.ensures _ _ c.feed.new.self _ fed c.finish.new.self _
    c.texts_end_behind_marker.ensures
    c.feed.ensures.short
    (omega (
      arith,
      c.requires.count,
      c.requires.within,
      stands.lexer.count,
      length-append (white_space c.args.from (in_first_column c.args.text.now c.args.from)) (drop c.args.from c.args.text.now),
      length-drop c.args.from c.args.text.now,
    ))
    (ends _ _ _ _ fed.stands) c.finished_game-in-Ok-true.ensures.game

pub returns-in-Ok-false-clause-runs : goal.returns-in-Ok-false-clause-runs
returns-in-Ok-false-clause-runs g c p stands =
    let feeds = rw (c.in-Ok-All.is ∙ ap Ok c.in-Ok-All.field-0-is, take_rest) at c.feed.ensures.feeds in
    let ends = ends_as c.feed.new.self c.finish.new.self (Ok false) (device g.W.Sink.taken g.W.Sink.failures c.feed.new.out c.finish.new.out) _ _
    c.feed.ensures.silent.silent (rw (c.in-Ok-false.is ∙ ap Ok c.in-Ok-false.field-0-test) at c.finish.ensures.ends) in
    let fed = feeds _ _ _ _ stands tt in
    none_at_end p _ _ _ c.games_end_by_marker.ensures
    c.texts_end_between_games.ensures _ _ c.feed.new.self _ fed c.finish.new.self
    c.feed.ensures.short
    (ends _ _ _ _ fed.stands) c.no_game.ensures

pub returns-in-Err-finish-clause-runs : goal.returns-in-Err-finish-clause-runs
returns-in-Err-finish-clause-runs g c p stands =
    let feeds = rw (c.in-Ok-All.is ∙ ap Ok c.in-Ok-All.field-0-is, take_rest) at c.feed.ensures.feeds in
    let ends = ends_as c.feed.new.self c.finish.new.self (Err c.in-Err-finish.fault) (device g.W.Sink.taken g.W.Sink.failures c.feed.new.out c.finish.new.out) _ _
    c.feed.ensures.silent.silent (rw c.in-Err-finish.is at c.finish.ensures.ends) in
    let kept = rw c.in-Err-finish.is at c.finish.ensures.fault in
    let fed = feeds _ _ _ _ stands tt in
    fault_at_end p _ _ _ c.games_end_by_marker.ensures
    c.texts_end_between_games.ensures _ _ c.feed.new.self _ fed c.finish.new.self _
    c.feed.ensures.short
    (ends _ _ _ _ fed.stands) kept c.refused_game.ensures

pub returns-in-Err-clause-runs : goal.returns-in-Err-clause-runs
returns-in-Err-clause-runs g c p stands =
    let feeds = rw (c.in-Err.is, take_rest) at c.feed.ensures.feeds in
    let kept = rw c.in-Err.is at c.feed.ensures.fault in
    fault_fed p _ _ _ c.games_end_by_marker.ensures c.texts_end_between_games.ensures _ _ c.feed.new.self _
    (feeds _ _ _ _ stands tt) kept c.refused_game-in-Err.ensures
