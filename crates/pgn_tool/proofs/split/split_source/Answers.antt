use Rattle.pgn_tool.proofs.Words.{◌∙◌, ap, refl, sym, [], Ok, Consumes-nil, err_from_is_err_and}
use Rattle.pgn_tool.proofs.splitting.GameToFiles.{no_more_games, one_more_game, stops_at}
use Rattle.pgn_tool.proofs.split.split_source.Goals as goal

pub loop-init : goal.loop-init
loop-init g c =
    record {
      fault = c.new-games.ensures.no_fault;
      writes = c.new-games.ensures.writes;
      source = refl;
      split = record {
        bytes = [];
        tokens = [];
        consumed = Consumes-nil _;
        have_read = c.new-games.ensures.begins _;
        none_torn = refl;
        files = sym (Rattle.pgn_tool.proofs.splitting.BytesOfFile.added_nil _);
      };
    }

pub loop-smaller : goal.loop-smaller
loop-smaller g c = c.in_ok-split_game.ensures.fewer (ap Ok c.if-branch.true)

pub loop-preserved : goal.loop-preserved
loop-preserved g c =
    let call = rw c.if-branch.true at c.in_ok-split_game.ensures.splits in
    let next = one_more_game g.F.Out.Sink.taken g.F.Out.Sink.failures _ _ c.loop.games c.split_game.new.games _ _ _ c.loop.invariant.split call in
    record {
      fault = c.in_ok-split_game.ensures.fault;
      writes = c.split_game.ensures.writes;
      source = next.1 ∙ c.loop.invariant.source;
      split = next.0;
    }

pub returns : goal.returns
returns g c =
    let call = rw c.if-branch.false at c.in_ok-split_game.ensures.splits in
    let ended = no_more_games g.F.Out.Sink.taken g.F.Out.Sink.failures _ _ c.loop.games c.split_game.new.games _ _ _ c.loop.invariant.split call in
    record { files = ended.1; counted = ended.2 ∙ c.loop.invariant.source; splits = ended.0 }

pub returns-in_err-split_game : goal.returns-in_err-split_game
returns-in_err-split_game g c =
    let e = err_from_is_err_and c.from_residual.result c.from_residual.ensures.1 in
    let ended = stops_at g.F.Out.Sink.taken g.F.Out.Sink.failures _ _ c.loop.games
    c.split_game.new.games _ _ _ c.loop.invariant.split _ c.in_err-split_game.ensures.splits in
    record {
      files = rw (e.1, e.2) ended.1;
      counted = rw (e.1, e.2, ← c.loop.invariant.source) ended.2;
      splits = rw (e.1, e.2) ended.0;
    }
