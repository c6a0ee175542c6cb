use Rattle.pgn_game.proofs.Words.{KeepsSilence, sink_of, refl, ◌∙◌, device, Device, err_from_is_err_and, games_of, ReadsNext}
use Rattle.pgn_game.proofs.ReaderFitsInMemory.{fits_alike}
use Rattle.pgn_game.proofs.putting.SilentReader.{seen_alike, silence_kept, silence_then}
use Rattle.pgn_game.proofs.stepping.WholeInput.{none_read, read_none, games_more, games_end, games_stop}
use Rattle.pgn_game.proofs.conversion.convert_all.Goals as goal
use Rattle.pgn_game.proofs.conversion.convert_all.Goals.{After-next_game}

-- A call of `next_game`, as the whole call sees the sink.
module _ (g : _) (c : After-next_game g) where
  reads : ReadsNext (games_of c.loop.converter c.loop.buffer) (games_of c.next_game.new.converter c.next_game.new.buffer) c.next_game.result
      (device g.R.Source.left g.R.Source.failures c.loop.reader c.next_game.new.source)
      (sink_of c.args.converter.now.reading g.W.Sink.taken g.W.Sink.failures c.loop.writer c.next_game.new.out)
  reads =
      seen_alike (λ (d : Device). ReadsNext (games_of c.loop.converter c.loop.buffer) (games_of c.next_game.new.converter c.next_game.new.buffer)
      c.next_game.result (device g.R.Source.left g.R.Source.failures c.loop.reader c.next_game.new.source) d) _ _
      (device g.W.Sink.taken g.W.Sink.failures c.loop.writer c.next_game.new.out) c.loop.invariant.silent.silent c.next_game.ensures.goes.reads

  silent : KeepsSilence c.args.converter.now.reading c.next_game.new.converter.reading c.args.writer.now c.next_game.new.out
  silent = silence_then _ _ _ _ _ _ c.loop.invariant.silent c.next_game.ensures.silent

pub loop-init : goal.loop-init
loop-init g c =
    record {
      fault = c.requires.no_fault;
      source = refl;
      sink = refl;
      silent = silence_kept _ _ _ refl;
      read = λ p stands. rw c.new-buffer.ensures (read_none _ (none_read stands c.requires.not_finished));
    }

pub loop-preserved : goal.loop-preserved
loop-preserved g c =
    let so = c.loop.invariant in
    let after = (goal.at.loop-preserved g c).After-next_game in
    let next = rw (c.in_ok-next_game.was, c.if-branch.true) at (reads g after) in
    let counted = c.in_ok-next_game.ensures.goes.counted so.fault in
    record {
      fault = c.in_ok-next_game.ensures.goes.fault;
      source = counted.0 ∙ so.source;
      sink = rw so.silent.silent at counted.1 ∙ so.sink;
      silent = silent g after;
      read = λ p stands. let have = so.read p stands in games_more _ _ _ _ (games_of c.loop.converter c.loop.buffer) _ _ _ have (next _ _ _ have.have_read);
    }

pub returns-in_err-next_game-clause-converts : goal.returns-in_err-next_game-clause-converts
returns-in_err-next_game-clause-converts g c =
    let e = err_from_is_err_and c.from_residual.result c.from_residual.ensures.1 in
    let so = c.loop.invariant in
    let after = (goal.at.returns-in_err-next_game-clause-converts g c).After-next_game in
    let next = rw c.in_err-next_game.was at (reads g after) in
    rw (e.1, e.2) (λ p stands.
    let have = so.read p stands in
    games_stop _ _ _ _ (games_of c.loop.converter c.loop.buffer) _ _ _ have (next _ _ _ have.have_read).stops)

pub returns-clause-converts : goal.returns-clause-converts
returns-clause-converts g c =
    let so = c.loop.invariant in
    let after = (goal.at.returns-clause-converts g c).After-next_game in
    let next = rw (c.in_ok-next_game.was, c.if-branch.false) at (reads g after) in
    λ p stands.
    let have = so.read p stands in
    rw (silent g after).silent at
    (games_end _ _ _ _ (games_of c.loop.converter c.loop.buffer) _ _ _ have c.totals_of.result (next _ _ _ have.have_read)
    c.totals_of.ensures.games c.totals_of.ensures.plies c.totals_of.ensures.probes c.totals_of.ensures.bound)

pub next_game-requires : goal.next_game-requires
next_game-requires g c = search fits_alike

pub totals_of-requires : goal.totals_of-requires
totals_of-requires g c = (search fits_alike, c.in_ok-next_game.ensures.goes.fault)
