use Rattle.pgn_game.proofs.Words.{arith, false≢true, inl, inr, nat_lt, ◌≡◌, ◌∙◌, ap, sym, refl, le_refl, le_trans, true, Ok, Err, None, false, Device, device, err_from_is_err_and, Converter, sink_of, rules}
use Rattle.pgn_game.specs.steps.Flow.{GoesAtEnd, ReadsOn}
use Rattle.pgn_game.proofs.ReaderFitsInMemory.{fits_alike}
use Rattle.pgn_game.proofs.putting.SilentReader.{seen_alike, silence_kept, silence_then}
use Rattle.pgn_game.proofs.flow.AtEnd.{all_left, ends_then, goes_on, holds_none, holds_on, lets_go, stopped_games}
use Rattle.pgn_game.proofs.converter.Converter.finish_left.Goals as goal
use Rattle.pgn_game.proofs.converter.Converter.finish_left.Goals.{After-step_at_end}

pub loop-self-init : goal.loop-self-init
loop-self-init g c =
    rw (← c.self.view_is) (record {
      no_fault = rw (← c.self.view_is) at c.requires.no_fault;
      count = refl;
      probes = le_refl _;
      counted = refl;
      silent = silence_kept _ _ _ refl;
      holds = holds_none _ refl;
      only = λ to_game. refl;
      reads = lets_go _ _ 0;
    })

pub step_at_end-requires : goal.step_at_end-requires
step_at_end-requires g c = search (rules, fits_alike)

-- the step, as the call sees the sink
module _ (g : _) (c : After-step_at_end g) where
  abbrev sink : Device
  sink = device g.W.Sink.taken g.W.Sink.failures c.loop-self.out c.step_at_end.new.out

  step_goes : GoesAtEnd c.loop-self.self c.step_at_end.new.self c.step_at_end.result (sink_of c.args.self.now.reading g.W.Sink.taken g.W.Sink.failures c.loop-self.out c.step_at_end.new.out)
  step_goes =
      seen_alike (λ (d : Device). GoesAtEnd c.loop-self.self c.step_at_end.new.self c.step_at_end.result d) _ _ sink c.loop-self.invariant.silent.silent c.step_at_end.ensures.goes

  step_reads : ReadsOn c.loop-self.self None c.step_at_end.new.self c.step_at_end.result (sink_of c.args.self.now.reading g.W.Sink.taken g.W.Sink.failures c.loop-self.out c.step_at_end.new.out)
  step_reads =
      seen_alike (λ (d : Device). ReadsOn c.loop-self.self None c.step_at_end.new.self c.step_at_end.result d) _ _ sink c.loop-self.invariant.silent.silent c.step_at_end.ensures.reads

pub loop-self-preserved : goal.loop-self-preserved
loop-self-preserved g c =
    let at = c.loop-self.invariant in
    let after = (goal.at.loop-self-preserved g c).After-step_at_end in
    let finished = c.in_ok-step_at_end.field-0 in
    let goes = rw c.in_ok-step_at_end.was at (step_goes g after) in
    let reads = rw c.in_ok-step_at_end.was at (step_reads g after) in
    record {
      no_fault = goes.fault;
      count = goes.count ∙ at.count;
      probes = le_trans at.probes goes.probes;
      counted = goes.counted ∙ at.counted;
      silent = silence_then _ _ _ _ _ _ at.silent c.step_at_end.ensures.silent;
      holds = holds_on _ _ _ finished _ at.holds goes;
      only = λ to_game. elim c.else-branch.either [
        | inl both ↦ absurd (false≢true (sym both.1 ∙ to_game))
        | inr none ↦ let same = rw none at goes in omega (arith, same.games, at.only to_game)
      ];
      reads = ends_then _ c.loop-self.self c.step_at_end.new.self (Ok false) _ _ _ at.reads (goes_on c.loop-self.self c.step_at_end.new.self _ _ finished reads);
    }

pub loop-self-smaller : goal.loop-self-smaller
loop-self-smaller g c = (rw c.in_ok-step_at_end.was at (step_goes g ((goal.at.loop-self-smaller g c).After-step_at_end))).nearer

pub returns-in_err-step_at_end-clause-finishes : goal.returns-in_err-step_at_end-clause-finishes
returns-in_err-step_at_end-clause-finishes g c =
    let e = err_from_is_err_and c.from_residual.result c.from_residual.ensures.1 in
    let at = c.loop-self.invariant in
    let after = (goal.at.returns-in_err-step_at_end-clause-finishes g c).After-step_at_end in
    let goes = rw c.in_err-step_at_end.was at (step_goes g after) in
    let reads = rw c.in_err-step_at_end.was at (step_reads g after) in
    rw (e.1, e.2) (record {
      reads = ends_then _ c.loop-self.self c.step_at_end.new.self (Err c.in_err-step_at_end.field-0.0) _ _ _ at.reads reads;
      games = stopped_games c.args.to_game _ _ _ (λ to_game. omega (arith, goes.games, at.only to_game)) goes.kept;
      finished = goes.unfinished;
      count = goes.count ∙ at.count;
      fault = goes.fault;
      probes = le_trans at.probes goes.probes;
      counted = rw at.counted at goes.counted;
    })

pub returns-in_err-step_at_end-clause-silent : goal.returns-in_err-step_at_end-clause-silent
returns-in_err-step_at_end-clause-silent g c = silence_then _ _ _ _ _ _ c.loop-self.invariant.silent c.step_at_end.ensures.silent

-- a game ends the call
pub returns-then-to_game-clause-finishes : goal.returns-then-to_game-clause-finishes
returns-then-to_game-clause-finishes g c =
    let at = c.loop-self.invariant in
    let after = (goal.at.returns-then-to_game-clause-finishes g c).After-step_at_end in
    let goes = rw (c.in_ok-step_at_end.was, c.if-branch.true) at (step_goes g after) in
    let reads = rw (c.in_ok-step_at_end.was, c.if-branch.true) at (step_reads g after) in
    rw c.if-to_game.true (record {
      reads = ends_then _ c.loop-self.self c.step_at_end.new.self (Ok true) _ _ _ at.reads reads;
      games = omega (arith, goes.games, at.only c.if-to_game.true);
      finished = goes.unfinished;
      count = goes.count ∙ at.count;
      fault = goes.fault;
      probes = le_trans at.probes goes.probes;
      counted = goes.counted ∙ at.counted;
    })

pub returns-then-to_game-clause-silent : goal.returns-then-to_game-clause-silent
returns-then-to_game-clause-silent g c = silence_then _ _ _ _ _ _ c.loop-self.invariant.silent c.step_at_end.ensures.silent

pub returns-clause-finishes : goal.returns-clause-finishes
returns-clause-finishes g c =
    let at = c.loop-self.invariant in
    let over : c.loop-self.self.is_finished ≡ true = sym (ap (λ (s : Converter). s.is_finished) c.self-in-loop-self.view_is) ∙ c.loop-self-test.false in
    let left = all_left c.args.to_game c.args.self.now c.loop-self.self at.holds at.only (nat_lt c.self.inside.games c.self-2.inside.games) (cc (ap (λ (s : Converter). s.games) c.self.view_is, ap (λ (s : Converter). s.games) c.self-2.view_is)) in
    record {
      reads = rw left.1 at.reads;
      games = left.0;
      finished = rw left.1 over;
      count = at.count;
      fault = at.no_fault;
      probes = at.probes;
      counted = at.counted;
    }

pub returns-in_err-step_at_end-clause-few : goal.returns-in_err-step_at_end-clause-few
returns-in_err-step_at_end-clause-few g c = rw (← c.self.view_is) (omega (arith, c.self.invariant.few (rw (← c.self.view_is) at c.requires.no_fault), c.self.invariant.count))

pub returns-then-to_game-clause-few : goal.returns-then-to_game-clause-few
returns-then-to_game-clause-few g c = rw (← c.self.view_is) (omega (arith, c.self.invariant.few (rw (← c.self.view_is) at c.requires.no_fault), c.self.invariant.count))

pub returns-clause-few : goal.returns-clause-few
returns-clause-few g c = rw (← c.self.view_is) (omega (arith, c.self.invariant.few (rw (← c.self.view_is) at c.requires.no_fault), c.self.invariant.count))
