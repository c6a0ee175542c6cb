use Rattle.pgn_game.proofs.Words.{◌≡◌, ◌∙◌, Ok, Err, None, true, false, arith, refl, sym, ap, kind_of, Result, Bool, Reason, sink_of, rules}
use Rattle.pgn_lexer.specs.Scanned.{token}
use Rattle.pgn_game.proofs.ReaderFitsInMemory.{fits_game}
use Rattle.pgn_game.proofs.putting.SilentReader.{silence_kept}
use Rattle.pgn_game.proofs.stepping.StepsAtEnd.{counts_reason, marker_or_end, nearer_by}
use Rattle.pgn_lexer.specs.Stands.{Finishes}
use Rattle.pgn_game.specs.steps.TokenTaken.{TakesPlaced}
use Rattle.pgn_game.proofs.putting.TokenAtPlace.{placed_counts, placed_keeps}
use Rattle.pgn_game.proofs.flow.AtEnd.{kept_or_none, left_fault, left_game_at, left_on_at, left_stop_at, nearer_end, sound_game_at_end, sound_on}
use Rattle.pgn_game.proofs.converter.Converter.step_at_end.Goals as goal
use Rattle.pgn_game.proofs.converter.Converter.step_at_end.Goals.{After-take_copied}

pub take_copied-requires : goal.take_copied-requires
take_copied-requires g c =
    let none = rw (← c.self.view_is) at c.requires.no_fault in
    let going = rw (← c.self.view_is) at c.requires.not_finished in (
      search fits_game,
      (omega (arith, c.self.invariant.fewer_plies none going, c.self.invariant.count), rw c.in-Token.is at c.finish.follows.holds-at-none.lengths),
    )

pub is_between-requires : goal.is_between-requires
is_between-requires g c = search fits_game

-- the token was taken
module _ (g : _) (c : After-take_copied g) where
  none : c.self.inside.fault ≡ None
  none = rw (← c.self.view_is) at c.requires.no_fault

  going : c.self.inside.is_finished ≡ false
  going = rw (← c.self.view_is) at c.requires.not_finished

  gives : Finishes c.self.inside.lexer c.finish.follows.lender-at-none (token (record { at = c.in-Token.token.at; kind = kind_of c.in-Token.token.kind }))
  gives = rw c.in-Token.is at c.finish.follows.holds-at-none

  takes : (r : Result Bool Reason) → c.take_copied.result ≡ r → TakesPlaced c.self.inside.game (kind_of c.in-Token.token.kind) c.in-Token.token.at c.take_copied.new.self r
      (sink_of c.self.inside.game g.W.Sink.taken g.W.Sink.failures c.args.out.now c.take_copied.new.out)
  takes r is = rw is at c.take_copied.ensures.takes

pub returns-in-Err-clause-reads : goal.returns-in-Err-clause-reads
returns-in-Err-clause-reads g c =
    let after = (goal.at.returns-in-Err-clause-reads g c).After-take_copied in
    rw (← c.self.view_is) (left_stop_at _ _ _ c.take_copied.new.self _ _ _ _ (going g after) (none g after) _ (gives g after) _ c.in-Err.reason
    (takes g after (Err c.in-Err.reason) c.in-Err.is) _ refl refl)

pub returns-in-Fault-clause-reads : goal.returns-in-Fault-clause-reads
returns-in-Fault-clause-reads g c =
    rw (← c.self.view_is, c.lexical-fault.ensures)
    (left_fault _ (rw (← c.self.view_is) at c.requires.not_finished) _ (rw c.in-Fault.is at c.finish.follows.holds-at-none) _ refl refl _ 0)

pub returns-then-finished-clause-reads : goal.returns-then-finished-clause-reads
returns-then-finished-clause-reads g c =
    let after = (goal.at.returns-then-finished-clause-reads g c).After-take_copied in
    let read : c.take_copied.result ≡ Ok c.in-Ok.finished = c.in-Ok.is in
    let took = takes g after (Ok true) (read ∙ ap Ok c.if-finished.true) in
    rw (← c.self.view_is, c.if-finished.true)
    (left_game_at c.self.inside.lexer c.finish.follows.lender-at-none c.self.inside.game c.take_copied.new.self c.self.inside.games c.self.inside.has_finished_game
    c.self.inside.is_finished c.self.inside.fault (going g after) (none g after) _ (gives g after) _ (marker_or_end _ took.takes.finished.0) took)

pub returns-else-finished-clause-reads : goal.returns-else-finished-clause-reads
returns-else-finished-clause-reads g c =
    let after = (goal.at.returns-else-finished-clause-reads g c).After-take_copied in
    let read : c.take_copied.result ≡ Ok c.in-Ok.finished = c.in-Ok.is in
    let took = takes g after (Ok false) (read ∙ ap Ok c.if-finished.false) in
    rw (← c.self.view_is, c.if-finished.false)
    (left_on_at c.self.inside.lexer c.finish.follows.lender-at-none c.self.inside.game c.take_copied.new.self c.self.inside.games c.self.inside.has_finished_game
    c.self.inside.is_finished c.self.inside.fault (going g after) (none g after) _ (gives g after) _ c.is_between.result
    c.is_end-is_end.result took c.is_between.ensures.0 (sym c.is_end-is_end.ensures))

pub returns-in-Err-clause-goes : goal.returns-in-Err-clause-goes
returns-in-Err-clause-goes g c =
    let after = (goal.at.returns-in-Err-clause-goes g c).After-take_copied in
    let took = takes g after (Err c.in-Err.reason) c.in-Err.is in
    rw (← c.self.view_is) (record {
      count = (gives g after).count;
      nearer = tt;
      games = omega arith;
      kept = refl;
      unfinished = going g after;
      fault = refl;
      probes = (placed_keeps _ _ _ _ (Err c.in-Err.reason) _ took).probes;
      counted = counts_reason c.in-Err.reason (sink_of c.self.inside.game g.W.Sink.taken g.W.Sink.failures c.args.out.now c.take_copied.new.out)
          (placed_counts _ _ _ _ c.in-Err.reason _ took);
    })

pub returns-then-finished-clause-goes : goal.returns-then-finished-clause-goes
returns-then-finished-clause-goes g c = search (rules, After-take_copied, takes, marker_or_end, nearer_by, gives, going)

pub returns-else-finished-clause-goes : goal.returns-else-finished-clause-goes
returns-else-finished-clause-goes g c = search (rules, After-take_copied, takes, going, gives, nearer_end, nearer_by, kept_or_none)

pub invariant_of-self-then-finished : goal.invariant_of-self-then-finished
invariant_of-self-then-finished g c =
    let after = (goal.at.invariant_of-self-then-finished g c).After-take_copied in
    let read : c.take_copied.result ≡ Ok c.in-Ok.finished = c.in-Ok.is in
    let took = takes g after (Ok true) (read ∙ ap Ok c.if-finished.true) in
    let near = rw (marker_or_end _ took.takes.finished.0) at (nearer_by _ _ _ _ (gives g after).count (gives g after).closes) in
    sound_game_at_end c.self.inside.lexer c.finish.follows.lender-at-none c.self.inside.game c.take_copied.new.self c.self.inside.games near.0 near.1 c.self.invariant.count (c.self.invariant.few (none g after))
    (c.self.invariant.fewer_plies (none g after) (going g after)) took.takes.keeps took.takes.finished.1 (none g after)

pub invariant_of-self-else-finished : goal.invariant_of-self-else-finished
invariant_of-self-else-finished g c =
    let after = (goal.at.invariant_of-self-else-finished g c).After-take_copied in
    let read : c.take_copied.result ≡ Ok c.in-Ok.finished = c.in-Ok.is in
    let took = takes g after (Ok false) (read ∙ ap Ok c.if-finished.false) in
    sound_on c.self.inside.lexer c.finish.follows.lender-at-none c.self.inside.game c.take_copied.new.self c.self.inside.games c.is_end-is_end.result _ _
    (rw (sym c.is_end-is_end.ensures) at (nearer_by _ _ _ _ (gives g after).count (gives g after).closes)) c.self.invariant.count
    (c.self.invariant.few (none g after)) (c.self.invariant.fewer_plies (none g after) (going g after)) took.keeps c.is_between.ensures.0 (none g after)

pub returns-in-Fault-clause-silent : goal.returns-in-Fault-clause-silent
returns-in-Fault-clause-silent g c = rw (← c.self.view_is) (silence_kept _ _ _ refl)
