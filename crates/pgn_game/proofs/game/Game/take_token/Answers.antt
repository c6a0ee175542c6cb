use Rattle.pgn_game.proofs.Words.{◌≡◌, kind_of, None, Err, subst, arith, refl, inl, false≢true, game_by, Kind, Reason, WriteFault, GameState, CountsWrites, TakesUnwritten, rules}
use Rattle.pgn_game.proofs.ReaderLemmas.{game_alike, reader_fits}
use Rattle.pgn_game.proofs.putting.EventToGame.{still_sound}
use Rattle.pgn_game.proofs.putting.TokenAtPlace.{entered}
use Rattle.pgn_game.proofs.reader.ErrorReturned.{error_returned}
use Rattle.pgn_game.proofs.game.Game.take_token.Goals as goal

-- where nothing is written, no write fails
no_write : (old new : GameState) (k : Kind) (reason : Reason) → TakesUnwritten old k new (Err reason) → reason ≡ WriteFault → ⊥
no_write old new k reason takes is =
    omega (
      arith,
      (subst (λ (r : Reason). CountsWrites (Err r) (record { before = None; after = None; failures = 0; failures_after = 0 })) is
          (takes None 0).counted).1,
    )

pub accept_outside-requires : goal.accept_outside-requires
accept_outside-requires g c = (search reader_fits, rw (← c.self.view_is) at c.requires.few)

pub invariant_of-self : goal.invariant_of-self
invariant_of-self g c = still_sound c.self.invariant refl (c.in-Some.ensures.takes c.self.inside.writer None 0).keeps.profile

pub invariant_of-self-in-Some : goal.invariant_of-self-in-Some
invariant_of-self-in-Some g c = still_sound c.self.invariant refl (c.in-Some.ensures.takes c.self.inside.writer None 0).keeps.profile

pub returns-in_err-result-in-Some : goal.returns-in_err-result-in-Some
returns-in_err-result-in-Some g c =
    let w = c.self.inside.writer in
    let takes = rw c.in_err-result-in-Some.was at (c.in-Some.ensures.takes w) in
    rw (error_returned _ c.from_residual.ensures.1, ← c.self.view_is)
    (record {
      takes = inl (takes _ _, λ text is failed. absurd (no_write (game_by w c.self.inside.reader) _ _ _ takes failed));
      silent = record { silent = refl; untouched = λ silent. refl };
    })

pub returns-in_ok-result-in-Some : goal.returns-in_ok-result-in-Some
returns-in_ok-result-in-Some g c =
    let takes = rw c.in_ok-result-in-Some.was at (c.in-Some.ensures.takes c.self.inside.writer) in
    rw (← c.self.view_is) (record { takes = takes _ _; silent = record { silent = refl; untouched = λ silent. refl } })

pub take-requires : goal.take-requires
take-requires g c =
    let enters = c.in-None.ensures.takes c.self.inside.writer in
    let few = rw (← c.self.view_is) at c.requires.few in search (rules, game_alike, false≢true)

pub returns-in-None : goal.returns-in-None
returns-in-None g c =
    let entry = c.take.ensures in
    rw (← c.self.view_is)
    (record {
      takes = entered (game_by c.self.inside.writer c.self.inside.reader) _ _ (kind_of c.args.kind) c.args.at _ (c.in-None.ensures.takes c.self.inside.writer) _ entry.takes;
      silent = record { silent = entry.silent.silent; untouched = entry.silent.untouched };
    })
