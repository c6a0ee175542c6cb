use Rattle.pgn_game.proofs.Words.{le_refl, refl, sym, ◌∙◌, games_of}
use Rattle.pgn_game.proofs.ReaderFitsInMemory.{fits_alike}
use Rattle.pgn_game.proofs.stepping.GamesInTurn.{at_end_again}
use Rattle.pgn_game.proofs.games.next_game.Goals as goal

pub fault-requires : goal.fault-requires
fault-requires g c = search fits_alike

pub is_finished-requires : goal.is_finished-requires
is_finished-requires g c = search fits_alike

pub forget_game-requires : goal.forget_game-requires
forget_game-requires g c = search fits_alike

pub returns-then-is_finished-clause-goes : goal.returns-then-is_finished-clause-goes
returns-then-is_finished-clause-goes g c =
    record {
      reads = λ p u given have.
          at_end_again p u given _ (games_of c.args.converter.now c.args.buffer.now) c.forget_game.new.self _ have
          (sym c.is_finished.ensures ∙ c.if-is_finished.true) c.forget_game.ensures;
      fewer = λ same. absurd (cc);
      fault = rw c.forget_game.ensures (sym c.fault.ensures ∙ c.in_default.is);
      probes = rw c.forget_game.ensures (le_refl _);
      counted = λ none. (refl, refl);
    }

pub convert_game-requires : goal.convert_game-requires
convert_game-requires g c =
    (search fits_alike, record { no_fault = sym c.fault.ensures ∙ c.in_default.is; not_finished = sym c.is_finished.ensures ∙ c.if-is_finished.false })
