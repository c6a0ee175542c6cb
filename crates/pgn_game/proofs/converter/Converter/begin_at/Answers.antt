use Rattle.pgn_game.proofs.Words.{arith, refl, no_progress, none, false≢true}
use Rattle.pgn_game.proofs.ReaderFitsInMemory.{fits_game}
use Rattle.pgn_game.proofs.stepping.SoundAtStart.{sound_at_start}
use Rattle.pgn_game.proofs.converter.Converter.begin_at.Goals as goal

pub returns : goal.returns
returns g c =
    rw c.new.ensures (record {
      stands = record {
        known = λ writes. refl;
        lexer = c.begin_at.ensures.stands;
        has_read = record {
          profile = refl;
          no_fault = refl;
          passes = refl;
          agrees = record { stage = refl; pairs = refl; text = refl };
          games = refl;
          plies = refl;
          probed = λ moves. absurd (false≢true moves);
          tried = none no_progress;
          just_finished = tt;
        };
      };
      count = c.begin_at.ensures.count;
      not_finished = refl;
      writes = refl;
    })

pub new-requires : goal.new-requires
new-requires g c = (search fits_game, c.requires.levels)

pub invariant_of-result : goal.invariant_of-result
invariant_of-result g c =
    rw c.new.ensures (sound_at_start c.begin_at.result _ (omega (arith, c.begin_at.ensures.count, c.requires.place)) c.begin_at.ensures.few refl refl)
