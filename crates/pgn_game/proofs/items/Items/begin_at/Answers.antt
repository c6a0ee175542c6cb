use Rattle.pgn_game.proofs.Words.{arith, refl, sym, inl, no_progress, none, false≢true, append-nil, []}
use Rattle.pgn_game.specs.public.ItemsCalls.{within}
use Rattle.pgn_game.proofs.stepping.SoundAtStart.{sound_at_start}
use Rattle.pgn_game.proofs.stepping.StepsInPiece.{before_any}
use Rattle.pgn_game.proofs.giving.CurrentFitsInMemory.{items_fit_current}
use Rattle.pgn_game.proofs.giving.ItemsAtStart.{spaces_decide_none}
use Rattle.pgn_game.proofs.items.Items.begin_at.Goals as goal

pub new-requires : goal.new-requires
new-requires g c = (search items_fit_current, c.requires.levels)

pub invariant_of-result : goal.invariant_of-result
invariant_of-result g c =
    rw (c.new.ensures) (sound_at_start c.begin_at.result _ (omega (arith, c.begin_at.ensures.count, c.requires.place)) c.begin_at.ensures.few refl refl)

pub returns-clause-begins : goal.returns-clause-begins
returns-clause-begins g c = λ left. rw (c.new.ensures, c.new-2.ensures) (record {
  tokens = [];
  reads = within refl (record {
    used = _;
    bytes = sym (append-nil _);
    stands = record {
      known = λ writes. refl;
      lexer = before_any c.begin_at.ensures.stands;
      has_read = record {
        profile = refl;
        no_fault = refl;
        passes = refl;
        agrees = record { stage = refl; pairs = refl; text = refl };
        games = refl;
        plies = refl;
        probed = λ moves. absurd (false≢true moves);
        tried = none no_progress;
        just_finished = tt;
      };
    };
    decided = inl (sym (spaces_decide_none c.args.place c.args.in_first_column));
    not_finished = refl;
  });
  whole = refl;
  behind = tt;
  shows = λ some. absurd (false≢true some);
  holds = λ some. absurd (false≢true some);
  marker_ends = λ read. absurd (false≢true read);
})
