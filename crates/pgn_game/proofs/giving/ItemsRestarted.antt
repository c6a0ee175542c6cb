-- Items that restart have given nothing of the text from there on.
use Rattle.pgn_game.proofs.Words.{refl, sym, inl, no_progress, none, false≢true, append-nil, [], List, ℕ, Option, None, Bool, true, false, ◌≡◌, ◌∙◌}
use Rattle.pgn_lexer.specs.Standing.{Standing}
use Rattle.pgn_lexer.specs.Stands.{StandsAfter}
use Rattle.pgn_lexer.specs.WhiteSpace.{white_space}
use Rattle.pgn_game.specs.public.ItemsCalls.{Current, HaveGiven, within}
use Rattle.pgn_game.specs.steps.ItemsSteps.{restarted_game}
use Rattle.pgn_game.proofs.giving.ItemsAtStart.{spaces_decide_none}
use Rattle.pgn_game.proofs.stepping.StepsInPiece.{before_any}

pub restarts : (c : Current) (l : Standing) (left : Option (List ℕ)) (place : ℕ) (in_first_column : Bool)
    → StandsAfter l (white_space place in_first_column) None [] → c.reading.line ≡ [] → c.reading.writing.is_silent ≡ true
    → HaveGiven c.reading.profile left (white_space place in_first_column) (record {
      lexer = l;
      current = restarted_game c;
      unused = [];
      has_read_all = false;
      is_finished = false;
      fault = None;
    }) []
restarts c l left place in_first_column stands line silent = record {
  tokens = [];
  reads = within refl (record {
    used = _;
    bytes = sym (append-nil _);
    stands = record {
      known = λ writes. absurd (false≢true (sym writes ∙ silent));
      lexer = before_any stands;
      has_read = record {
        profile = refl;
        no_fault = refl;
        passes = refl;
        agrees = record { stage = refl; pairs = refl; text = line };
        games = refl;
        plies = refl;
        probed = λ moves. absurd (false≢true moves);
        tried = none no_progress;
        just_finished = tt;
      };
    };
    decided = inl (sym (spaces_decide_none place in_first_column));
    not_finished = refl;
  });
  whole = refl;
  behind = tt;
  shows = λ some. absurd (false≢true some);
  holds = λ some. absurd (false≢true some);
  marker_ends = λ read. absurd (false≢true read);
}
