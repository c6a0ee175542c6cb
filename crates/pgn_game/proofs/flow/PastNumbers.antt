-- White space that is passed, with numbers and periods in movetext.
use Rattle.pgn_lexer.specs.WholeTokens.{none}
use Rattle.pgn_game.proofs.Words.{length-drop, Bool, Standing, InMovetext, GameState, ◌≡◌, ℕ, ◌≤◌, List, length, take, drop, take-append-drop, Option, Ok, IsTrue, refl, arith, le_refl, false, Passes, over_space, over_token, rules}
use Rattle.pgn_game.specs.steps.Flow.{ReadsIn}
use Rattle.pgn_game.proofs.flow.InPiece.{reads_more, reads_token}
use Rattle.pgn_game.proofs.flow.InTurn.{goes_none, reads_in_then}
use Rattle.pgn_game.proofs.stepping.AcceptedToConverter.{now_at}
use Rattle.pgn_game.proofs.stepping.PastNumbers.{takes_passed}
use Rattle.pgn_game.proofs.stepping.ReadsInText.{between}

module _ (lexer : Standing) (reading : GameState) (games : ℕ) (piece : List ℕ) (o : Option (List ℕ)) (n : ℕ)
    {skips : Bool} (at : IsTrue skips → reading.stage ≡ InMovetext) where
  pub reads_past : {l : Standing} {used : ℕ} → Passes skips lexer piece l used → used ≤ length piece
      → ReadsIn (now_at lexer reading games false) piece (now_at l reading games false) used (Ok false) (between o o n n)
  reads_past none inside = goes_none _ piece o n (record { no_fault = refl; not_finished = refl; none_just_finished = refl })
  reads_past (over_space l new m passes within is_white scans waits) inside =
      reads_in_then within (reads_past passes (omega (arith, within))) (record {
        reads = reads_more (now_at l reading games false) (drop m piece) (take 1 (drop m piece)) (drop 1 (drop m piece))
            (take-append-drop 1 (drop m piece)) (omega (arith, scans.reads.0)) scans o n;
        goes = search (rules, length-drop, le_refl);
      })
  reads_past (over_token l new m count t passes within some scans skipped passed) inside =
      reads_in_then within (reads_past passes (omega (arith, within))) (record {
        reads = reads_token (now_at l reading games false) (drop m piece) (omega (arith, inside, length-drop m piece)) t scans reading (between o o n n) (takes_passed reading t.kind o n (at skipped) passed);
        goes = search (rules, length-drop, le_refl);
      })
