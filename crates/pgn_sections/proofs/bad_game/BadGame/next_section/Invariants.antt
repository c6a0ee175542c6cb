use Rattle.pgn_sections.proofs.Words.{ℕ, List, ◌≡◌, ◌+◌, ◌-◌, ◌≤◌, ◌++◌, drop, length, lines_of, CanFollow, IsSameGame, whole_lines}
use Rattle.pgn_sections.proofs.LinesInPieces.{ReadsOn}
use Rattle.pgn_sections.proofs.bad_game.BadGame.next_section.Given as goal

-- The game has read the lines before the rest of the piece, and none of them shows a place.
abbrev pub invariant-loop-length : goal.invariant-loop-length
invariant-loop-length l =
    record {
      same : IsSameGame l.fn.self l.self;
      from : l.fn.self.at ≤ l.self.at;
      count : l.self.at + length l.rest ≡ l.fn.self.at + length l.piece;
      rest : l.rest ≡ drop (l.self.at - l.fn.self.at) l.piece;
      whole : ReadsOn l.fn.self (whole_lines l.is_last (lines_of l.piece)) l.self (whole_lines l.is_last (lines_of l.rest));
      on : (s : List ℕ) → CanFollow l.is_last s → ReadsOn l.fn.self (lines_of (l.piece ++ s)) l.self (lines_of (l.rest ++ s));
    }

abbrev pub decreases-loop-length : goal.decreases-loop-length
decreases-loop-length l = length l.rest
