use Rattle.chess_text.proofs.Words.{◌≡◌, ◌≤◌, ◌+◌, ◌*◌, length, take}
use Rattle.chess_text.proofs.positions.BoardToText.{WrittenTo}
use Rattle.chess_text.proofs.placement.push_board.Given as goal

-- the ranks so far are written
abbrev pub invariant-loop-below : goal.invariant-loop-below
invariant-loop-below l =
    record {
      ranks : WrittenTo l.fn.position.board (take l.end l.text.items) l.below;
      long : length l.text.items ≡ 72;
      within : l.end ≤ 9 * l.below + 8;
    }
