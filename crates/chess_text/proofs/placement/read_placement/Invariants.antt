use Rattle.chess_text.proofs.positions.TextToBoard.{ReadSoFar}
use Rattle.chess_text.proofs.placement.read_placement.Given as goal

abbrev pub invariant-loop-i : goal.invariant-loop-i
invariant-loop-i l = ReadSoFar l.text l.i l.board l.below l.file l.lanes
