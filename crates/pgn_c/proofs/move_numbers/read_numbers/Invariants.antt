use Rattle.std.proofs.Common.{◌-◌, length}
use Rattle.pgn_c.proofs.NumbersRead.{Turn}
use Rattle.pgn_c.proofs.UnusualRead.{Sees}
use Rattle.pgn_c.proofs.move_numbers.read_numbers.Given as goal

abbrev pub invariant-loop-at : goal.invariant-loop-at
invariant-loop-at l = record {
  turn : Turn l.text l.numbering l.at;
  sees : Sees l.text l.is_unusual l.at;
}

abbrev pub decreases-loop-at : goal.decreases-loop-at
decreases-loop-at l = length l.text - l.at
