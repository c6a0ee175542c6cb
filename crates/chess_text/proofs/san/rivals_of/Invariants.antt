use Rattle.chess_text.proofs.Words.{◌≡◌, ◌≤◌, ◌+◌, ◌-◌, candidates, drop, length}
use Rattle.chess_text.proofs.names.OneMoveAgrees.{Found}
use Rattle.chess_text.proofs.san.rivals_of.Given as goal

-- what was found among the origins tried so far, how many they are, and which are left
abbrev pub invariant-loop-origin : goal.invariant-loop-origin
invariant-loop-origin l =
    record {
      found : Found l.fn.position l.fn.mv (candidates l.fn.position l.fn.kind l.fn.mv.to) (l.probes - l.fn.probes) l.found.any l.found.on_file l.found.on_rank;
      rises : l.fn.probes ≤ l.probes;
      most : l.probes ≤ l.fn.probes + length (candidates l.fn.position l.fn.kind l.fn.mv.to);
      left : l.origins ≡ drop (l.probes - l.fn.probes) (candidates l.fn.position l.fn.kind l.fn.mv.to);
    }

abbrev pub decreases-loop-origin : goal.decreases-loop-origin
decreases-loop-origin l = length l.origins
