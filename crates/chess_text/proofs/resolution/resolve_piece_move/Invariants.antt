use Rattle.chess_text.proofs.Words.{◌≡◌, ◌≤◌, ◌-◌, ◌+◌, candidates, drop, filter_map, length, option_to_list, take, Man}
use Rattle.chess_text.proofs.forms.PieceForms.{with_position, IsLegalIfAny, from_square}
use Rattle.chess_text.proofs.resolution.resolve_piece_move.Given as goal

-- what the origins so far gave, that it is legal, how many were tried, and which are left
abbrev pub invariant-loop-origin : goal.invariant-loop-origin
invariant-loop-origin l =
    record {
      found : filter_map (from_square l.position (Man l.fn.kind l.hints.file l.hints.rank l.to l.promotion) l.to l.promotion)
          (take (l.probes - l.fn.probes) (candidates l.position l.fn.kind l.to)) ≡ option_to_list (with_position l.position l.found);
      legal : IsLegalIfAny l.position l.found;
      rises : l.fn.probes ≤ l.probes;
      most : l.probes ≤ l.fn.probes + length (candidates l.position l.fn.kind l.to);
      left : l.origins ≡ drop (l.probes - l.fn.probes) (candidates l.position l.fn.kind l.to);
    }

abbrev pub decreases-loop-origin : goal.decreases-loop-origin
decreases-loop-origin l = length l.origins
