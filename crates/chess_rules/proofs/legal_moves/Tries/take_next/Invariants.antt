use Rattle.chess_rules.proofs.Words.{members, length, ◌≡◌, None, tries_left}
use Rattle.chess_rules.proofs.legal_moves.Tries.take_next.Given as goal

abbrev pub invariant-loop-target : goal.invariant-loop-target
invariant-loop-target l =
    (l.self.pending ≡ None) × (tries_left l.position l.self ≡ tries_left l.position l.fn.self)

abbrev pub decreases-loop-target : goal.decreases-loop-target
decreases-loop-target l = length (members l.self.origins)
