use Rattle.chess_rules.proofs.Words.{is_clear, members, ◌≡◌, filter, length}
use Rattle.chess_rules.proofs.candidates.OriginSearch.next.Given as goal

-- the squares passed so far are hidden
abbrev pub invariant-loop-origin : goal.invariant-loop-origin
invariant-loop-origin l = record {
  position : l.self-inside.position.now ≡ l.position;
  target : l.self-inside.target ≡ l.target;
  left : l.fn.self ≡ filter (λ s. is_clear l.position.board s l.target) (members l.self-inside.left);
}

abbrev pub decreases-loop-origin : goal.decreases-loop-origin
decreases-loop-origin l = length (members l.self-inside.left)
