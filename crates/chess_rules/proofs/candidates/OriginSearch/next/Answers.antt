use Rattle.chess_rules.proofs.Words.{is_clear, members, filter, length, ◌∙◌, ap, arith}
use Rattle.chess_rules.proofs.candidates.OriginSearch.next.Goals as goal

pub loop-origin-smaller : goal.loop-origin-smaller
loop-origin-smaller c = omega (arith, ap length c.in-Some.ensures.next)

pub returns : goal.returns
returns c = (
  c.loop-origin.invariant.left ∙ ap (filter (λ s. is_clear c.self.inside.position.now.board s c.self.inside.target)) c.in_default.ensures.none.none,
  ap (λ w. filter (λ s. is_clear c.loop-origin.self-inside.position.now.board s c.loop-origin.self-inside.target) (members w)) c.in_default.ensures.same
      ∙ ap (filter (λ s. is_clear c.loop-origin.self-inside.position.now.board s c.loop-origin.self-inside.target)) c.in_default.ensures.none.none,
)
