use Rattle.chess_rules.proofs.Words.{IsFirst, ◌<◌, ◌^◌, sym, ◌∙◌, subst, arith}
use Rattle.chess_rules.proofs.sets.SetsToSquares.{no_member, first_place}
use Rattle.chess_rules.proofs.squares.Squares.lowest.Goals as goal

pub returns-then-self-eq0 : goal.returns-then-self-eq0
returns-then-self-eq0 c = no_member c.args.self (sym c.self.view_is ∙ c.if-self-eq0.true)

pub returns : goal.returns
returns c =
    let some : 0 < c.self.inside.bits = grind arith in
    let fits : c.self.inside.bits < 2 ^ 64 = grind arith in
    subst (λ n. IsFirst n c.nth.result) c.self.view_is (first_place c.self.inside.bits c.nth.result some fits c.nth.ensures)
