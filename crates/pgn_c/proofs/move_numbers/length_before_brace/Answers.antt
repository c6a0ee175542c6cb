use Rattle.pgn_c.proofs.Words.{arith, ◌+◌, ◌-◌, ◌≡◌, drop, false, subst, sym, take, ◌∙◌, has_brace}
use Rattle.pgn_c.proofs.NumbersRead.{brace_ahead}
use Rattle.pgn_c.proofs.move_numbers.length_before_brace.Goals as goal

pub loop-at-preserved : goal.loop-at-preserved
loop-at-preserved c =
    let cut : c.loop-at.at + 16 - c.loop-at.at ≡ 16 = omega arith in
    let none = subst (λ n. has_brace (take n (drop c.loop-at.at c.args.text.now)) ≡ false) cut (sym c.has_brace.ensures ∙ c.if-not-has_brace.true) in
    record {
      within = let within = c.loop-at.invariant.within in omega (arith, within, c.loop-at-test.true);
      none = brace_ahead 16 c.loop-at.at c.args.text.now c.loop-at.invariant.none none c.loop-at-test.true;
    }
