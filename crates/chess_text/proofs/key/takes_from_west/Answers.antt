use Rattle.chess_text.proofs.Words.{◌+◌, ◌-◌, ◌∙◌, ap, arith, Bool, ℕ, one_if, stands_on, takes_from}
use Rattle.chess_text.proofs.keys.EnPassant.{west_at}
use Rattle.chess_text.proofs.key.takes_from_west.Goals as goal

pub returns-clause-takes : goal.returns-clause-takes
returns-clause-takes c =
    let test = takes_from c.args.position.now c.args.target c.args.rank in
    c.takes_from.ensures.takes ∙ ap (λ (f : ℕ). test (f - 1)) c.file-2.ensures.value
    ∙ west_at c.args.target.file (λ (b : Bool). b) test (λ zero. omega (arith, zero, c.file.ensures.value, c.if-file-eq0.false))

pub returns-clause-count : goal.returns-clause-count
returns-clause-count c =
    let test = stands_on c.args.position.now c.args.rank in
    c.takes_from.ensures.count ∙ ap (λ (f : ℕ). c.args.probes.now + one_if (test (f - 1))) c.file-2.ensures.value
    ∙ west_at c.args.target.file (λ (b : Bool). c.args.probes.now + one_if b) test
    (λ zero. omega (arith, zero, c.file.ensures.value, c.if-file-eq0.false))
