use Rattle.chess_text.proofs.Words.{length, sym, arith, position_or_len_is, is_space, common_steps}
use Rattle.chess_text.proofs.fen.field_length.Goals as goal

pub returns-then-byte-eq32-clause-value : goal.returns-then-byte-eq32-clause-value
returns-then-byte-eq32-clause-value c = grind (arith, common_steps, position_or_len_is)

pub returns-clause-value : goal.returns-clause-value
returns-clause-value c =
    sym (position_or_len_is is_space c.args.text.now (length c.args.text.now) 0 (omega arith)
    (λ k h. c.loop-i.invariant k (omega arith)) (λ h. absurd (omega arith)))
