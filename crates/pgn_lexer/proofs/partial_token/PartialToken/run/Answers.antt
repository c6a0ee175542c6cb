use Rattle.pgn_lexer.proofs.Words.{subst, arith, HasNotFailed, PartialToken}
use Rattle.pgn_lexer.proofs.stepping.PieceByByte.{ran_none, ran_out, unless_failed}
use Rattle.pgn_lexer.proofs.partial_token.PartialToken.run.Goals as goal

pub returns-then-used-piece : goal.returns-then-used-piece
returns-then-used-piece c =
    let fresh = subst (λ (h : PartialToken). HasNotFailed h.mode) c.self.view_is (unless_failed _ c.in_default.not-Failed) in
    ran_out _ _ _ _ _ (omega (arith, c.if-used-piece.true)) (c.copy_text-used.ensures.ran _ (ran_none _ _ _ c.requires.sound fresh))

pub returns : goal.returns
returns c =
    let fresh = subst (λ (h : PartialToken). HasNotFailed h.mode) c.self.view_is (unless_failed _ c.in_default.not-Failed) in
    c.run_on.ensures _ (c.copy_text-used.ensures.ran _ (ran_none _ _ _ c.requires.sound fresh))
