use Rattle.pgn_lexer.proofs.Words.{◌≤◌, ◌-◌, length, PartialToken, Ran}
use Rattle.pgn_lexer.proofs.partial_token.PartialToken.run_on.Given as goal

abbrev pub invariant-loop-used : goal.invariant-loop-used
invariant-loop-used l = record {
  within : l.used ≤ length l.piece;
  ran : (old : PartialToken) → Ran l.place old l.piece l.fn.self l.from → Ran l.place old l.piece l.self l.used;
}

abbrev pub decreases-loop-used : goal.decreases-loop-used
decreases-loop-used l = length l.piece - l.used
