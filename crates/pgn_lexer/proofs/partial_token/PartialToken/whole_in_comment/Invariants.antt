use Rattle.pgn_lexer.proofs.Words.{◌+◌, ◌-◌, ◌≡◌, ◌≤◌, Bool, length, Passes, standing_at, LexMode}
use Rattle.pgn_lexer.proofs.partial_token.PartialToken.whole_in_comment.Given as goal

abbrev pub invariant-loop-used : goal.invariant-loop-used
invariant-loop-used l = record {
  within : l.used ≤ length l.piece;
  room : length l.self-inside.buffer.items ≤ 255;
  comment : l.self-inside.mode ≡ LexMode.Comment l.close;
  passes : (skips : Bool) → Passes skips (standing_at l.place l.fn.self) l.piece
      (standing_at (l.place + l.used) (record { mode = l.self-inside.mode; at = l.self-inside.at; text = l.self-inside.buffer.items })) l.used;
}

abbrev pub decreases-loop-used : goal.decreases-loop-used
decreases-loop-used l = length l.piece - l.used
