use Rattle.pgn_lexer.proofs.Words.{rules}
use Rattle.pgn_lexer.proofs.stepping.ByteOutside.{begins_outside, begins_line, begins_text}
use Rattle.pgn_lexer.proofs.stepping.PieceByByte.{outside_fits}
use Rattle.pgn_lexer.proofs.partial_token.PartialToken.take.Goals.{in-Outside-1, in-Start-2+else-byte-eq37, in-Start+else-byte-eq239, in-LineStart-1}
use Rattle.pgn_lexer.proofs.partial_token.PartialToken.take.Goals as goal

pub returns-in-Start-3 : goal.returns-in-Start-3
returns-in-Start-3 c =
    let t = rw c.begins_outside.ensures at c.begin-in-Start-3.ensures in
    elim c.in-Start-3-1.branch [
      | in-Outside-1 w ↦ begins_outside _ _ _ _ _ t (search rules)
      | in-Start-2+else-byte-eq37 w ↦
          elim w.in-Start-2-1.branch [
            | in-Start+else-byte-eq239 w' ↦ begins_text _ _ _ _ _ t (search rules) w'.if-byte-eq239.false w.if-byte-eq37.false
            | in-LineStart-1 w' ↦ begins_line _ _ _ _ _ t (search rules) w.if-byte-eq37.false
          ]
    ]

pub begin-requires-in-Start-3 : goal.begin-requires-in-Start-3
begin-requires-in-Start-3 c = rw c.begins_outside.ensures (outside_fits _ _)
