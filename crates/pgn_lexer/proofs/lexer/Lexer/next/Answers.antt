use Rattle.pgn_lexer.proofs.Words.{rules}
use Rattle.pgn_lexer.proofs.stepping.StandsAfterCalls.{scans_nothing, scans_form, scans_told, scans_of}
use Rattle.pgn_lexer.proofs.stepping.PieceByByte.{ran_to_token}
use Rattle.pgn_lexer.proofs.lexer.Lexer.next.Goals as goal

pub returns-in-Used : goal.returns-in-Used
returns-in-Used c =
    let ran = rw c.in-Used.is at c.run-used.ensures in search (rules, scans_of, scans_nothing)

pub returns-in-Ends : goal.returns-in-Ends
returns-in-Ends c =
    let ran = ran_to_token _ _ _ _ _ _ c.in-Ends.form c.in-Ends.is c.run-used.ensures in search (rules, scans_of, scans_form)

pub returns-in-Fault : goal.returns-in-Fault
returns-in-Fault c =
    let ran = rw c.in-Fault.is at c.run-used.ensures in search (rules, scans_of, scans_told)
