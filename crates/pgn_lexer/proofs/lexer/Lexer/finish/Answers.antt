use Rattle.pgn_lexer.proofs.Words.{rules}
use Rattle.pgn_lexer.proofs.stepping.ByteGives.{closes_gives, closes_token}
use Rattle.pgn_lexer.proofs.stepping.EndGives.{finishes_end, finishes_token, finishes_told, finishes_of}
use Rattle.pgn_lexer.proofs.lexer.Lexer.finish.Goals as goal

pub invariant_of-self : goal.invariant_of-self
invariant_of-self c =
    let h = closes_gives _ _ _ _ c.self.invariant c.in-Used.ensures in search rules

pub invariant_of-self-in-Ends : goal.invariant_of-self-in-Ends
invariant_of-self-in-Ends c =
    let h = closes_token _ _ _ _ c.in-Ends.form c.self.invariant c.end_text.ensures c.in-Ends.is in h.sound

pub invariant_of-self-in-Fault : goal.invariant_of-self-in-Fault
invariant_of-self-in-Fault c =
    let h = closes_gives _ _ _ _ c.self.invariant c.in-Fault.ensures in h.sound

pub returns-in-Used : goal.returns-in-Used
returns-in-Used c =
    let h = closes_gives _ _ _ _ c.self.invariant c.in-Used.ensures in search (rules, finishes_of, finishes_end)

pub returns-in-Ends : goal.returns-in-Ends
returns-in-Ends c = search (rules, closes_token, finishes_of, finishes_token)

pub returns-in-Fault : goal.returns-in-Fault
returns-in-Fault c =
    let h = closes_gives _ _ _ _ c.self.invariant c.in-Fault.ensures in search (rules, finishes_of, finishes_told)
