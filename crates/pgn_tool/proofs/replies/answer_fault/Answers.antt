use Rattle.pgn_tool.proofs.Words.{inl}
use Rattle.pgn_tool.proofs.replies.answer_fault.Goals as goal

pub returns-in-Help-clause-flushed : goal.returns-in-Help-clause-flushed
returns-in-Help-clause-flushed g c = λ empty. c.show.ensures.flushed

pub returns-in-Bad-clause-flushed : goal.returns-in-Bad-clause-flushed
returns-in-Bad-clause-flushed g c = λ empty. inl empty

pub returns-in-NoMemory-clause-flushed : goal.returns-in-NoMemory-clause-flushed
returns-in-NoMemory-clause-flushed g c = λ empty. inl empty
