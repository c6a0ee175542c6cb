use Rattle.pgn_lexer.proofs.Words.{rules}
use Rattle.pgn_lexer.proofs.stepping.ByteGives.{takes_comment_end, takes_line_feed}
use Rattle.pgn_lexer.proofs.partial_token.PartialToken.end_text.Goals.{in_default-via-in-Comment+in_default, in_default-via-in_default}
use Rattle.pgn_lexer.proofs.partial_token.PartialToken.end_text.Goals as goal

pub returns-in_default : goal.returns-in_default
returns-in_default c =
    elim c.in_default.branch [
      | in_default-via-in-Comment+in_default w ↦ takes_comment_end _ _ _ _ _ c.self.view_is w.in_default.field-0 w.in_default.is (search rules) c.take.ensures
      | in_default-via-in_default w ↦ takes_line_feed _ _ _ _ _ c.self.view_is w.in_default.not-Start w.in_default.not-LineStart w.in_default.not-Outside w.in_default.not-EscapeLine (search rules) c.take.ensures
    ]
