use Rattle.pgn_sections.proofs.Words.{◌≡◌, drop, line_from}
use Rattle.pgn_sections.proofs.lines.line_length.Given as goal

-- no byte so far ends the line
abbrev pub invariant-loop-index : goal.invariant-loop-index
invariant-loop-index l = line_from l.is_last 0 l.text ≡ line_from l.is_last l.index (drop l.index l.text)
