use Rattle.pgn_layout.proofs.LinesOfTokens.{tokens_determine_lines}
use Rattle.pgn_layout.proofs.laws.tokens_determine_lines.Goals as goal

pub returns : goal.returns
returns c = tokens_determine_lines
