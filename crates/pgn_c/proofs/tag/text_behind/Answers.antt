use Rattle.pgn_c.proofs.Words.{strip_prefix_is}
use Rattle.std.proofs.lemmas.Bool.Decides.{Decides-eqb}
use Rattle.pgn_c.proofs.PairsOnLines.{behind_matches}
use Rattle.pgn_c.proofs.tag.text_behind.Goals as goal

pub returns : goal.returns
returns c =
    behind_matches c.args.front.now c.args.text.now c.strip_prefix.result
    (strip_prefix_is Decides-eqb c.args.text.now c.args.front.now c.strip_prefix.result c.strip_prefix.ensures.cases)
