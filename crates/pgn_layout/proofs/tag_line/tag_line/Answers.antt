use Rattle.std.proofs.lemmas.Grind.{common_steps}
use Rattle.std.proofs.Common.{ℕ, List, [], ◌∷◌, ◌++◌, ◌∙◌, arith, length-append}
use Rattle.pgn_layout.proofs.EscapedBytes.{line_grows, line_fits}
use Rattle.pgn_layout.proofs.tag_line.tag_line.Goals as goal

-- the line up to the value
abbrev front : List ℕ → List ℕ
front name = (91 ∷ name) ++ 32 ∷ 34 ∷ []

pub push_escaped-requires : goal.push_escaped-requires
push_escaped-requires c = grind (arith, common_steps, line_fits, length-append)

pub loop-byte-preserved : goal.loop-byte-preserved
loop-byte-preserved c = c.push_escaped.ensures ∙ line_grows (front c.args.name.now) c.args.value.now _ _ c.loop-byte-test.true c.loop-byte.invariant
