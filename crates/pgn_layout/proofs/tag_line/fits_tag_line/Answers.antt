use Rattle.std.proofs.lemmas.Grind.{common_steps}
use Rattle.std.proofs.Common.{arith}
use Rattle.pgn_layout.proofs.EscapedBytes.{length_escaped-take, length_escaped-front, length_escaped-le}
use Rattle.pgn_layout.proofs.tag_line.fits_tag_line.Goals as goal

pub returns-then-value-room : goal.returns-then-value-room
returns-then-value-room c = grind (arith, common_steps, length_escaped-le)

pub returns-then-room-length : goal.returns-then-room-length
returns-then-room-length c = grind (arith, common_steps, length_escaped-take, length_escaped-front)

pub loop-byte-preserved : goal.loop-byte-preserved
loop-byte-preserved c = omega (arith, length_escaped-take c.args.value.now c.loop-byte.byte-index c.loop-byte-test.true)
