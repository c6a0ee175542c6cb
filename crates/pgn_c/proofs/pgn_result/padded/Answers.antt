use Rattle.pgn_c.proofs.ZerosBehind.{over_zeros}
use Rattle.pgn_c.proofs.pgn_result.padded.Goals as goal

pub returns : goal.returns
returns g c = over_zeros _ _ _ c.copy_from_slice.ensures.after
