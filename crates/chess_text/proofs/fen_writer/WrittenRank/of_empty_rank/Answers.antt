use Rattle.chess_text.proofs.Words.{None, arith, refl, replicate}
use Rattle.chess_text.proofs.fen_writer.WrittenRank.of_empty_rank.Goals as goal

pub returns : goal.returns
returns c = record { cells = replicate 8 None; eight = refl; is_text = record { word = refl; text = refl; short = omega arith; long = refl } }
