use Rattle.chess_text.proofs.Words.{◌∙◌, ap, get_or}
use Rattle.chess_text.proofs.positions.NumbersToText.{table, letter_there, digit_there}
use Rattle.chess_text.proofs.placement.byte_of_number.Goals as goal

pub returns-clause-piece : goal.returns-clause-piece
returns-clause-piece c x e = ap (λ n. get_or table n 0) e ∙ letter_there x

pub returns-clause-run : goal.returns-clause-run
returns-clause-run c n low e = ap (λ k. get_or table k 0) e ∙ digit_there n low
