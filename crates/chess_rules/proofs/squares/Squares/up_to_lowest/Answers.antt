use Rattle.chess_rules.proofs.Words.{cell_of, has, IsUpTo, sym, subst, arith, common_steps}
use Rattle.chess_rules.proofs.sets.LowestAndHighest.{up_to_all, up_to_lowest}
use Rattle.chess_rules.proofs.sets.WordsToCells.{has_below, has_or, has_single}
use Rattle.chess_rules.proofs.squares.Squares.up_to_lowest.Goals as goal

pub returns-in-None : goal.returns-in-None
returns-in-None c = subst (IsUpTo c.args.self) (sym c.of_bits.ensures) (up_to_all c.args.self c.in-None.ensures)

pub returns-in-Some : goal.returns-in-Some
returns-in-Some c = grind (arith, common_steps, cell_of, up_to_lowest, has, has_or, has_single, has_below)
