use Rattle.chess_rules.proofs.Words.{squares, is_position, initial, is_check, arith, ◌≡◌, true, false, refl}
use Rattle.chess_rules.proofs.position.Position.initial.Goals as goal

is_first_position : is_position initial ≡ true
unfolding squares
is_first_position = refl

no_check : false ≡ is_check initial
unfolding squares
no_check = refl

pub invariant_of-result : goal.invariant_of-result
invariant_of-result c = grind (arith, is_first_position, no_check)
