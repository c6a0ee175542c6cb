use Rattle.chess_rules.proofs.Words.{ℕ, ◌≡◌, ◌<◌, ◌^◌, ◌*◌, ◌+◌, ◌/◌, ap, arith, true, ◌&&◌, and_le_r, shr_and_one, bit_at_ones, div-div-eq-div-mul, pow-add, bit_and, ◌==◌, has, common_steps}
use Rattle.chess_rules.proofs.sets.WordsToCells.{has_and}
use Rattle.chess_rules.proofs.squares.Squares.bits_on_rank.Goals as goal

-- a shift moves the bits
has_shifted : (bits low i : ℕ) → has (bits / 2 ^ low) i ≡ has bits (low + i)
unfolding has
has_shifted bits low i = grind (arith, common_steps, div-div-eq-div-mul, pow-add, shr_and_one, bit_and)

has_low : (i : ℕ) → i < 8 → has 255 i ≡ true
unfolding has
has_low i low = ap (λ n. n == 1) (bit_at_ones 8 i low)

and_true : (x : _) → (x && true) ≡ x
and_true x = grind arith

pub returns-clause-bits : goal.returns-clause-bits
returns-clause-bits c i low = grind (arith, common_steps, has_and, has, has_low, and_true, has_shifted)

pub returns-clause-below : goal.returns-clause-below
returns-clause-below c = omega (arith, and_le_r (c.self.inside.bits / 2 ^ (8 * c.args.rank)) 255)
