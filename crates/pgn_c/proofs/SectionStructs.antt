-- The struct of C for a game has all of the game.
use Rattle.pgn_c.proofs.Words.{common_steps, arith, ◌≡◌, ℕ, Bool, not, Option, is_some, unwrap_or, BadGame, flag, game_of, is_set, place_if, struct_of}
use Rattle.pgn_sections.specs.declared.bad_game.Ends.{Ends}

flag_kept : (b : Bool) → is_set (flag b) ≡ b
flag_kept b = grind (arith, common_steps)

no_flag_kept : (b : Bool) → not (is_set (flag (not b))) ≡ b
no_flag_kept b = grind (arith, common_steps)

place_kept : (o : Option ℕ) → place_if (flag (is_some o)) (unwrap_or o 0) ≡ o
place_kept o = grind (arith, common_steps)

pub game_kept : (ends : Ends) (n : ℕ) (g : BadGame) → g.ends ≡ ends → game_of ends (struct_of n g) ≡ g
game_kept ends n g e = grind (arith, common_steps, is_some, flag_kept, no_flag_kept, place_kept)
