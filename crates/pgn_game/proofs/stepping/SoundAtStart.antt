-- The counts of a converter before the first byte.
use Rattle.pgn_game.proofs.Words.{◌≡◌, ◌≤◌, ◌^◌, false, None, Standing, waiting, GameState, IsSound, rules}

pub sound_at_start : (l : Standing) (r : GameState) → l.count ≤ 2 ^ 62 → waiting l ≤ 2 → r.earlier_plies ≡ 0
    → r.text.plies ≡ 0 → IsSound l r 0 false false None
sound_at_start l r count few earlier plies = search rules
