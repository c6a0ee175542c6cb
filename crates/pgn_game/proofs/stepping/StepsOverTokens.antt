-- What a step does over one call of the lexer, and over what is passed before a token.
use Rattle.pgn_game.proofs.Words.{Bool, IsTrue, false, ◌≡◌, ℕ, ◌+◌, ◌<◌, ◌≤◌, ◌^◌, List, length, None, arith, InMovetext, GameState, IsSound, Standing, more, Scans, Passes, common_steps}
use Rattle.pgn_game.proofs.stepping.PastNumbers.{passes_count, passes_few}

-- A reader in a converter without a fault, before a piece that ends before place 2^62.
module _ (lexer : Standing) (reading : GameState) (games : ℕ) (piece : List ℕ)
    (sound : IsSound lexer reading games false false None) (short : lexer.count + length piece ≤ 2 ^ 62) where
  -- ---- a call of the lexer that reads the piece

  module _ {l : Standing} {used : ℕ} (within : used ≤ length piece) (some : 0 < length piece) where
    pub sound_more : Scans lexer piece l used more → IsSound l reading games false false None
    sound_more scans = grind (arith, common_steps)

  -- ---- a call that passes white space, and numbers in movetext

  module _ {skips : Bool} (at : IsTrue skips → reading.stage ≡ InMovetext) where
    pub sound_past : {l : Standing} {used : ℕ} → Passes skips lexer piece l used → used ≤ length piece → IsSound l reading games false false None
    sound_past passes within = grind (arith, common_steps, passes_few, passes_count)
