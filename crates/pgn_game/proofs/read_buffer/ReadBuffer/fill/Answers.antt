use Rattle.pgn_game.proofs.Words.{◌≡◌, ℕ, ◌-◌, ◌<◌, ◌≤◌, List, length, take, drop, Option, Consumes, length-take-le, rules}
use Rattle.pgn_game.proofs.read_buffer.ReadBuffer.fill.Goals as goal

-- the bytes that a read gave are those of the buffer
given : (a b : Option (List ℕ)) (count : ℕ) (bytes : List ℕ)
    → count ≤ length bytes → (count ≡ 0 → ⊥) → Consumes a b (take count bytes)
    → (0 < length (take (count - 0) (drop 0 bytes))) × Consumes a b (take (count - 0) (drop 0 bytes))
given a b count bytes within some consumed = search (rules, length-take-le)

pub returns-in-Ok-clause-fills : goal.returns-in-Ok-clause-fills
returns-in-Ok-clause-fills g c = given _ _ c.in-Ok.count _ c.in-Ok.ensures.bound.0 c.in-Ok.count-test.1 c.in-Ok.ensures.bytes.0
