use Rattle.pgn_game.proofs.Words.{◌≡◌, ℕ, ◌+◌, ◌-◌, ◌≤◌, List, length, take, drop, arith, drop-drop, drop-take, length-take, rules}
use Rattle.pgn_game.proofs.read_buffer.ReadBuffer.skip.Goals as goal

-- what is left of a part of the buffer
rest_of : (start end used : ℕ) (buffer : List ℕ) → used ≤ length (take (end - start) (drop start buffer))
    → take (end - (start + used)) (drop (start + used) buffer) ≡ drop used (take (end - start) (drop start buffer))
rest_of start end used buffer within =
    let whole : end - start ≡ used + (end - (start + used)) = omega (arith, within, length-take (end - start) (drop start buffer)) in
    search (rules, drop-take, drop-drop)

pub returns : goal.returns
returns c = search (rules, rest_of)
