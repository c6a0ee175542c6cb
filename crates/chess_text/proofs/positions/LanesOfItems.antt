-- The lanes of a rank that is read item by item: an item is a content, with empty squares after it.
use Rattle.chess_rules.specs.Words.{lanes_of}
unfoldable use Rattle.chess_rules.specs.Words.{lanes, word}
use Rattle.chess_text.proofs.Words.{◌≡◌, ℕ, ◌+◌, ◌*◌, Bool, false, List, [], ◌∷◌, ◌++◌, length, replicate, refl, ◌∙◌, ap, ap₂, arith, None, Option, if◌then◌else◌, Board, Piece, ◌^◌, zero, suc, word-append}

none_there : {X : Type 0} (test : X → Bool) (none : X) (k : ℕ) → test none ≡ false → word test (replicate k none) ≡ 0
unfolding word
none_there test none zero h = refl
none_there test none (suc k) h = ap₂ (λ t n. (if t then 1 else 0) + 2 * n) h (none_there test none k h)

with_item : {X : Type 0} (test : X → Bool) (b : List X) (x none : X) (k : ℕ) → test none ≡ false
    → word test (b ++ (x ∷ replicate k none)) ≡ word test b + 2 ^ length b * word test (x ∷ [])
unfolding word
with_item test b x none k h =
    word-append test b (x ∷ replicate k none)
    ∙ ap (λ n. word test b + 2 ^ length b * ((if test x then 1 else 0) + 2 * n)) (none_there test none k h)

pub lanes_with_item : (b : Board) (x : Option Piece) (k : ℕ) → lanes (b ++ (x ∷ replicate k None)) ≡ lanes b + lanes_of x * 2 ^ length b
unfolding lanes
lanes_with_item b x k = grind (arith, with_item)
