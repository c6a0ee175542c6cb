-- **Definition**: what a contract sees of the source over a text, and what setting a source back
-- does.
use Rattle.std.specs.Prelude.{◌≡◌, ℕ, List, drop, Option, Some, IfSome}

-- the text from its first byte, and what is left of it
pub record SliceSource : Type 0 where
  pub text : List ℕ
  pub left : List ℕ

-- If the text is known, the bytes left are those from this place on.
abbrev pub IsSetTo : Option (List ℕ) → ℕ → Option (List ℕ) → Type 0
IsSetTo text place left = IfSome text (λ s. left ≡ Some (drop place s))
