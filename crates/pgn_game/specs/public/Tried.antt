-- **Definition**: how many pairs of an origin and a target are tried to find the move of a text.
--
-- No order of search is stated, only what each outcome costs: each pair of the form's candidates,
-- or at least two of them where more than one move agrees.
use Rattle.std.specs.Prelude.{◌≡◌, ℕ, ◌+◌, ◌≤◌, List, Option, None, Some, Result, Ok, Err}
use Rattle.chess_rules.specs.declared.position.Parts.{Parts}
use Rattle.chess_text.specs.declared.form.Form.{Form}
use Rattle.chess_rules.specs.declared.position.Played.{Played}
use Rattle.chess_text.specs.declared.resolution.SanFault.{SanFault}
use Rattle.chess_text.specs.declared.resolution.SanFault.TheVariants.{NoMove, Ambiguous}
use Rattle.chess_text.specs.Form.{form_of}
use Rattle.chess_text.specs.MoveOfForm.{move_of_form, form_pairs}

-- the pairs of a form, by what it names
abbrev pub CostsAnswer : Parts → Form → Result Played SanFault → ℕ → Type 0
CostsAnswer p f (Ok played) n = n ≡ form_pairs p f
CostsAnswer p f (Err NoMove) n = n ≡ form_pairs p f
CostsAnswer p f (Err Ambiguous) n = (2 ≤ n) × (n ≤ form_pairs p f)

-- the pairs of what a text is read as; a text that is no form has none
abbrev pub CostsForm : Parts → Option Form → ℕ → Type 0
CostsForm p None n = n ≡ 0
CostsForm p (Some f) n = CostsAnswer p f (move_of_form p f) n

-- For a text in a position n pairs are tried. It is `unfoldable`, so that goals show it by its
-- name.
unfoldable pub Costs : Parts → List ℕ → ℕ → Type 0
Costs p s n = CostsForm p (form_of s) n

-- The count of tried pairs goes from old to new, by a number that the search may cost.
pub record AddsPairs (IsCost : ℕ → Type 0) (old new : ℕ) : Type 0 where
  pub pairs : ℕ
  pub added : new ≡ old + pairs
  pub costs : IsCost pairs
