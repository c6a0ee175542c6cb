use Rattle.pgn_game.proofs.Words.{◌≡◌, ◌∙◌, Bool, ap, sym, comes_before, List, ℕ, rules}
use Rattle.pgn_game.proofs.pairs.SortedPairs.{index_of-le, index-before, index-behind}
use Rattle.pgn_game.proofs.ordered.index_of.Goals as goal

-- what a test of `is_before` says of the pair in the middle
told : (name : List ℕ) {other own : List ℕ} {b t : Bool} → other ≡ own → b ≡ comes_before name other → b ≡ t → comes_before name own ≡ t
told name same is test = ap (comes_before name) (sym same) ∙ sym is ∙ test

pub loop-low-init : goal.loop-low-init
loop-low-init c = search (rules, index_of-le)

pub loop-low-preserved-then-is_before : goal.loop-low-preserved-then-is_before
loop-low-preserved-then-is_before c = search (rules, index-before, told)

pub loop-low-preserved : goal.loop-low-preserved
loop-low-preserved c = search (rules, index-behind, told)
