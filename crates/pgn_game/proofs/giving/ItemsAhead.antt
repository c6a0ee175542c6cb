-- Each item lowers the bound on the items that are still to come.
use Rattle.pgn_game.proofs.Words.{◌≡◌, ℕ, ◌+◌, ◌*◌, ◌<◌, ◌≤◌, Bool, true, false, Option, Some, Result, Ok, ap, arith, rules}
use Rattle.pgn_game.specs.declared.item.Item.{Item as CodeItem}
use Rattle.pgn_game.specs.public.ItemsCalls.{IsLessIfItem, Items, ahead_unless, items_ahead, one_if, tokens_ahead}
use Rattle.pgn_game.specs.steps.ItemsSteps.{AreGoing, TakesBuffered}

one_at_most : (o : Option CodeItem) → one_if o ≤ 1
one_at_most o = search rules

pub ahead_going : (i : Items) → AreGoing i → items_ahead i ≡ 2 + 2 * tokens_ahead i.lexer
ahead_going i going = omega (arith, ap (λ (b : Bool). ahead_unless b (tokens_ahead i.lexer)) going.not_finished, ap one_if going.pending)

module _ (old new : Items) (going : AreGoing old) where
  pub lowers_on : new.is_finished ≡ false → tokens_ahead new.lexer < tokens_ahead old.lexer → items_ahead new < items_ahead old
  lowers_on is less = search (rules, ahead_going, one_at_most)

  pub lowers_end : new.is_finished ≡ true → items_ahead new < items_ahead old
  lowers_end is = search (rules, ahead_going, one_at_most)

-- an item of the bytes that were read
pub lowers_buffered : (old now new : Items) (i : CodeItem) → AreGoing old → TakesBuffered now new (Ok (Some i))
    → tokens_ahead now.lexer ≤ tokens_ahead old.lexer → items_ahead new < items_ahead old
lowers_buffered old now new i going takes below = lowers_on old new going takes.goes.1 (omega (arith, takes.nearer, takes.short, below))

-- what lowers it from between lowers it from before
pub lowers_from : {E : Type 0} (before between after : ℕ) (r : Result (Option CodeItem) E) → IsLessIfItem between after r → between ≤ before
    → IsLessIfItem before after r
lowers_from before between after r lowers below = search rules
