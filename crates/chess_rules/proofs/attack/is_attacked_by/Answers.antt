use Rattle.chess_rules.proofs.Words.{Square, is_clear, has_any, members, Places, ◌≡◌, ℕ, true, not, ◌&&◌, Bool, List, [], ◌∷◌, sym, ◌∙◌, ap, arith, list_any, common_steps}
use Rattle.chess_rules.proofs.sets.SetsToSquares.{any_member, full_when, lone_means, none_of_set}
use Rattle.chess_rules.proofs.attack.is_attacked_by.Goals as goal

-- of an empty set all pass
none_passes : (w : ℕ) (p q : Square → Bool) → Places w p → not (has_any w) ≡ true → Places w (λ s. p s && q s)
none_passes w p q h none = grind (arith, none_of_set)

one_passes : (test : Square → Bool) (xs : List Square) (s : Square) → xs ≡ s ∷ [] → list_any test xs ≡ test s
one_passes test xs s one = grind arith

pub returns-then-is_empty : goal.returns-then-is_empty
returns-then-is_empty c =
    let b = c.args.board.now in
    let t = c.args.target in
    let which = c.requires.which in
    let w = c.args.possible in
    sym (sym (any_member w which (λ s. is_clear b s t) c.requires.places)
    ∙ (sym (full_when w (λ s. which s && is_clear b s t) c.is_empty.result
    (none_passes w which (λ s. is_clear b s t) c.requires.places (sym c.is_empty.ensures ∙ c.if-is_empty.true)) c.is_empty.ensures)
    ∙ ap not c.if-is_empty.true))

pub returns-in-Some : goal.returns-in-Some
returns-in-Some c = grind (arith, common_steps, one_passes, is_clear, members, lone_means)
