use Rattle.chess_rules.proofs.Words.{is_clear, square_at, ◌≡◌, Bool, true, ◌&&◌, ◌∙◌, arith, common_steps}
use Rattle.chess_rules.proofs.lines.AttackToReach.{seen_attacker}
use Rattle.chess_rules.proofs.sets.SetsToSquares.{any_member, full_when, places_and, places_or}
use Rattle.chess_rules.proofs.attack.is_any_in_view.Goals as goal

-- of a few that may attack too, those that are seen do
seen_among : (one may seen clear : Bool) → (one ≡ true → may ≡ true) → (may && seen) ≡ (may && clear) → (one && seen) ≡ (one && clear)
seen_among one may seen clear among same = grind (arith, common_steps)

pub returns : goal.returns
returns c =
    let b = c.args.board.now in
    let t = c.args.target in
    let which = c.requires.which in
    let both =
    places_and _ _ _ _ _ c.bitand.ensures c.requires.places (places_or _ _ _ _ _ c.bitor.ensures c.seen_from.ensures c.knights_to.ensures) in
    full_when c.bitand.result (λ s. which s && is_clear b s t) c.is_empty.result
    (record {
      of = λ i low. both.of i low
          ∙ seen_among (which (square_at i)) _ _ _ (c.requires.attack (square_at i)) (seen_attacker b c.requires.by t (square_at i));
    }) c.is_empty.ensures
    ∙ any_member c.args.possible which (λ s. is_clear b s t) c.requires.places
