use Rattle.pgn_game.proofs.Words.{◌≡◌, ◌-◌, sym, ap, ◌∙◌, arith, List, Pair, slice_get, has_pair, true, codes, rules}
use Rattle.pgn_game.specs.steps.SectionPairs.{others}
use Rattle.pgn_game.proofs.pairs.SectionByIndex.{about_behind, about_front, about_here, both_sides, found_pair, others_without_fen}
use Rattle.pgn_game.proofs.section.other_pair.Goals as goal

pub returns-then-not-has_fen : goal.returns-then-not-has_fen
returns-then-not-has_fen c = search (rules, found_pair, others_without_fen)

pub returns-in-Ok : goal.returns-in-Ok
returns-in-Ok c =
    let some : has_pair c.args.pairs.now (codes "FEN") ≡ true = sym c.requires ∙ c.if-not-has_fen.false in
    sym (ap (λ (ps : List Pair). slice_get ps c.args.index) (sym (both_sides c.args.pairs.now _ _ _ c.index_of.ensures.index c.split_at-before.ensures.front c.split_at-before.ensures.back some))
    ∙ about_front _ _ c.args.index _ (rw c.in-Ok.is at c.nth_pair-2.ensures))

pub returns-then-left-eq0 : goal.returns-then-left-eq0
returns-then-left-eq0 c =
    let some : has_pair c.args.pairs.now (codes "FEN") ≡ true = sym c.requires ∙ c.if-not-has_fen.false in
    sym (ap (λ (ps : List Pair). slice_get ps c.args.index) (sym (both_sides c.args.pairs.now _ _ _ c.index_of.ensures.index c.split_at-before.ensures.front c.split_at-before.ensures.back some))
    ∙ about_here _ _ c.args.index (rw (c.in-Err.is, c.if-left-eq0.true) at c.nth_pair-2.ensures))

pub returns-else-left-eq0 : goal.returns-else-left-eq0
returns-else-left-eq0 c =
    let some : has_pair c.args.pairs.now (codes "FEN") ≡ true = sym c.requires ∙ c.if-not-has_fen.false in
    rw c.ok-in-Err.ensures.value
    (found_pair (others true c.split_at-before.result.1) (c.in-Err.left - 1) _ c.nth_pair-in-Err.ensures
    ∙ sym (about_behind _ _ c.in-Err.left c.args.index (rw c.in-Err.is at c.nth_pair-2.ensures) (omega (arith, c.if-left-eq0.false)))
    ∙ ap (λ (ps : List Pair). slice_get ps c.args.index) (both_sides c.args.pairs.now _ _ _ c.index_of.ensures.index c.split_at-before.ensures.front c.split_at-before.ensures.back some))
