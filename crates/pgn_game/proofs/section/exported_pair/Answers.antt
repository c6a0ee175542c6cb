use Rattle.pgn_game.proofs.Words.{sym, ap, ◌∙◌, ◌≡◌, Mode, Full, Reduced, Pair, List, ℕ, Some, slice_get, known_result, missing_of, exported, roster_pairs, rules}
use Rattle.pgn_game.proofs.pairs.SectionByIndex.{default_or, full_behind, full_front, in_roster_by, reduced_behind}
use Rattle.pgn_game.proofs.section.exported_pair.Goals as goal

front_of : (mode : Mode) (result : List ℕ) (ps : List Pair) (i : ℕ) (p : Pair) → slice_get (roster_pairs result ps) i ≡ Some p
    → slice_get (exported mode result ps) i ≡ Some p
front_of Full result ps i p is = full_front result ps i p is
front_of Reduced result ps i p is = is

pub returns-then-index-lt7 : goal.returns-then-index-lt7
returns-then-index-lt7 c =
    let result = known_result (missing_of c.args.missing_result) in
    sym (front_of c.args.mode result c.args.pairs.now c.args.index _ (in_roster_by result c.args.pairs.now c.args.index _ c.roster_pair.ensures.pair)
    ∙ ap (λ (value : List ℕ). Some (record { name = c.roster_pair.result.0.now; value = value }))
    (sym (default_or c.value_in.result _ _ _ c.unwrap_or.ensures c.value_in.ensures.value)))

pub returns-in-Reduced : goal.returns-in-Reduced
returns-in-Reduced c = search (rules, reduced_behind)

pub returns-in-Full : goal.returns-in-Full
returns-in-Full c = search (rules, full_behind)
