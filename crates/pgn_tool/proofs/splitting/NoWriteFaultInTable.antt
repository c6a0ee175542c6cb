-- No token is rejected because of a write that failed.
use Rattle.pgn_tool.proofs.Words.{List, [], ◌∷◌, None, Some, true, false, IfSome, Kind, Token, Profile, Part, Row, first_holding, refusal, rows, Progress, progress_after, read_from, IsOwn, arith, common_steps}
use Rattle.pgn_game.proofs.stepping.OneMoreToken.{after_test}

abbrev AreOwn : List Row → Type 0
AreOwn [] = Unit {0}
AreOwn (r ∷ rs) = IsOwn r.reason × AreOwn rs

first_own : (rs : List Row) → AreOwn rs → IfSome (first_holding rs) IsOwn
first_own [] own = tt
first_own (r ∷ rs) (here, rest) =
    elim r.holds as (λ b. IfSome (elim b [ true ↦ Some r.reason | false ↦ first_holding rs ]) IsOwn) [
      | true ↦ here
      | false ↦ first_own rs rest
    ]

rows_own : (p : Profile) (part : Part) (k : Kind) → AreOwn (rows p part k)
rows_own p part k = grind (arith, common_steps)

refusal_own : (p : Profile) (part : Part) (k : Kind) → IfSome (refusal p part k) IsOwn
unfolding refusal
refusal_own p part (Kind.refused r) = tt
refusal_own p part k = first_own (rows p part k) (rows_own p part k)

pub read_own : (p : Profile) (b : Progress) (ts : List Token) → IfSome (read_from p b ts).fault (λ f. IsOwn f.reason)
read_own p b [] = tt
read_own p b (t ∷ ts) =
    elim (refusal p b.part t.kind) as (λ o. IfSome o IsOwn → IfSome (after_test p b t ts o).fault (λ f. IsOwn f.reason)) [
      | Some reason ↦ λ own. own
      | None ↦ λ none. read_own p (progress_after b t) ts
    ] (refusal_own p b.part t.kind)
