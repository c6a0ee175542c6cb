use Rattle.chess_text.proofs.Words.{◌≡◌, suc, ◌+◌, ◌-◌, ◌≤◌, Bool, false, refl, drop, length, take, sym, ◌∙◌, ap, subst, arith, list_any, IsPermutation-refl, Square, candidates, rivals, common_steps}
use Rattle.chess_text.proofs.forms.OnlyElement.{next_of, none_left}
use Rattle.chess_text.proofs.names.OneMoveAgrees.{Found, seen, found_more, all_found, rivals_seen, lone_candidate, no_rivals}
use Rattle.chess_text.proofs.san.rivals_of.Goals as goal
use Rattle.chess_text.proofs.san.rivals_of.Goals.{In_default}

pub loop-origin-preserved : goal.loop-origin-preserved
loop-origin-preserved c =
    let all = candidates c.args.position.now c.args.kind c.args.mv.now.to in
    let before = c.loop-origin.probes - c.args.probes.now in
    let next = next_of all before c.in-Some.origin c.next.new.self (sym c.loop-origin.invariant.left ∙ c.in-Some.ensures) in
    let count : before + 1 ≡ c.is_rival-is_rival.new.probes - c.args.probes.now = omega (arith, c.loop-origin.invariant.rises, c.is_rival-is_rival.ensures.pairs) in
    let more : suc before ≡ c.is_rival-is_rival.new.probes - c.args.probes.now = omega (arith, c.loop-origin.invariant.rises, c.is_rival-is_rival.ensures.pairs) in
    record {
      found =
          subst (λ n. Found c.args.position.now c.args.mv.now all n c.with-found.result.any c.with-found.result.on_file c.with-found.result.on_rank) count
          (found_more _ _ _ _ c.in-Some.origin c.is_rival-is_rival.result
          c.loop-origin.found.any c.loop-origin.found.on_file c.loop-origin.found.on_rank _ _ _
          next.low next.is c.is_rival-is_rival.ensures.rival c.loop-origin.invariant.found
          c.with-found.ensures.any c.with-found.ensures.file c.with-found.ensures.rank);
      rises = omega (arith, c.loop-origin.invariant.rises, c.is_rival-is_rival.ensures.pairs);
      most = omega (arith, next.low, c.loop-origin.invariant.rises, c.is_rival-is_rival.ensures.pairs);
      left = next.left ∙ ap (λ n. drop n all) more;
    }

-- the piece is alone
pub returns-then-is_lone : goal.returns-then-is_lone
returns-then-is_lone c = grind (arith, common_steps, no_rivals, lone_candidate)

-- no origin is left: all of them were seen
none : (c : In_default)
    → length (candidates c.args.position.now c.args.kind c.args.mv.now.to) ≤ c.loop-origin.probes - c.args.probes.now
none c =
    none_left (candidates c.args.position.now c.args.kind c.args.mv.now.to) (c.loop-origin.probes - c.args.probes.now)
    (sym c.loop-origin.invariant.left ∙ c.in_default.ensures.0)

whole : (c : In_default) (test : Square → Bool)
    → seen c.args.position.now c.args.mv.now test
    (take (c.loop-origin.probes - c.args.probes.now) (candidates c.args.position.now c.args.kind c.args.mv.now.to))
    ≡ list_any test (rivals c.args.position.now c.args.kind c.args.mv.now)
whole c test =
    all_found c.args.position.now c.args.mv.now test (candidates c.args.position.now c.args.kind c.args.mv.now.to)
    (c.loop-origin.probes - c.args.probes.now) (none c)
    ∙ rivals_seen c.candidates_are_complete.ensures c.args.position.now c.args.kind c.args.mv.now test
    (candidates c.args.position.now c.args.kind c.args.mv.now.to) (IsPermutation-refl _)

pub returns-clause-any : goal.returns-clause-any
returns-clause-any c =
    c.loop-origin.invariant.found.any_is ∙ whole (goal.at.returns-clause-any c).In_default _

pub returns-clause-file : goal.returns-clause-file
returns-clause-file c =
    c.loop-origin.invariant.found.file_is ∙ whole (goal.at.returns-clause-file c).In_default _

pub returns-clause-rank : goal.returns-clause-rank
returns-clause-rank c =
    c.loop-origin.invariant.found.rank_is ∙ whole (goal.at.returns-clause-rank c).In_default _

pub returns-clause-pairs : goal.returns-clause-pairs
returns-clause-pairs c =
    omega (
      arith,
      none (goal.at.returns-clause-pairs c).In_default,
      c.loop-origin.invariant.rises,
      c.loop-origin.invariant.most,
    )

pub loop-origin-init : goal.loop-origin-init
loop-origin-init c =
    let all = candidates c.args.position.now c.args.kind c.args.mv.now.to in
    let start : 0 ≡ c.args.probes.now - c.args.probes.now = omega arith in
    record {
      found = subst (λ n. Found c.args.position.now c.args.mv.now all n false false false) start (record { any_is = refl; file_is = refl; rank_is = refl });
      rises = omega arith;
      most = omega arith;
      left = c.new-origins.ensures.all ∙ ap (λ n. drop n all) start;
    }
