use Rattle.chess_text.proofs.Words.{◌≡◌, ℕ, ◌+◌, ◌-◌, ◌≤◌, ◌∷◌, candidates, drop, filter_map, length, sym, ◌∙◌, ap, arith, take, is_some, ok_or, and_parts, Man, NoMove, move_from, piece_move_fits, common_steps}
use Rattle.chess_text.proofs.forms.CandidatesInTurn.{another, at_end, first, late, next_own, passed}
use Rattle.chess_text.proofs.forms.OnlyElement.{next_of, none_left}
use Rattle.chess_text.proofs.forms.PieceForms.{with_position, from_square}
use Rattle.chess_text.proofs.resolution.resolve_piece_move.Goals as goal
use Rattle.chess_text.proofs.resolution.resolve_piece_move.Goals.{In-Some}

-- how many were tried before, and the candidates from this one on
abbrev before : In-Some → ℕ
before o = o.loop-origin.probes - o.args.probes.now

left : (o : In-Some) → drop (before o) (candidates o.args.position.now o.args.kind o.args.to) ≡ o.in-Some.origin ∷ o.next.new.self
left o = sym o.loop-origin.invariant.left ∙ o.in-Some.ensures

-- one more was tried
one_more : (before after old : ℕ) → old ≤ before → after ≡ before + 1 → after - old ≡ (before - old) + 1
one_more before after old rises e = omega (arith, rises, e)

others_left : (o : In-Some) (after : ℕ) → after ≡ o.loop-origin.probes + 1
    → o.next.new.self ≡ drop (after - o.args.probes.now) (candidates o.args.position.now o.args.kind o.args.to)
others_left o after e = grind (arith, common_steps, next_of)

pub agrees-requires-clause-kind : goal.agrees-requires-clause-kind
agrees-requires-clause-kind c = grind (arith, common_steps, next_own)

pub returns-then-is_some-clause-answer : goal.returns-then-is_some-clause-answer
returns-then-is_some-clause-answer c =
    let o = (goal.at.returns-then-is_some-clause-answer c).In-Some in
    another c.args.position.now c.args.kind c.args.hints.file c.args.hints.rank c.args.to c.args.promotion (before o) c.loop-origin.found
    c.loop-origin.invariant.found c.loop-origin.invariant.legal c.in-Some.origin c.next.new.self (left o) c.candidates_are_complete.ensures
    (sym c.agrees.ensures.agrees ∙ c.if-agrees.true) (sym c.is_some.ensures ∙ c.if-is_some.true)

pub loop-origin-preserved-then-agrees : goal.loop-origin-preserved-then-agrees
loop-origin-preserved-then-agrees c =
    let o = (goal.at.loop-origin-preserved-then-agrees c).In-Some in
    let agreed = sym c.agrees.ensures.agrees ∙ c.if-agrees.true in
    record {
      found =
          ap (λ n. filter_map (from_square c.args.position.now (Man c.args.kind c.args.hints.file c.args.hints.rank c.args.to c.args.promotion)
          c.args.to c.args.promotion) (take n (candidates c.args.position.now c.args.kind c.args.to)))
          (one_more c.loop-origin.probes c.agrees.new.probes c.args.probes.now c.loop-origin.invariant.rises c.agrees.ensures.count)
          ∙ first c.args.position.now c.args.kind c.args.hints.file c.args.hints.rank c.args.to c.args.promotion (before o) c.loop-origin.found
          c.loop-origin.invariant.found c.loop-origin.invariant.legal c.in-Some.origin c.next.new.self (left o) agreed
          (sym c.is_some.ensures ∙ c.if-is_some.false);
      legal = (and_parts _ (piece_move_fits c.args.position.now c.args.hints.file c.args.hints.rank (move_from c.args.to c.args.promotion c.in-Some.origin)) agreed).0;
      rises = omega (arith, c.loop-origin.invariant.rises, c.agrees.ensures.count);
      most = omega (
        arith,
        (next_of (candidates c.args.position.now c.args.kind c.args.to) (before o) c.in-Some.origin c.next.new.self (left o)).low,
        c.loop-origin.invariant.rises,
        c.agrees.ensures.count,
      );
      left = others_left o c.agrees.new.probes c.agrees.ensures.count;
    }

pub loop-origin-preserved : goal.loop-origin-preserved
loop-origin-preserved c =
    let o = (goal.at.loop-origin-preserved c).In-Some in
    record {
      found =
          ap (λ n. filter_map (from_square c.args.position.now (Man c.args.kind c.args.hints.file c.args.hints.rank c.args.to c.args.promotion)
          c.args.to c.args.promotion) (take n (candidates c.args.position.now c.args.kind c.args.to)))
          (one_more c.loop-origin.probes c.agrees.new.probes c.args.probes.now c.loop-origin.invariant.rises c.agrees.ensures.count)
          ∙ passed c.args.position.now c.args.kind c.args.hints.file c.args.hints.rank c.args.to c.args.promotion (before o) c.loop-origin.found
          c.loop-origin.invariant.found c.loop-origin.invariant.legal c.in-Some.origin c.next.new.self (left o)
          (sym c.agrees.ensures.agrees ∙ c.if-agrees.false);
      legal = c.loop-origin.invariant.legal;
      rises = omega (arith, c.loop-origin.invariant.rises, c.agrees.ensures.count);
      most = omega (
        arith,
        (next_of (candidates c.args.position.now c.args.kind c.args.to) (before o) c.in-Some.origin c.next.new.self (left o)).low,
        c.loop-origin.invariant.rises,
        c.agrees.ensures.count,
      );
      left = others_left o c.agrees.new.probes c.agrees.ensures.count;
    }

pub returns-in-None-clause-answer : goal.returns-in-None-clause-answer
returns-in-None-clause-answer c =
    let p = c.args.position.now in
    ap (λ x. ok_or (with_position p x) NoMove) (sym c.in-None.is)
    ∙ at_end p c.args.kind c.args.hints.file c.args.hints.rank c.args.to c.args.promotion (c.loop-origin.probes - c.args.probes.now) c.loop-origin.found
    c.loop-origin.invariant.found c.loop-origin.invariant.legal c.candidates_are_complete.ensures
    (sym c.loop-origin.invariant.left ∙ c.in_default.ensures.0)

pub returns-in-Some-found-clause-answer : goal.returns-in-Some-found-clause-answer
returns-in-Some-found-clause-answer c =
    let p = c.args.position.now in
    ap (λ x. ok_or (with_position p x) NoMove) (sym c.in-Some-found.is)
    ∙ at_end p c.args.kind c.args.hints.file c.args.hints.rank c.args.to c.args.promotion (c.loop-origin.probes - c.args.probes.now) c.loop-origin.found
    c.loop-origin.invariant.found c.loop-origin.invariant.legal c.candidates_are_complete.ensures
    (sym c.loop-origin.invariant.left ∙ c.in_default.ensures.0)

pub returns-then-is_some-clause-pairs : goal.returns-then-is_some-clause-pairs
returns-then-is_some-clause-pairs c = grind (arith, common_steps, late, is_some, next_of, length)

pub returns-in-None-clause-pairs : goal.returns-in-None-clause-pairs
returns-in-None-clause-pairs c = grind (arith, common_steps, none_left, length)

pub returns-in-Some-found-clause-pairs : goal.returns-in-Some-found-clause-pairs
returns-in-Some-found-clause-pairs c = grind (arith, common_steps, none_left, late, is_some, length)
