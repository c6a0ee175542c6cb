use Rattle.chess_text.proofs.Words.{◌≡◌, ◌+◌, ◌≤◌, ◌||◌, false, replicate, set, length, take, refl, sym, ◌∙◌, ap, subst, arith, list_any, list_any_more, take_all, length_permutation, NoStep, IsPermutation, Move, same_square, candidates, castling_move, form_pairs, origin_kind, nth_square, common_steps}
use Rattle.chess_text.proofs.forms.FormOriginKinds.{KindsSoFar, none_so_far, one_more_kind, all_kinds, castling_kinds, piece_kinds}
use Rattle.chess_text.proofs.form_origins.origins_of_form.Goals as goal

pub loop-origin-init : goal.loop-origin-init
loop-origin-init c = record { kinds = none_so_far c.args.position.now c.args.form.now _ (λ s. refl); tried = omega arith }

pub loop-origin-preserved : goal.loop-origin-preserved
loop-origin-preserved c =
    let p = c.args.position.now in
    let f = c.args.form.now in
    let xs = c.as_slice-origin-items.result.now in
    let i = c.loop-origin.origin-index in
    let s = c.origin-item.result in
    record {
      kinds =
          subst (λ k. KindsSoFar p f (set c.loop-origin.kinds c.place-in-loop-origin.result k) (λ t. list_any (same_square t) (take (i + 1) xs)))
          (sym c.origin_kind-in-loop-origin.ensures.kind)
          (one_more_kind p f c.loop-origin.kinds (λ t. list_any (same_square t) (take i xs)) _ c.place-in-loop-origin.result s
          c.loop-origin.invariant.kinds c.place-in-loop-origin.ensures.below c.place-in-loop-origin.ensures.again
          (λ t. list_any_more (same_square t) xs i s (omega arith) ∙ ap (λ u. list_any (same_square t) (take i xs) || same_square t u) (sym c.origin-item.is)));
      tried = omega arith;
    }

pub returns-in-Castle-clause-kinds : goal.returns-in-Castle-clause-kinds
returns-in-Castle-clause-kinds c =
    let p = c.args.position.now in
    let f = c.args.form.now in
    let s = c.castling_move-origin.result.from in
    let home : s ≡ (castling_move p.side c.in-Castle.long).from =
    ap (λ (m : Move). m.from) (c.castling_move-origin.ensures ∙ ap (λ side. castling_move side c.in-Castle.long) c.side.ensures) in
    ap (λ k. set (replicate 64 NoStep) c.place.result k) c.origin_kind.ensures.kind
    ∙ all_kinds p f _ (λ t. same_square t s)
    (one_more_kind p f (replicate 64 NoStep) (λ t. false) _ c.place.result s
    (none_so_far p f (λ t. false) (λ t. refl)) c.place.ensures.below c.place.ensures.again (λ t. refl))
    (λ n low other.
    ap (λ g. origin_kind p g (nth_square n)) c.in-Castle.is
    ∙ castling_kinds p c.in-Castle.long (nth_square n) (ap (same_square (nth_square n)) (sym home) ∙ other))

-- the origins are the candidates
perm : (c : goal.After-loop-origin) → IsPermutation (candidates c.args.position.now c.in-Man.kind c.in-Man.to) c.as_slice-origin-items.result.now
perm c = rw c.as_slice-origin-items.ensures.value c.origins-origins.ensures.exactly

pub returns-after-loop-origin-clause-kinds : goal.returns-after-loop-origin-clause-kinds
returns-after-loop-origin-clause-kinds c =
    let p = c.args.position.now in
    let f = c.args.form.now in
    let xs = c.as_slice-origin-items.result.now in
    let every : length xs ≤ c.loop-origin.origin-index = omega arith in
    all_kinds p f c.loop-origin.kinds _ c.loop-origin.invariant.kinds
    (λ n low other.
    ap (λ g. origin_kind p g (nth_square n)) c.in-Man.is
    ∙ piece_kinds c.steps_are_from_candidates.ensures p c.in-Man.kind c.in-Man.file c.in-Man.rank c.in-Man.to c.in-Man.promotion xs (perm c) n low
    (ap (list_any (same_square (nth_square n))) (sym (take_all _ xs every)) ∙ other))

pub returns-after-loop-origin-clause-count : goal.returns-after-loop-origin-clause-count
returns-after-loop-origin-clause-count c = grind (arith, common_steps, length_permutation, candidates, perm, form_pairs)
