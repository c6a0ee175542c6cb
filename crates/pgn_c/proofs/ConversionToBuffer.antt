-- What a conversion leaves in a buffer.
use Rattle.pgn_c.proofs.Words.{◌≡◌, ℕ, ◌<◌, ◌≤◌, List, [], ◌∷◌, ◌++◌, length, take, drop, false, Some, OnOk, Result, refl, sym, ap, subst, ◌∙◌, append-nil, append_assoc, arith, length-take-le, take-append-drop, Token, Device, Mode, Reason, WriteFault, Fault, Profile, due, output, IsFilled, profile_in, result_of, status_of, common_steps, shown_begins, AreShown, NoWriteFails, StopsWriting, CountsFault, CountsReason, AfterSlice, FailsOn}
use Rattle.pgn_lexer.specs.Decided.{decided}
use Rattle.pgn_lexer.specs.Laws.{DecidedIsPrefix}
use Rattle.pgn_game.specs.declared.conversion.Totals.{Totals}
use Rattle.pgn_game.specs.laws.Laws.{DueGrows, IsPrefix}
use Rattle.pgn_game.specs.public.Conversion.{refused, unwritten, too_long}

-- ---- what is written is a front of the export text

all_of : (xs ys : List ℕ) → xs ≡ ys → IsPrefix xs ys
all_of xs ys same = ([], sym same ∙ sym (append-nil xs))

front_of_front : (n : ℕ) (xs ys : List ℕ) → IsPrefix xs ys → IsPrefix (take n xs) ys
front_of_front n xs ys (rest, is) = (
  drop n xs ++ rest,
  is ∙ ap (λ l. l ++ rest) (sym (take-append-drop n xs)) ∙ append_assoc (take n xs) (drop n xs) rest,
)

-- nothing is due for no token
nothing_due : (mode : Mode) → due (profile_in mode) [] ≡ []
nothing_due mode = refl

before_full : (p : Profile) → due p [] ≡ [] → (tokens : List Token) (at : ℕ) (written : List ℕ) → DueGrows
    → StopsWriting p [] tokens at (Some []) (Some written) → IsPrefix written (due p tokens)
before_full p nothing tokens at written grows stops =
    let more = grows p (stops.front ++ stops.token ∷ []) stops.rest in
    subst (λ l. IsPrefix l (due p tokens)) (sym stops.appended)
    (front_of_front stops.count stops.text (due p tokens) (
      more.0,
      ap (due p) (stops.cut ∙ sym (append_assoc stops.front (stops.token ∷ []) stops.rest))
          ∙ more.1 ∙ ap (λ l. l ++ more.0) (stops.due_for ∙ ap (λ l. l ++ stops.text) nothing),
    ))

full_in_text : (p : Profile) → due p [] ≡ [] → (text : List ℕ) (tokens : List Token) (at : ℕ) (written : List ℕ) → DueGrows
    → AreShown text tokens → StopsWriting p [] tokens at (Some []) (Some written) → IsPrefix written (output p text)
full_in_text p nothing text tokens at written grows shown stops =
    let here = shown_begins text tokens shown in
    let front = before_full p nothing tokens at written grows stops in
    let more = grows p tokens here.0 in (
      front.0 ++ more.0,
      ap (due p) here.1 ∙ more.1 ∙ ap (λ l. l ++ more.0) front.1 ∙ append_assoc written front.0 more.0,
    )

before_limit : (p : Profile) (u rest : List ℕ) → DueGrows → DecidedIsPrefix → IsPrefix (due p (decided u)) (output p (u ++ rest))
before_limit p u rest grows prefix =
    let more = prefix u rest in
    let due_more = grows p (decided u) more.0 in
    (due_more.0, ap (due p) more.1 ∙ due_more.1)

front_on_fault : (p : Profile) → due p [] ≡ [] → (text written : List ℕ) (f : Fault) → DueGrows → DecidedIsPrefix
    → FailsOn p text (Some []) (Some written) f → IsPrefix written (output p text)
front_on_fault p nothing text written _ grows prefix (refused f in_time converted) = all_of _ _ converted.1
front_on_fault p nothing text written _ grows prefix (unwritten tokens at shown stops) = full_in_text p nothing text tokens at written grows shown stops
front_on_fault p nothing text written _ grows prefix (too_long u rest is long more reads) =
    subst (λ l. IsPrefix l (output p text)) (sym reads.appended)
    (subst (λ s. IsPrefix (due p (decided u)) (output p s)) (sym is) (before_limit p u rest grows prefix))

pub front : (mode : Mode) (text written : List ℕ) (outcome : Result Totals Fault) → DueGrows → DecidedIsPrefix
    → AfterSlice false (profile_in mode) text outcome (Some []) (Some written) → IsPrefix written (output (profile_in mode) text)
front mode text written outcome grows prefix total = grind (arith, common_steps, all_of, front_on_fault, nothing_due)

-- ---- the buffer

pub filled : (before after : List ℕ) (n : ℕ) → n ≤ length after → length after ≡ length before → drop n after ≡ drop n before
    → IsFilled before after (take n after)
filled before after n within long behind = grind (arith, common_steps, length-take-le, take-append-drop, take)

-- ---- a full buffer

write_fault : (reason : Reason) (sink : Device) → CountsReason reason sink.failures sink.failures_after
    → sink.failures ≡ 0 → status_of reason ≡ 2 → 0 < sink.failures_after
write_fault reason sink counted none is = grind (arith, common_steps)

pub is_full : (outcome : Result Totals Fault) (n : ℕ) (sink : Device) → CountsFault outcome sink → sink.failures ≡ 0
    → (result_of outcome n).status ≡ 2 → 0 < sink.failures_after
is_full outcome n sink counted none is = grind (arith, common_steps, write_fault)

full_reason : (reason : Reason) → status_of reason ≡ 2 → reason ≡ WriteFault
full_reason reason is = grind (arith, common_steps)

-- where no write failed, no buffer is full
pub never_full : (outcome : Result Totals Fault) (n : ℕ) → NoWriteFails outcome → (result_of outcome n).status ≡ 2 → ⊥
never_full outcome n never is = grind (arith, common_steps, full_reason)

-- ---- a result without a fault

-- what holds where a conversion succeeds
pub when_ok : {P : Type 0} (outcome : Result Totals Fault) (n : ℕ) → OnOk outcome P → (result_of outcome n).status ≡ 0 → P
when_ok outcome n holds is = grind (arith, common_steps)
