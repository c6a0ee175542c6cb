-- The bytes in the file of a game.
use Rattle.pgn_tool.proofs.Words.{◌≡◌, ℕ, ◌<◌, ◌≤◌, true, List, [], ◌∷◌, length, length-append, length-take, append-nil, take, Option, None, Some, Result, Ok, Err, refl, sym, ap, ◌∙◌, arith, is_some, IfOk, false≢true, Appends, WriteAppends, Counts, FileStep, IsNew, added, has_bytes, is_text, common_steps}

-- its bytes are reported, if the log is
abbrev pub IsKnown : Option (List FileStep) → Option (List ℕ) → Type 0
IsKnown None bytes = Unit {0}
IsKnown (Some log) bytes = is_some bytes ≡ true

-- some bytes were written
appended : (a b : Option (List ℕ)) (text : List ℕ) → is_some a ≡ true → 0 < length text → Appends a b text → is_text b ≡ true
appended None b text known some appends = absurd (false≢true known)
appended (Some xs) None text known some appends = absurd appends
appended (Some xs) (Some []) text known some appends = absurd (omega (arith, some, ap (length {A = ℕ}) appends, length-append xs text))
appended (Some xs) (Some (y ∷ ys)) text known some appends = refl

-- a write that did not fail leaves bytes in the file
pub has_more : {E : Type 0}
    → (log : Option (List FileStep)) (a b : Option (List ℕ)) (r : Result ℕ E) (text : List ℕ) (failed failed_after : ℕ)
    → (failed ≡ 0 → IsKnown log a) → WriteAppends a b r text
    → IfOk r (λ n. (0 < n) × (n ≤ length text)) → Counts r failed failed_after → failed_after ≡ 0 → has_bytes log b ≡ true
has_more None a b r text failed failed_after known writes bound counts zero = refl
has_more (Some log) a b (Ok n) text failed failed_after known writes bound counts zero =
    appended a b (take n text) (known (sym counts ∙ zero)) (omega (arith, bound.0, bound.1, length-take n text)) writes
has_more (Some log) a b (Err e) text failed failed_after known writes bound counts zero = absurd (omega (arith, counts, zero))

pub added_nil : (log : Option (List FileStep)) → added log [] ≡ log
added_nil log = grind (arith, common_steps, append-nil)

-- a file that is made where the log is as before
pub known_made : (log now : Option (List FileStep)) (a : Option (List ℕ)) → now ≡ added log [] → IsNew now a → IsKnown log a
known_made log now a same new = grind (arith, common_steps, is_some)

pub made_first : (log now after : Option (List FileStep)) (steps : List FileStep)
    → now ≡ added log [] → after ≡ added now steps → after ≡ added log steps
made_first log now after steps same made = made ∙ ap (λ l. added l steps) (same ∙ added_nil log)
