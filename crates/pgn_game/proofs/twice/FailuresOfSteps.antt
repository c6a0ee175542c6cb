-- Which device counts a failure in a step, of the reasons one by one.
use Rattle.pgn_game.proofs.Words.{Reason, ReadFault, WriteFault, ◌≡◌, ℕ, subst, arith, Device, Bool, true, Result, Err, Fault, CountsFault, seen, nowhere, no_sink, CountsResult, NoWriteFails, Totals, CountsThree, IsStill, one_more, CountsReason, CountsDevices, changed_reason, rules}

-- an error of the reader is no difference, and no failed read
pub reader_reason : (r : Reason) (s o n : ℕ) → CountsReason r o n → CountsDevices r s s o n
reader_reason r s o n h = search rules

-- a sink that counts nothing
pub no_write : (r : Reason) (s t : ℕ) → CountsDevices r s t 0 0 → r ≡ WriteFault → ⊥
no_write r s t h is = absurd (omega (arith, (subst (λ x. CountsDevices x s t 0 0) is h).1))

-- no sink is seen as none, by silent readings and by others
pub seen_none : (P : Device → Type 0) (silent : Bool) → P (seen silent no_sink) → P no_sink
seen_none P silent h = search rules

-- a conversion to a sink that counts nothing
pub no_write_in : (r : Result Totals Fault) (source : Device) → CountsResult r source nowhere → NoWriteFails r
no_write_in r source h = search (rules, no_write)

pub no_write_to : (r : Result Totals Fault) → CountsFault r nowhere → NoWriteFails r
no_write_to r h = search rules

-- a fault that shows a change counts as the fault that it is
pub counts_changed : (r : Reason) (s t o n : ℕ) → CountsDevices r s t o n → CountsDevices (changed_reason r) s t o n
counts_changed r s t o n h = search rules

-- behind steps that counted none
pub behind_still : (r : Reason) (s t u o n m : ℕ) → t ≡ s → n ≡ o → CountsDevices r t u n m → CountsDevices r s u o m
behind_still r s t u o n m source sink h = subst (λ x. CountsDevices r x u o m) source (subst (λ x. CountsDevices r t u x m) sink h)

-- a failed read is counted
pub source_fails : (r : Reason) (s t o n : ℕ) → CountsDevices r s t o n → r ≡ ReadFault → t ≡ one_more s
source_fails r s t o n h is = (subst (λ x. CountsDevices x s t o n) is h).0

-- all three devices, where the second reading stops
pub second_counts : (r : Reason) (first second sink : Device) (s o : ℕ) → IsStill first → s ≡ second.failures → o ≡ sink.failures
    → CountsDevices r s second.failures_after o sink.failures_after → CountsThree r first second sink
second_counts r first second sink s o still here there h = search rules

-- and where the first one stops
pub first_counts : (r : Reason) (first second sink : Device) (s : ℕ) → s ≡ first.failures → IsStill second → IsStill sink
    → CountsDevices r s first.failures_after 0 0 → CountsThree r first second sink
first_counts r first second sink s here still none h = search rules

-- what is counted behind the bytes of a source
pub counts_behind : (r : Result Bool Fault) (source sink last : Device) → source.failures_after ≡ source.failures → last.failures ≡ sink.failures
    → last.failures_after ≡ sink.failures_after → CountsFault r last → CountsResult r source sink
counts_behind r source sink last still before after h = search (rules, behind_still, reader_reason)

-- a silent reader counts no failure of a sink
pub none_written : (silent : Bool) (f : Fault) (source d : Device) → silent ≡ true → CountsResult {A = Bool} (Err f) source (seen silent d) → f.reason ≡ WriteFault → ⊥
none_written silent f source d is h = search (rules, no_write)
