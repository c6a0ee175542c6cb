-- **Definition**: what a call does to the bytes of a device, and to its count of failures.
-- A device is a source of bytes, or a sink.
use Rattle.std.specs.Prelude.{◌≡◌, ℕ, ◌+◌, ◌-◌, ◌^◌, ◌<◌, min, List, [], length, take, Option, None, Some, Result, MatchResult}
use Rattle.std.specs.Io.KnownBytes.{Appends}

-- one more failure; the count stops at 2^64 - 1
abbrev pub one_more : ℕ → ℕ
one_more n = min (n + 1) (2 ^ 64 - 1)

-- a call that fails is counted, and no other
abbrev pub Counts : {A E : Type 0} → Result A E → ℕ → ℕ → Type 0
Counts r old new = MatchResult r (λ _. new ≡ old) (λ _. new ≡ one_more old)

-- a prefix of the text was appended, but not all of it: its first n bytes, for some n
abbrev pub AppendsFront : Option (List ℕ) → Option (List ℕ) → List ℕ → Type 0
AppendsFront old new text = (n : ℕ) × (n < length text) × Appends old new (take n text)

-- the whole text was appended, or if the call failed a prefix of it and not all
abbrev pub Writes : {A E : Type 0} → Option (List ℕ) → Option (List ℕ) → Result A E → List ℕ → Type 0
Writes old new r text = MatchResult r (λ _. Appends old new text) (λ _. AppendsFront old new text)

-- no byte is unflushed, if the sink reports which are
abbrev pub NoneUnflushed : Option (List ℕ) → Type 0
NoneUnflushed None = Unit {0}
NoneUnflushed (Some bytes) = bytes ≡ []

-- What a contract compares: a device before and after a call. The bytes are those left in a source
-- or taken by a sink, if it reports them.
pub record Device : Type 0 where
  pub before : Option (List ℕ)
  pub after : Option (List ℕ)
  pub failures : ℕ
  pub failures_after : ℕ

-- the device that goes from one state to another
abbrev pub device : {S : Type 0} → (S → Option (List ℕ)) → (S → ℕ) → S → S → Device
device bytes failures old new = record { before = bytes old; after = bytes new; failures = failures old; failures_after = failures new }

-- a sink that keeps no byte and never fails
abbrev pub nowhere : Device
nowhere = record { before = None; after = None; failures = 0; failures_after = 0 }

-- the count of failures stayed
abbrev pub IsStill : Device → Type 0
IsStill d = d.failures_after ≡ d.failures

-- A call writes this text: all of it, or if it fails a prefix and not all. Its failure is counted.
pub record WritesText {A E : Type 0} (d : Device) (r : Result A E) (text : List ℕ) : Type 0 where
  pub written : Writes d.before d.after r text
  pub counted : Counts r d.failures d.failures_after

-- the device counts one failure more
abbrev pub FailsOnce : Device → Type 0
FailsOnce d = d.failures_after ≡ one_more d.failures
