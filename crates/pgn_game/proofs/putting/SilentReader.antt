-- What calls in turn do to the sink of a silent reader.
use Rattle.pgn_game.proofs.Words.{Converter, IsGoing, writing_nothing, None, CountsFault, NoWriteFails, Fault, Device, Result, seen, ◌≡◌, Bool, false, IsTrue, refl, ap, subst, arith, GameState, Writing, KeepsSilence, is_nothing, Written, common_steps, rules}
use Rattle.pgn_game.specs.declared.mode.Written.TheVariants.{Nothing}

-- a call that leaves how the reader writes
module _ {S : Type 0} (old new : GameState) (a : S) where
  pub silence_of : (b : S) → new.writing ≡ old.writing → (IsTrue old.writing.is_silent → b ≡ a) → KeepsSilence old new a b
  silence_of b same untouched = record { silent = ap (λ (w : Writing). w.is_silent) same; untouched = untouched }

  -- one that does not use the sink
  pub silence_kept : new.writing ≡ old.writing → KeepsSilence old new a a
  silence_kept same = silence_of a same (λ silent. refl)

-- one call after another
pub silence_then : {S : Type 0} (old mid new : GameState) (a b c : S) → KeepsSilence old mid a b → KeepsSilence mid new b c
    → KeepsSilence old new a c
silence_then old mid new a b c first second = grind (arith, common_steps)

pub writes_some : (w : Written) → (w ≡ Nothing → ⊥) → is_nothing w ≡ false
writes_some w some = grind arith

-- Of a reader that writes, contracts see the sink as it is.
pub seen_if : (P : Device → Type 0) (silent : Bool) (d : Device) → silent ≡ false → P d → P (seen silent d)
seen_if P silent d writes h = search rules

-- a converter that can convert still can if it writes nothing from now on
pub ready_silently : (old : Converter) {new : Converter} → new ≡ writing_nothing old → old.is_finished ≡ false → old.fault ≡ None
    → IsGoing new
ready_silently old switched not_finished no_fault = search rules

-- two readers that are both silent, or not, see the same of a sink
pub seen_alike : (P : Device → Type 0) (p q : Bool) (d : Device) → p ≡ q → P (seen p d) → P (seen q d)
seen_alike P p q d same h = subst (λ (b : Bool). P (seen b d)) same h

pub unseen : (P : Device → Type 0) (silent : Bool) (d : Device) → silent ≡ false → P (seen silent d) → P d
unseen P silent d writes h = search rules

-- the count of what a silent reader sees does not rise, so no write failed
pub none_fails : {A : Type 0} (silent : Bool) (r : Result A Fault) (d : Device) → IsTrue silent → CountsFault r (seen silent d) → NoWriteFails r
none_fails silent r d is counted = search rules
