-- **Definition**: what a contract sees of an inlet, the source over a reader.
use Rattle.std.specs.Prelude.{ℕ, refl}
use Rattle.std.specs.Coded.{Coded, code_by, coded×, coded_ℕ}

-- the reader, and how often it has failed
pub record Inlet (R : Type 0) : Type 0 where
  pub reader : R
  pub failures : ℕ

abbrev pub inlet_code : {R : Type 0} → Coded R → Coded (Inlet R)
inlet_code {R} code =
    code_by (R × ℕ) (coded× code coded_ℕ) (λ o. (o.reader, o.failures)) (λ p. record { reader = p.0; failures = p.1 }) (λ _. refl)
