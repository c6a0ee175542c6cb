-- **Definition**: what a contract sees of an outlet, the sink over a writer.
use Rattle.std.specs.Prelude.{ℕ, refl}
use Rattle.std.specs.Coded.{Coded, code_by, coded×, coded_ℕ}

-- the writer, and how often it has failed
pub record Outlet (W : Type 0) : Type 0 where
  pub writer : W
  pub failures : ℕ

-- Bookkeeping for the toolchain: an outlet as a pair, and back.
abbrev pub outlet_code : {W : Type 0} → Coded W → Coded (Outlet W)
outlet_code {W} code =
    code_by (W × ℕ) (coded× code coded_ℕ) (λ o. (o.writer, o.failures)) (λ p. record { writer = p.0; failures = p.1 }) (λ _. refl)
