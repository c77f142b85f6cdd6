-- The period that a number falls on keeps the law of periods. Assumes nothing.
use Rattle.std.proofs.Common.{◌≡◌, ℕ, ◌+◌, ◌%◌, ◌≤◌, Bool, true, false, cond, eqb, eqb-true, refl, arith}
use Rattle.std.proofs.Math.Nat.{mod-lt}
use Rattle.air.specs.Delays.{falls_on, KeepsPeriods}

pub falls_within : (number : ℕ → ℕ → ℕ) → KeepsPeriods (λ tmax instant sensor. falls_on tmax (number instant sensor))
falls_within number tmax instant sensor some = by (eqb tmax 0) refl
  where
    by : (b : Bool) → eqb tmax 0 ≡ b → (1 ≤ cond b 0 (1 + number instant sensor % tmax)) × (cond b 0 (1 + number instant sensor % tmax) ≤ tmax)
    by true e = let none = eqb-true tmax 0 e in absurd (omega arith)
    by false e = let below = mod-lt (number instant sensor) {m = tmax} (omega arith) in (omega arith, omega (arith, below))
