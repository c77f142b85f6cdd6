-- Delay rules. Assumes nothing.
use Rattle.std.specs.Prelude.{ℕ, ◌+◌, ◌%◌, ◌≤◌, cond, ◌==◌}

-- every period lies from 1 to tmax, for a tmax of at least 1
abbrev pub KeepsPeriods : (ℕ → ℕ → ℕ → ℕ) → Type 0
KeepsPeriods period = (tmax instant sensor : ℕ) → 1 ≤ tmax → (1 ≤ period tmax instant sensor) × (period tmax instant sensor ≤ tmax)

-- the slowest: tmax, and so 0 where it is 0
abbrev pub slowest_period : ℕ → ℕ → ℕ → ℕ
slowest_period tmax instant sensor = tmax

-- The period that a number falls on, counting from 1 to tmax over and over. Where tmax is 0 there is none to fall on, and it is 0.
abbrev pub falls_on : ℕ → ℕ → ℕ
falls_on tmax number = cond (tmax == 0) 0 (1 + number % tmax)
