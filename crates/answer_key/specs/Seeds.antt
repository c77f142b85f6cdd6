-- What the seed of a field chooses. Assumes nothing.
use Rattle.std.proofs.Common.{arith}
use Rattle.std.specs.Prelude.{ℕ, ◌≤◌, Bool, true, false, List, cond, ◌==◌}
use Rattle.air.specs.Airs.{Carrying, collisions_carry, losses_carry}
use Rattle.air.specs.Delays.{KeepsPeriods, slowest_period}
use Rattle.air.specs.Draws.{draw, drawn_carries, drawn_period}
use Rattle.air.specs.Falls.{falls_within}
use Rattle.field.specs.declared.Loss.{Loss}

-- seed 0 stands for the slowest delay rule, and any other draws the periods
unfoldable pub seeded_period : ℕ → ℕ → ℕ → ℕ → ℕ
seeded_period seed tmax instant sensor = cond (seed == 0) (slowest_period tmax instant sensor) (drawn_period seed tmax instant sensor)

-- either keeps the law of delay rules
pub seeded_keeps : (seed : ℕ) → KeepsPeriods (seeded_period seed)
unfolding seeded_period
seeded_keeps seed tmax instant sensor some = by (seed == 0)
  where
    by :
        (b : Bool) → let period = cond b (slowest_period tmax instant sensor) (drawn_period seed tmax instant sensor) in
        (1 ≤ period) × (period ≤ tmax)
    by true = (some, omega arith)
    by false = falls_within (λ instant sensor. draw seed instant sensor 0) tmax instant sensor some

-- the air of the key: collisions over the losses that are listed, over what the seed draws, also seed 0
abbrev pub key_carries : ℕ → List Loss → Carrying
key_carries seed losses = collisions_carry (losses_carry losses (λ instant link links senders. drawn_carries seed instant link))
