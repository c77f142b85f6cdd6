-- An air with storms, and periods in turn. Assumes nothing.
use Rattle.std.specs.Prelude.{ℕ, not, ◌&&◌, nat_le}
use Rattle.air.specs.Airs.{Carrying}
use Rattle.air.specs.Delays.{falls_on}

-- the air below says yes, and there is no storm
abbrev pub storm_carries : ℕ → ℕ → Carrying → Carrying
storm_carries first last below instant link links senders = not (nat_le first instant && nat_le instant last) && below instant link links senders

-- each sensor its own, counting from 1 to tmax over and over
abbrev pub staggered : ℕ → ℕ → ℕ → ℕ
staggered tmax instant sensor = falls_on tmax sensor
