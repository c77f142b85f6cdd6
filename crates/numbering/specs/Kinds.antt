-- The number kinds: the number of a value. Assumes nothing.
use Rattle.std.specs.Bool.{then_some}
use Rattle.std.specs.Prelude.{ℕ, Option, ◌==◌, nat_lt}
use Rattle.numbering.specs.declared.kind.Zero.{Zero}

-- the number of a value, in a kind that has the numbers below `count`
abbrev pub below : ℕ → ℕ → Option ℕ
below count v = then_some (nat_lt v count) v

-- the only number of free
abbrev pub nought : Zero
nought = record {}

abbrev pub zero_of : ℕ → Option Zero
zero_of v = then_some (v == 0) nought
