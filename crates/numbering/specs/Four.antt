-- The four numberings, by their meaning, and the patience and catch-up count of those that settle. Assumes nothing.
use Rattle.std.specs.Bool.{then_some}
use Rattle.std.specs.Prelude.{ℕ, ◌+◌, ◌-◌, ◌/◌, ◌%◌, ◌^◌, Bool, true, not, ◌&&◌, Some, ◌==◌, nat_le, nat_lt}
use Rattle.numbering.specs.declared.kind.Zero.{Zero}
use Rattle.numbering.specs.Meaning.{Meaning}

-- Free: the only number follows itself, and every copy is fresh.
abbrev pub free : Meaning Zero
free = record { lawful = λ s. true; next = λ s. Some s; fresh = λ copy held. true }

-- Linear: numbers of 32 bits, the next is one more, none follows the last, and the larger is fresh.
abbrev pub linear : Meaning ℕ
linear = record { lawful = λ s. nat_lt s (2 ^ 32); next = λ s. then_some (nat_lt s 4294967295) (s + 1); fresh = λ copy held. nat_lt held copy }

abbrev pub linear_patience : ℕ
linear_patience = 255

abbrev pub linear_catch_up : ℕ → ℕ → ℕ
linear_catch_up x b = x - b - 1 + 255

-- The numbers 0 to smax in a ring, under any freshness: the next is one more modulo smax + 1.
abbrev pub ring : ℕ → (ℕ → ℕ → Bool) → Meaning ℕ
ring smax fresh = record { lawful = λ s. nat_le s smax; next = λ s. Some ((s + 1) % (smax + 1)); fresh = fresh }

-- (copy − held) modulo smax + 1: how many steps of the ring lead from held to copy
abbrev pub distance : ℕ → ℕ → ℕ → ℕ
distance smax copy held = (copy + (smax + 1 - held % (smax + 1))) % (smax + 1)

-- half of smax, rounded down
abbrev pub half : ℕ → ℕ
half smax = smax / 2

-- Circular: a copy is fresh when it lies 1 to half of smax steps ahead.
abbrev pub circular_fresh : ℕ → ℕ → ℕ → Bool
circular_fresh smax copy held = nat_le 1 (distance smax copy held) && nat_le (distance smax copy held) (half smax)

abbrev pub circular : ℕ → Meaning ℕ
circular smax = ring smax (circular_fresh smax)

abbrev pub circular_catch_up : ℕ → ℕ
circular_catch_up smax = smax + half smax - 1

-- Differentiated: a copy is fresh when it differs from the held number.
abbrev pub differs : ℕ → ℕ → Bool
differs copy held = not (copy == held)

abbrev pub differentiated : ℕ → Meaning ℕ
differentiated smax = ring smax differs
