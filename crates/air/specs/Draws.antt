-- Numbers that a seed draws. Assumes nothing.
use Rattle.std.specs.Prelude.{ℕ, ◌+◌, ◌*◌, ◌/◌, ◌%◌, ◌^◌, Bool, cond, ◌==◌, nat_lt}
use Rattle.std.specs.Int.Bits.{bit_xor}
use Rattle.field.specs.declared.Link.{Link}
use Rattle.air.specs.Delays.{falls_on}

-- one number mixed in: in 32 bits, the sum and the product that pass them are cut
abbrev pub mixed : ℕ → ℕ → ℕ
mixed x number = (bit_xor x number * 1664525 + 1013904223) % 2 ^ 32

-- the number that a seed draws for three numbers
unfoldable pub draw : ℕ → ℕ → ℕ → ℕ → ℕ
draw seed first second third = mixed (mixed (mixed seed first) second) third / 65536

-- the period that the draw falls on
abbrev pub drawn_period : ℕ → ℕ → ℕ → ℕ → ℕ
drawn_period seed tmax instant sensor = falls_on tmax (draw seed instant sensor 0)

-- the percentage that a label stands for
abbrev pub percent : ℕ → ℕ
percent label = cond (label == 0) 100 label

-- yes where the draw, modulo 100, is below the percentage of the label
abbrev pub drawn_carries : ℕ → ℕ → Link → Bool
drawn_carries seed instant link = nat_lt (draw seed instant link.from link.to % 100) (percent link.label)
