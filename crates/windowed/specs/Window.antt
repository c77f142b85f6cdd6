-- A numbering with a window: numbers only rise, and a copy far behind the held number passes for new again. Assumes nothing.
use Rattle.std.specs.Bool.{then_some}
use Rattle.std.specs.Prelude.{ℕ, ◌+◌, ◌-◌, ◌*◌, Bool, cond, ◌||◌, nat_lt}
use Rattle.numbering.specs.Meaning.{Meaning}
use Rattle.windowed.specs.declared.serial.Serial.{Serial}

abbrev pub serial : ℕ → Serial
serial n = record { value = n }

abbrev pub fits : Serial → Bool
fits s = nat_lt s.value 65536

-- A copy is fresh when it is larger, or more than the window behind: no base falls back that far, so it is the held number that is wrong.
abbrev pub window_fresh : ℕ → Serial → Serial → Bool
window_fresh window copy held = nat_lt held.value copy.value || nat_lt window (held.value - copy.value)

-- Numbers have 16 bits, the next is one more, and none follows the last.
abbrev pub windowed : ℕ → Meaning Serial
windowed window = record { lawful = fits; next = λ s. then_some (nat_lt s.value 65535) (serial (s.value + 1)); fresh = window_fresh window }

-- A sensor up to two windows ahead waits until the base comes by; one farther ahead follows at once.
abbrev pub window_catch_up : ℕ → Serial → Serial → ℕ
window_catch_up window x b = cond (nat_lt (2 * window) (x.value - b.value)) 0 (x.value - b.value - 1) + window
