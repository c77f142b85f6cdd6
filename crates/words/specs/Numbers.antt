-- The number that a word writes. Assumes nothing.
use Rattle.std.specs.Bool.{then_some}
use Rattle.std.specs.Prelude.{ℕ, ◌^◌, ◌&&◌, List, length, Some, None, Option, nat_lt}
use Rattle.std.specs.Str.Parse.{digits_value, without_leading_plus}
use Rattle.std.specs.Str.{all_ascii_digits}

-- decimal digits, after a plus sign or none, of a number of 32 bits
abbrev pub number_in : List ℕ → Option ℕ
number_in word =
    let digits = without_leading_plus word in
    then_some ((nat_lt 0 (length digits) && all_ascii_digits digits) && nat_lt (digits_value 10 digits) (2 ^ 32)) (digits_value 10 digits)

-- a number below a bound
abbrev pub below_in : ℕ → List ℕ → Option ℕ
below_in bound word = elim (number_in word) [ None ↦ None | Some n ↦ then_some (nat_lt n bound) n ]
