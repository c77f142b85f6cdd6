-- The numbering of a file, by its code and its smax, and its lawful numbers by their values. Assumes nothing.
use Rattle.std.specs.Prelude.{ℕ, ◌^◌, Bool, cond, ◌&&◌, ◌==◌, nat_le, nat_lt}

-- codes 0 to 3 are free, linear, circular and differentiated; smax is 0 for the first two, and 2 to 255 for the others
abbrev pub code_keeps : ℕ → ℕ → Bool
code_keeps code smax = cond (nat_lt code 2) (smax == 0) (nat_lt code 4 && nat_le 2 smax)

-- is this the value of a lawful number?
abbrev pub lawful_value : ℕ → ℕ → ℕ → Bool
lawful_value code smax value = cond (code == 0) (value == 0) (cond (code == 1) (nat_lt value (2 ^ 32)) (nat_le value smax))
