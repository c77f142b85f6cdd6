-- The numbering of a code and an smax. Assumes nothing.
use Rattle.std.specs.Prelude.{◌≡◌, ℕ, true, false, Some, None, Option}
use Rattle.filed.specs.Codes.{code_keeps}
use Rattle.filed.specs.declared.numberings.FileNumbering.{FileNumbering}
use Rattle.filed.specs.declared.numberings.FileNumbering.TheVariants.{Free, Linear, Circular, Differentiated}

abbrev pub code_of : FileNumbering → ℕ
code_of (Free m) = 0
code_of (Linear m) = 1
code_of (Circular m) = 2
code_of (Differentiated m) = 3

abbrev pub smax_of : FileNumbering → ℕ
smax_of (Free m) = 0
smax_of (Linear m) = 0
smax_of (Circular m) = m.ring.smax
smax_of (Differentiated m) = m.ring.smax

-- the numbering where code and smax keep their limits, and else none
abbrev pub Coded : ℕ → ℕ → Option FileNumbering → Type 0
Coded code smax None = code_keeps code smax ≡ false
Coded code smax (Some m) = (code_keeps code smax ≡ true) × (code_of m ≡ code) × (smax_of m ≡ smax)
