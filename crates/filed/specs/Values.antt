-- Lawful numbers by their values. Assumes nothing.
use Rattle.std.specs.Prelude.{ℕ, Bool, false, Some, None, Option}
use Rattle.numbering.specs.Meaning.{Meaning}

-- is this the value of a lawful number?
abbrev pub lawful_of : {Num : Type 0} → Meaning Num → (ℕ → Option Num) → ℕ → Bool
lawful_of m of value = elim (of value) [ None ↦ false | Some x ↦ m.lawful x ]
