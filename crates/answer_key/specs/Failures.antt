-- Why a program ends early. Assumes nothing.
use Rattle.answer_key.specs.declared.failure.Failure.{Failure}
use Rattle.answer_key.specs.declared.failure.Failure.TheVariants.{Declined, Io}

-- reading, writing or memory failed
abbrev pub IsIo : Failure → Type 0
IsIo (Declined fault) = ⊥
IsIo (Io error) = Unit {0}
