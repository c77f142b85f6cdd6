-- What the refusal of a run says is wrong. Assumes nothing.
use Rattle.std.specs.Prelude.{ℕ, List, codes}
use Rattle.refusal.specs.Causes.{cause}
use Rattle.refusal.specs.declared.RunFault.{RunFault}
use Rattle.refusal.specs.declared.RunFault.TheVariants.{Field, ShortBuffer, LastInstant, NoNumber, CopyLeft, NoRoom}

abbrev pub run_cause : RunFault → List ℕ
run_cause (Field fault) = cause fault
run_cause ShortBuffer = codes "a buffer is shorter than the field"
run_cause LastInstant = codes "instant 4,294,967,295 has been opened already"
run_cause NoNumber = codes "the base is to send, but no number comes behind its own"
run_cause CopyLeft = codes "a copy is left"
run_cause NoRoom = codes "the output does not fit"
