-- What each refusal tells: its number, its place and its layer, case by case. Assumes nothing.
use Rattle.std.specs.Prelude.{ℕ}
use Rattle.refusal.specs.declared.FieldFault.{FieldFault}
use Rattle.refusal.specs.declared.FieldFault.TheVariants.{Record as InRecord, OutOfOrder, BadSetting, NoSensor, BadLink, TooMany, BadRow, NoLink}
use Rattle.refusal.specs.declared.Layer.{Layer}
use Rattle.refusal.specs.declared.Layer.TheVariants.{Record, Field, Run}
use Rattle.refusal.specs.declared.RecordFault.{RecordFault}
use Rattle.refusal.specs.declared.RecordFault.TheVariants.{BadLength, UnknownKind, NotZero}
use Rattle.refusal.specs.declared.RunFault.{RunFault}
use Rattle.refusal.specs.declared.RunFault.TheVariants.{Field as InField, ShortBuffer, LastInstant, NoNumber, CopyLeft, NoRoom}
use Rattle.refusal.specs.declared.Told.{Told}

abbrev pub tells : ℕ → ℕ → Layer → Told
tells number place layer = record { number = number; place = place; layer = layer }

-- the layer is that of the enum in which the case stands
abbrev pub record_told : RecordFault → Told
record_told BadLength = tells 1 0 Record
record_told (UnknownKind place) = tells 2 place Record
record_told (NotZero place) = tells 3 place Record

abbrev pub field_told : FieldFault → Told
field_told (InRecord fault) = record_told fault
field_told (OutOfOrder place) = tells 4 place Field
field_told BadSetting = tells 5 0 Field
field_told (NoSensor place) = tells 6 place Field
field_told (BadLink place) = tells 7 place Field
field_told (TooMany place) = tells 8 place Field
field_told (BadRow place) = tells 9 place Field
field_told (NoLink place) = tells 10 place Field

abbrev pub run_told : RunFault → Told
run_told (InField fault) = field_told fault
run_told ShortBuffer = tells 11 0 Run
run_told LastInstant = tells 12 0 Run
run_told NoNumber = tells 13 0 Run
run_told CopyLeft = tells 14 0 Run
run_told NoRoom = tells 15 0 Run
