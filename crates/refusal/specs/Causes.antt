-- What each refusal of a file says is wrong, case by case. Assumes nothing.
use Rattle.std.specs.Prelude.{ℕ, List, codes}
use Rattle.refusal.specs.declared.FieldFault.{FieldFault}
use Rattle.refusal.specs.declared.FieldFault.TheVariants.{Record, OutOfOrder, BadSetting, NoSensor, BadLink, TooMany, BadRow, NoLink}
use Rattle.refusal.specs.declared.RecordFault.{RecordFault}
use Rattle.refusal.specs.declared.RecordFault.TheVariants.{BadLength, UnknownKind, NotZero}

abbrev pub record_cause : RecordFault → List ℕ
record_cause BadLength = codes "the file is longer than 48,000 bytes or no multiple of 12"
record_cause (UnknownKind place) = codes "its kind is none of F, S, L, X and P"
record_cause (NotZero place) = codes "a byte that must be zero is not"

abbrev pub cause : FieldFault → List ℕ
cause (Record fault) = record_cause fault
cause (OutOfOrder place) = codes "a record is missing here, or stands out of order"
cause BadSetting = codes "a setting, the numbering's code or its smax breaks its limit"
cause (NoSensor place) = codes "there is no such sensor"
cause (BadLink place) = codes "the link has equal ends, goes into sensor 0, has a label above 100, or repeats an earlier one"
cause (TooMany place) = codes "there are over 1,024 links or 256 losses"
cause (BadRow place) = codes "the timer, the mark or the number breaks its limit"
cause (NoLink place) = codes "the loss names a pair without a link"
