-- The cases in which a file is refused: each a test at a place. Assumes nothing.
use Rattle.std.specs.Prelude.{ℕ, ◌+◌, ◌-◌, ◌%◌, Bool, cond, not, ◌&&◌, ◌||◌, List, length, is_some, Some, None, Ok, Err, Option, Result, ◌==◌, nat_le, nat_lt}
use Rattle.std.specs.Result.{result_and}
use Rattle.records.specs.declared.Kind.{Kind as RecordKind}
use Rattle.records.specs.declared.Kind.TheVariants.{Field, Sensor, Link, Loss, Play}
use Rattle.records.specs.Records.{records, byte, two_bytes, four_bytes, is_kind}
use Rattle.refusal.specs.declared.FieldFault.{FieldFault}
use Rattle.refusal.specs.declared.FieldFault.TheVariants.{Record, OutOfOrder, BadSetting, NoSensor, BadLink, TooMany, BadRow, NoLink}
use Rattle.refusal.specs.declared.RecordFault.{RecordFault}
use Rattle.refusal.specs.declared.RecordFault.TheVariants.{BadLength, UnknownKind, NotZero}
use Rattle.search.specs.Lowest.{lowest, looked_for}
use Rattle.checking.specs.declared.cases.FieldCase.{FieldCase}
use Rattle.checking.specs.declared.cases.FieldCase.TheVariants.{Order, Setting, Ends, Links, Count, Rows, Losses}
use Rattle.checking.specs.declared.cases.RecordCase.{RecordCase}
use Rattle.checking.specs.declared.cases.RecordCase.TheVariants.{Length, Kind, Zero}
use Rattle.field.specs.declared.Link.{Link as Linked}
use Rattle.field.specs.Making.{Made}
use Rattle.field.specs.declared.Settings.{Settings}
use Rattle.field.specs.SettingLimits.{settings_keep}
use Rattle.field.specs.Rows.{clock_keeps, ends_within, link_keeps, joins}
use Rattle.filed.specs.Codes.{code_keeps, lawful_value}

module _ (file : List ℕ) where
  -- 1: longer than 48,000 bytes, or no multiple of 12
  abbrev pub bad_length : Bool
  bad_length = nat_lt 48000 (length file) || not (length file % 12 == 0)

  -- 2: the kind byte is none of the five letters
  abbrev pub unknown_kind : ℕ → Bool
  unknown_kind k = not (is_kind file k Field) && (not (is_kind file k Sensor) && (not (is_kind file k Link) && (not (is_kind file k Loss) && not (is_kind file k Play))))

  abbrev pub zeros : ℕ → ℕ → Bool
  zeros k at = byte file k at == 0

  -- the last four bytes, which only F and S use
  abbrev pub zero_tail : ℕ → Bool
  zero_tail k = zeros k 8 && (zeros k 9 && (zeros k 10 && zeros k 11))

  abbrev pub sensor_zeros : ℕ → Bool
  sensor_zeros k = zeros k 3 && (zeros k 6 && zeros k 7)

  abbrev pub link_zeros : ℕ → Bool
  link_zeros k = zeros k 4 && (zeros k 5 && (zeros k 6 && (zeros k 7 && zero_tail k)))

  abbrev pub loss_zeros : ℕ → Bool
  loss_zeros k = zeros k 3 && zero_tail k

  abbrev pub play_zeros : ℕ → Bool
  play_zeros k = zeros k 1 && (zeros k 2 && (zeros k 3 && zero_tail k))

  -- 3: a byte that must be zero is not, by the record's own kind
  abbrev pub not_zero : ℕ → Bool
  not_zero k =
      (is_kind file k Sensor && not (sensor_zeros k))
      || ((is_kind file k Link && not (link_zeros k)) || ((is_kind file k Loss && not (loss_zeros k)) || (is_kind file k Play && not (play_zeros k))))

  -- the settings that record 0 writes
  abbrev pub file_code : ℕ
  file_code = byte file 0 1

  abbrev pub file_n : ℕ
  file_n = byte file 0 2

  abbrev pub file_hmax : ℕ
  file_hmax = byte file 0 3

  abbrev pub file_tmax : ℕ
  file_tmax = byte file 0 4

  abbrev pub file_smax : ℕ
  file_smax = byte file 0 5

  abbrev pub file_f : ℕ
  file_f = two_bytes file 0 6

  -- Past the rows come links, then losses, then plays and damages: what stands before says whether a record may follow.
  abbrev pub misplaced : ℕ → Bool
  misplaced k =
      is_kind file k Field
      || ((is_kind file k Link && not (k == file_n + 1 || is_kind file (k - 1) Link))
      || (is_kind file k Loss && not (k == file_n + 1 || (is_kind file (k - 1) Link || is_kind file (k - 1) Loss))))

  -- 4: record 0 is F, records 1 to n are the rows of sensors 0 to n − 1, and the others follow in their order; a missing record's place is where it should stand
  abbrev pub out_of_order : ℕ → Bool
  out_of_order k =
      cond (nat_le (records file) k) (nat_le k file_n)
      (cond (k == 0) (not (is_kind file k Field))
      (cond (nat_le k file_n) (not (is_kind file k Sensor && byte file k 1 == k - 1)) (misplaced k)))

  -- the settings that record 0 writes, or the refusal
  abbrev pub SettingsIn : Result Settings FieldFault → Type 0
  SettingsIn = Made file_n file_hmax file_tmax file_f (four_bytes file 0 8)

  -- 5: a setting breaks its limit
  abbrev pub bad_setting : Bool
  bad_setting = not (settings_keep file_n file_hmax file_tmax file_f && code_keeps file_code file_smax)

  -- 6: a sensor index is n or more
  abbrev pub no_sensor : ℕ → Bool
  no_sensor k =
      ((is_kind file k Link || is_kind file k Loss) && not (ends_within file_n (byte file k 1) (byte file k 2)))
      || (is_kind file k Sensor && not (nat_lt (byte file k 1) file_n))

  abbrev pub link_at : ℕ → Linked
  link_at k = record { from = byte file k 1; to = byte file k 2; label = byte file k 3 }

  -- record k is a link from one sensor to the other
  abbrev pub links : ℕ → ℕ → ℕ → Bool
  links from to k = is_kind file k Link && joins (link_at k) from to

  -- one of the first k records is
  abbrev pub linked : ℕ → ℕ → ℕ → Bool
  linked k from to = is_some (lowest (links from to) k)

  -- 7: a link breaks its limits, or repeats an earlier one
  abbrev pub bad_link : ℕ → Bool
  bad_link k = is_kind file k Link && (not (link_keeps (link_at k)) || linked k (byte file k 1) (byte file k 2))

  -- one more than so many of a kind; those of a kind stand together
  abbrev pub outnumbers : ℕ → RecordKind → ℕ → Bool
  outnumbers k kind most = is_kind file k kind && (nat_le most k && is_kind file (k - most) kind)

  -- 8: a 1,025th link or a 257th loss
  abbrev pub too_many : ℕ → Bool
  too_many k = outnumbers k Link 1024 || outnumbers k Loss 256

  -- a mark byte of 255 is an absent mark
  abbrev pub mark_at : ℕ → Option ℕ
  mark_at k = cond (byte file k 2 == 255) None (Some (byte file k 2))

  -- a sensor record's timer and mark, and its number, keep their limits
  abbrev pub clock_at : ℕ → Bool
  clock_at k = clock_keeps file_hmax file_tmax file_f (byte file k 1) (two_bytes file k 4) (mark_at k)

  abbrev pub number_at : ℕ → Bool
  number_at k = lawful_value file_code file_smax (four_bytes file k 8)

  -- 9: a row, or what a damage would make of one, breaks its limits
  abbrev pub bad_row : ℕ → Bool
  bad_row k = is_kind file k Sensor && not (clock_at k && number_at k)

  -- 10: a loss names a pair without a link
  abbrev pub no_link : ℕ → Bool
  no_link k = is_kind file k Loss && not (linked (records file) (byte file k 1) (byte file k 2))

  -- the cases of records, with how many places each has, the test at a place, and the fault
  abbrev pub record_places : RecordCase → ℕ
  record_places Length = 1
  record_places Kind = records file
  record_places Zero = records file

  abbrev pub record_at : RecordCase → ℕ → Bool
  record_at Length k = bad_length
  record_at Kind k = unknown_kind k
  record_at Zero k = not_zero k

  -- the same of the cases of a field
  abbrev pub field_places : FieldCase → ℕ
  field_places Order = records file + 1
  field_places Setting = 1
  field_places Ends = records file
  field_places Links = records file
  field_places Count = records file
  field_places Rows = records file
  field_places Losses = records file

  abbrev pub field_at : FieldCase → ℕ → Bool
  field_at Order k = out_of_order k
  field_at Setting k = bad_setting
  field_at Ends k = no_sensor k
  field_at Links k = bad_link k
  field_at Count k = too_many k
  field_at Rows k = bad_row k
  field_at Losses k = no_link k

abbrev pub record_fault : RecordCase → ℕ → RecordFault
record_fault Length k = BadLength
record_fault Kind k = UnknownKind k
record_fault Zero k = NotZero k

abbrev pub field_fault : FieldCase → ℕ → FieldFault
field_fault Order k = OutOfOrder k
field_fault Setting k = BadSetting
field_fault Ends k = NoSensor k
field_fault Links k = BadLink k
field_fault Count k = TooMany k
field_fault Rows k = BadRow k
field_fault Losses k = NoLink k

-- one case looked for everywhere
unfoldable pub record_case : List ℕ → RecordCase → Result (Unit {0}) RecordFault
record_case file case = looked_for (record_fault case) (record_places file case) (record_at file case)

unfoldable pub field_case : List ℕ → FieldCase → Result (Unit {0}) FieldFault
field_case file case = looked_for (field_fault case) (field_places file case) (field_at file case)

-- Each case is looked for everywhere before the next.
abbrev pub records_checked : List ℕ → Result (Unit {0}) RecordFault
records_checked file = result_and (record_case file Length) (result_and (record_case file Kind) (record_case file Zero))

abbrev pub fields_checked : List ℕ → Result (Unit {0}) FieldFault
fields_checked file =
    result_and (field_case file Order) (result_and (field_case file Setting) (result_and (field_case file Ends) (result_and (field_case file Links) (result_and (field_case file Count) (result_and (field_case file Rows) (field_case file Losses))))))

-- the whole check of a file
abbrev pub in_record : Result (Unit {0}) RecordFault → Result (Unit {0}) FieldFault
in_record (Ok t) = Ok t
in_record (Err fault) = Err (Record fault)

abbrev pub file_checked : List ℕ → Result (Unit {0}) FieldFault
file_checked file = result_and (in_record (records_checked file)) (fields_checked file)
