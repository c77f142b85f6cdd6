-- The cases in which what is in memory is no field, each a test at a place; a list of them is their order. Assumes nothing.
use Rattle.std.specs.Prelude.{ℕ, ◌+◌, max, Bool, false, cond, not, ◌&&◌, ◌||◌, List, [], ◌∷◌, length, is_some, Some, None, Ok, Err, Option, Result, ◌==◌, nat_lt}
use Rattle.std.specs.List.{slice_get}
use Rattle.std.specs.Result.{result_and}
use Rattle.refusal.specs.declared.FieldFault.{FieldFault}
use Rattle.refusal.specs.declared.FieldFault.TheVariants.{NoSensor, BadLink, TooMany, BadRow, NoLink}
use Rattle.search.specs.Lowest.{lowest, looked_for}
use Rattle.numbering.specs.Meaning.{Meaning}
use Rattle.field.specs.declared.Link.{Link}
use Rattle.field.specs.declared.Loss.{Loss}
use Rattle.field.specs.declared.Row.{Row}
use Rattle.field.specs.declared.Settings.{Settings}
use Rattle.field.specs.declared.Stage.{Stage}
use Rattle.field.specs.Rows.{damage_keeps, row_keeps, ends_within, link_keeps, joins, sender_byte}
use Rattle.vetting.specs.declared.cases.MemoryCase.{MemoryCase}
use Rattle.vetting.specs.declared.cases.MemoryCase.TheVariants.{Sensors, Links, Count, Rows, Losses}
use Rattle.vetting.specs.declared.memory.InMemory.{InMemory}
use Rattle.vetting.specs.declared.named.Named.{Named}
use Rattle.vetting.specs.declared.named.Named.TheVariants.{Nothing, Sensor, Damaged}

-- a test of the item at a place, which does not hold where there is none
abbrev pub holds_at : {A : Type 0} → (A → Bool) → List A → ℕ → Bool
holds_at test items k = elim (slice_get items k) [ None ↦ false | Some x ↦ test x ]

-- one of the first k links goes from one sensor to the other
abbrev pub linked : List Link → ℕ → ℕ → ℕ → Bool
linked links k from to = is_some (lowest (holds_at (λ link. joins link from to) links) k)

-- the sensor that a call names, if it names one
abbrev pub named_sensor : {Num : Type 0} → Named Num → Option ℕ
named_sensor Nothing = None
named_sensor (Sensor sensor) = Some sensor
named_sensor (Damaged damage) = Some damage.sensor

-- the places up to that sensor
abbrev pub named_places : {Num : Type 0} → Named Num → ℕ
named_places named = elim (named_sensor named) [ None ↦ 0 | Some sensor ↦ sensor + 1 ]

-- What is seen of a field in memory at a stage. Of links those that are told are seen, and how many are told; where no sender byte is
-- looked at, none is seen.
pub record Seen (Num : Type 0) : Type 0 where
  pub numbering : Meaning Num
  pub settings : Settings
  pub stage : Stage
  pub rows : List (Row Num)
  pub senders : List ℕ
  pub links : List Link
  pub count : ℕ
  pub losses : List Loss
  pub named : Named Num

module _ {Num : Type 0} (seen : Seen Num) where
  abbrev pub missing : ℕ → Bool
  missing sensor = not (nat_lt sensor seen.settings.n)

  -- 6: an end of a link or of a loss is n or more, or the sensor that the call names
  abbrev pub names_none : ℕ → Bool
  names_none k = elim (named_sensor seen.named) [ None ↦ false | Some sensor ↦ k == sensor && missing sensor ]

  abbrev pub no_sensor : ℕ → Bool
  no_sensor k =
      holds_at (λ link. not (ends_within seen.settings.n link.from link.to)) seen.links k
      || (holds_at (λ loss. not (ends_within seen.settings.n loss.from loss.to)) seen.losses k || names_none k)

  -- 7: a link breaks its limits, or repeats an earlier one, where that is looked for
  abbrev pub bad_link : Bool → ℕ → Bool
  bad_link repeats k = holds_at (λ link. not (link_keeps link) || (repeats && linked seen.links k link.from link.to)) seen.links k

  -- 8: a 1,025th link is told, or there is a 257th loss
  abbrev pub too_many : ℕ → Bool
  too_many k = (k == 1024 && nat_lt 1024 seen.count) || (k == 256 && nat_lt 256 (length seen.losses))

  -- 9: a row breaks its limits at this stage, or its sender byte is another, or what a damage would write there breaks them
  abbrev pub bad_byte : ℕ → Bool
  bad_byte k = holds_at (λ row. holds_at (λ byte. not (byte == sender_byte row)) seen.senders k) seen.rows k

  abbrev pub bad_damage : Named Num → ℕ → Bool
  bad_damage Nothing k = false
  bad_damage (Sensor sensor) k = false
  bad_damage (Damaged damage) k = k == damage.sensor && not (damage_keeps seen.numbering seen.settings damage)

  abbrev pub breaks_limits : ℕ → Bool
  breaks_limits k = holds_at (λ row. not (row_keeps seen.numbering seen.settings seen.stage k row)) seen.rows k

  abbrev pub bad_row : ℕ → Bool
  bad_row k = breaks_limits k || (bad_byte k || bad_damage seen.named k)

  -- 10: a loss names a pair without a link
  abbrev pub no_link : ℕ → Bool
  no_link k = holds_at (λ loss. not (linked seen.links (length seen.links) loss.from loss.to)) seen.losses k

  -- how many places each case has, and its test at a place
  abbrev pub case_places : MemoryCase → ℕ
  case_places Sensors = max (max (length seen.links) (length seen.losses)) (named_places seen.named)
  case_places (Links repeats) = length seen.links
  case_places Count = 1025
  case_places Rows = seen.settings.n
  case_places Losses = length seen.losses

  abbrev pub case_at : MemoryCase → ℕ → Bool
  case_at Sensors = no_sensor
  case_at (Links repeats) = bad_link repeats
  case_at Count = too_many
  case_at Rows = bad_row
  case_at Losses = no_link

abbrev pub case_fault : MemoryCase → ℕ → FieldFault
case_fault Sensors k = NoSensor k
case_fault (Links repeats) k = BadLink k
case_fault Count k = TooMany k
case_fault Rows k = BadRow k
case_fault Losses k = NoLink k

module _ {Num : Type 0} (seen : Seen Num) where
  -- one case looked for everywhere
  unfoldable pub fault_in : MemoryCase → Result (Unit {0}) FieldFault
  fault_in case = looked_for (case_fault case) (case_places seen case) (case_at seen case)

  -- Each case is looked for everywhere before the next.
  abbrev pub first_fault : List MemoryCase → Result (Unit {0}) FieldFault
  first_fault [] = Ok tt
  first_fault (case ∷ cases) = result_and (fault_in case) (first_fault cases)

-- what the code's own value shows, by the meaning of its numbering
abbrev pub seen_in : {N Num : Type 0} → (N → Meaning Num) → InMemory N Num → Seen Num
seen_in meaning memory = record {
  numbering = meaning memory.rules.numbering.now;
  settings = memory.rules.settings;
  stage = memory.stage;
  rows = memory.rows.now;
  senders = memory.senders.now;
  links = memory.links.now;
  count = memory.count;
  losses = memory.losses.now;
  named = memory.named;
}

-- a case that is not looked for at places
abbrev pub declines_where : {Fault : Type 0} → Bool → Fault → Result (Unit {0}) Fault
declines_where holds fault = cond holds (Err fault) (Ok tt)
