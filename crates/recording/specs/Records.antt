-- The bytes of each record. Assumes nothing.
use Rattle.std.specs.Prelude.{ℕ, ◌/◌, ◌%◌, List, [], ◌∷◌, Some, None, Option}
use Rattle.field.specs.declared.Act.{Act}
use Rattle.field.specs.declared.Act.TheVariants.{Play, Damage as Damages}
use Rattle.field.specs.declared.Link.{Link}
use Rattle.field.specs.declared.Loss.{Loss}
use Rattle.field.specs.declared.Row.{Row}
use Rattle.field.specs.declared.Settings.{Settings}
use Rattle.recording.specs.declared.plain.Head.{Head}
use Rattle.recording.specs.declared.plain.Sensor.{Sensor}

-- numbers are big-endian
abbrev pub with_two : ℕ → List ℕ → List ℕ
with_two n rest = n / 256 ∷ n % 256 ∷ rest

abbrev pub with_four : ℕ → List ℕ → List ℕ
with_four n rest = with_two (n / 65536) (with_two (n % 65536) rest)

abbrev pub zero_tail : List ℕ
zero_tail = 0 ∷ 0 ∷ 0 ∷ 0 ∷ []

-- an absent mark is 255
abbrev pub mark_byte : Option ℕ → ℕ
mark_byte None = 255
mark_byte (Some hop) = hop

-- the first record: F, the numbering's code, n, hmax, tmax, the numbering's smax, f, and the seed
abbrev pub head_bytes : Head → List ℕ
head_bytes head = 70 ∷ head.code ∷ head.n ∷ head.hmax ∷ head.tmax ∷ head.smax ∷ with_two head.f (with_four head.seed [])

abbrev pub head_of : ℕ → ℕ → Settings → Head
head_of code smax s = record { code = code; smax = smax; n = s.n; hmax = s.hmax; tmax = s.tmax; f = s.f; seed = s.seed }

abbrev pub head_record : ℕ → ℕ → Settings → List ℕ
head_record code smax s = head_bytes (head_of code smax s)

-- a row or a damage: S, the sensor, its mark, its timer and the value of the number that it holds
abbrev pub sensor_record : ℕ → Option ℕ → ℕ → ℕ → List ℕ
sensor_record sensor mark timer value = 83 ∷ sensor ∷ mark_byte mark ∷ 0 ∷ with_two timer (0 ∷ 0 ∷ with_four value [])

abbrev pub sensor_bytes : Sensor → List ℕ
sensor_bytes s = sensor_record s.sensor s.mark s.timer s.value

abbrev pub link_record : Link → List ℕ
link_record link = 76 ∷ link.from ∷ link.to ∷ link.label ∷ 0 ∷ 0 ∷ 0 ∷ 0 ∷ zero_tail

-- a letter, two bytes, and a number of four in the middle
abbrev pub middle_record : ℕ → ℕ → ℕ → ℕ → List ℕ
middle_record letter first second number = letter ∷ first ∷ second ∷ 0 ∷ with_four number zero_tail

abbrev pub loss_record : Loss → List ℕ
loss_record loss = middle_record 88 loss.from loss.to loss.instant

abbrev pub play_record : ℕ → List ℕ
play_record budget = middle_record 80 0 0 budget

module _ {Num : Type 0} (worth : Num → ℕ) where
  abbrev pub row_record : ℕ → Row Num → List ℕ
  row_record sensor row = sensor_record sensor row.mark row.timer (worth row.held)

  abbrev pub act_record : Act Num → List ℕ
  act_record (Play budget) = play_record budget
  act_record (Damages damage) = sensor_record damage.sensor damage.mark damage.timer (worth damage.held)
