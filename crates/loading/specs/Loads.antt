-- A field file, and what the buffers hold that are filled from it. Assumes nothing.
use Rattle.std.specs.Prelude.{◌≡◌, ℕ, Bool, cond, ◌&&◌, List, ◌++◌, length, take, Some, Ok, Err, Option, Result, nat_le}
use Rattle.refusal.specs.declared.FieldFault.{FieldFault}
use Rattle.refusal.specs.declared.RunFault.{RunFault}
use Rattle.refusal.specs.declared.RunFault.TheVariants.{ShortBuffer}
use Rattle.field.specs.declared.Act.{Act}
use Rattle.field.specs.declared.Link.{Link}
use Rattle.field.specs.declared.Loss.{Loss}
use Rattle.field.specs.declared.Row.{Row}
use Rattle.field.specs.declared.Settings.{Settings}
use Rattle.filling.specs.Filled.{filled}
use Rattle.reading.specs.Items.{row_at, loss_at, act_at}
use Rattle.recording.specs.Bytes.{field_bytes, act_bytes}
use Rattle.records.specs.Records.{records}
use Rattle.sections.specs.Parts.{row_records, link_records, loss_records, act_records}
use Rattle.checking.specs.Cases.{link_at, file_checked}
use Rattle.loading.specs.declared.counts.Counts.{Counts}
use Rattle.loading.specs.declared.field_file.FieldFile.{FieldFile}
use Rattle.loading.specs.declared.field_file.FieldFile.TheVariants.{Free, Linear, Circular, Differentiated}

-- the counts of four rows of records
abbrev pub counts_of : List ℕ → List ℕ → List ℕ → List ℕ → Counts
counts_of rows links losses acts = record { rows = records rows; links = records links; losses = records losses; acts = records acts }

-- the room in four buffers
abbrev pub lent : {A B C D : Type 0} → List A → List B → List C → List D → Counts
lent rows links losses acts = record { rows = length rows; links = length links; losses = length losses; acts = length acts }

-- no buffer is shorter than the field
abbrev pub within : Counts → Counts → Bool
within counts room = (nat_le counts.rows room.rows && nat_le counts.links room.links) && (nat_le counts.losses room.losses && nat_le counts.acts room.acts)

abbrev pub roomy : Counts → Counts → Result Counts RunFault
roomy counts room = cond (within counts room) (Ok counts) (Err ShortBuffer)

module _ (file : List ℕ) where
  -- how many rows, links, losses and acts it has
  abbrev pub counted : Counts
  counted = counts_of (row_records file) (link_records file) (loss_records file) (act_records file)

-- the bytes of a field file, whatever its numbering
abbrev pub bytes_of : FieldFile → List ℕ
bytes_of (Free f) = f.file.now
bytes_of (Linear f) = f.file.now
bytes_of (Circular f) = f.file.now
bytes_of (Differentiated f) = f.file.now

-- a field file where bytes pass every case, and else the fault of the first that holds
abbrev pub Checks : List ℕ → Result FieldFile FieldFault → Type 0
Checks file (Ok f) = (file_checked file ≡ Ok tt) × (bytes_of f ≡ file)
Checks file (Err fault) = file_checked file ≡ Err fault

-- what each buffer holds once it is filled from records: their items in front, and then what it had
abbrev pub rows_filled : {Num : Type 0} → (ℕ → Option Num) → List ℕ → List (Row Num) → List (Row Num)
rows_filled of rows = filled (row_at of rows) (records rows)

abbrev pub links_filled : List ℕ → List Link → List Link
links_filled links = filled (λ k. Some (link_at links k)) (records links)

abbrev pub losses_filled : List ℕ → List Loss → List Loss
losses_filled losses = filled (λ k. Some (loss_at losses k)) (records losses)

abbrev pub acts_filled : {Num : Type 0} → (ℕ → Option Num) → List ℕ → List (Act Num) → List (Act Num)
acts_filled of acts = filled (act_at of acts) (records acts)

-- a buffer that is filled where all four are long enough, and else stays
abbrev pub if_filled : {A : Type 0} → Result Counts RunFault → List A → List A → List A
if_filled (Ok counts) new old = new
if_filled (Err fault) new old = old

-- what was filled, written, is the file
abbrev pub Returned : {Num : Type 0} → List ℕ → (Num → ℕ) → ℕ → ℕ → Settings → List (Row Num) → List Link → List Loss → List (Act Num) → Result Counts RunFault → Type 0
Returned file worth code smax s rows links losses acts (Ok counts) = field_bytes worth code smax s rows (take counts.links links) (take counts.losses losses) ++ act_bytes worth (take counts.acts acts) ≡ file
Returned file worth code smax s rows links losses acts (Err fault) = Unit {0}
