-- Load, begin and write give a file's bytes before its first act. Assumes nothing.
use Rattle.std.specs.Prelude.{◌≡◌, ℕ, ◌+◌, ◌≤◌, List, length, take, Ok}
use Rattle.checking.specs.Cases.{file_checked, file_code, file_smax}
use Rattle.field.specs.declared.Link.{Link}
use Rattle.field.specs.declared.Loss.{Loss}
use Rattle.field.specs.declared.Row.{Row}
use Rattle.field.specs.declared.Settings.{Settings}
use Rattle.history.specs.Calls.{begun}
use Rattle.history.specs.Worlds.{Field, World, field_of, told_links}
use Rattle.loading.specs.Kept.{Bytes, FilesSettings}
use Rattle.loading.specs.Loads.{counted, rows_filled, links_filled, losses_filled}
use Rattle.numbering.specs.Meaning.{Meaning}
use Rattle.recording.specs.Bytes.{field_bytes}
use Rattle.sections.specs.Parts.{first_records, row_records, link_records, loss_records}
use Rattle.run.specs.Writing.{Filing, standing_bytes, write_checked}

-- What write gives as a run begins are the bytes of the field that begin was lent: what begin closes, outgoing messages, has no bytes.
abbrev pub WritesAsBegun : {Num : Type 0} → Filing Num → Type 0
WritesAsBegun {Num} filing =
    (field : Field Num) (rows : List (Row Num)) (senders : List ℕ) (losses : List Loss) (world : World Num)
    → begun field rows senders ≡ Ok world
    → standing_bytes field world losses filing ≡ field_bytes filing.worth filing.code filing.smax field.settings rows (told_links field) losses

-- A field file of the numbering that is filed so, with these settings.
pub record IsFile {Num : Type 0} (filing : Filing Num) (s : Settings) (file : List ℕ) : Type 0 where
  pub bytes : Bytes file
  pub passes : file_checked file ≡ Ok tt
  pub code_is : filing.code ≡ file_code file
  pub smax_is : filing.smax ≡ file_smax file
  pub settings : FilesSettings file s

-- its records before the first act: the field's own, and those of rows, links and losses
abbrev pub before_acts : List ℕ → List ℕ
before_acts file = let c = counted file in first_records (1 + c.rows + c.links + c.losses) file

-- Buffers that are long enough for it.
pub record LongEnough {Num : Type 0} (s : Settings) (file : List ℕ) (rows : List (Row Num)) (links : List Link) (losses : List Loss) (senders : List ℕ) : Type 0 where
  pub of_rows : (counted file).rows ≤ length rows
  pub of_links : (counted file).links ≤ length links
  pub of_losses : (counted file).losses ≤ length losses
  pub of_senders : s.n ≤ length senders

-- the field that is filled from it, of whose links as many are told as it has; its rows; and its losses
abbrev pub filled_field : {Num : Type 0} → Meaning Num → Settings → List ℕ → List Link → Field Num
filled_field m s file links = field_of m s (links_filled (link_records file) links) (counted file).links

abbrev pub filled_rows : {Num : Type 0} → Filing Num → List ℕ → List (Row Num) → List (Row Num)
filled_rows filing file rows = rows_filled filing.of (row_records file) rows

abbrev pub filled_losses : List ℕ → List Loss → List Loss
filled_losses file losses = take (counted file).losses (losses_filled (loss_records file) losses)

-- Begin is granted, write then finds nothing wrong, and what it gives is the file before its first act.
pub record GivesBack {Num : Type 0} (filing : Filing Num) (file : List ℕ) (field : Field Num) (rows : List (Row Num)) (senders : List ℕ) (losses : List Loss) : Type 0 where
  pub world : World Num
  pub begins : begun field rows senders ≡ Ok world
  pub passes : write_checked field world losses ≡ Ok tt
  pub bytes : standing_bytes field world losses filing ≡ before_acts file

-- So it is of every field file of a numbering, whatever the buffers hold before.
abbrev pub LoadBeginWrite : {Num : Type 0} → Meaning Num → Filing Num → Type 0
LoadBeginWrite {Num} m filing =
    (s : Settings) (file : List ℕ) → IsFile filing s file
    → (rows : List (Row Num)) (links : List Link) (losses : List Loss) (senders : List ℕ) → LongEnough s file rows links losses senders
    → GivesBack filing file (filled_field m s file links) (filled_rows filing file rows) senders (filled_losses file losses)

pub record WriteLaws {Num : Type 0} (m : Meaning Num) (filing : Filing Num) : Type 0 where
  pub as_begun : WritesAsBegun filing
  pub gives_back : LoadBeginWrite m filing
