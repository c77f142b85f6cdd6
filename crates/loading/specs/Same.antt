-- When bytes load as a field that is given. Assumes nothing.
use Rattle.std.specs.Prelude.{◌≡◌, ℕ, ◌+◌, ◌≤◌, true, List, ◌++◌, length, take, drop, Ok, Option}
use Rattle.field.specs.declared.Act.{Act}
use Rattle.field.specs.declared.Link.{Link}
use Rattle.field.specs.declared.Loss.{Loss}
use Rattle.field.specs.declared.Row.{Row}
use Rattle.field.specs.declared.Settings.{Settings}
use Rattle.filed.specs.Codes.{code_keeps, lawful_value}
use Rattle.filed.specs.Values.{lawful_of}
use Rattle.numbering.specs.Meaning.{Meaning}
use Rattle.recording.specs.Bytes.{field_bytes}
use Rattle.vetting.specs.Vetted.{vetted}
use Rattle.sections.specs.Parts.{row_records, link_records, loss_records, act_records}
use Rattle.checking.specs.Cases.{file_checked, file_code, file_smax}
use Rattle.loading.specs.declared.counts.Counts.{Counts}
use Rattle.loading.specs.Kept.{FilesSettings}
use Rattle.loading.specs.Loads.{counted, rows_filled, links_filled, losses_filled, acts_filled}

-- in every buffer that is long enough a filling puts exactly these items in front, and leaves the rest
abbrev pub Fills : {A : Type 0} → (List A → List A) → List A → Type 0
Fills {A} filling items = (buffer : List A) → length items ≤ length buffer → filling buffer ≡ items ++ drop (length items) buffer

abbrev pub counts_are : ℕ → ℕ → ℕ → ℕ → Counts
counts_are rows links losses acts = record { rows = rows; links = links; losses = losses; acts = acts }

-- Loading gives of these bytes exactly this field. They pass the check, they say this code, this smax and these settings,
-- and what is counted and filled are the first n rows, the links, the losses and the acts, each in its order.
pub record LoadsAs {Num : Type 0} (of : ℕ → Option Num) (code smax : ℕ) (s : Settings) (rows : List (Row Num)) (links : List Link) (losses : List Loss) (acts : List (Act Num)) (file : List ℕ) : Type 0 where
  pub passes : file_checked file ≡ Ok tt
  pub code_is : file_code file ≡ code
  pub smax_is : file_smax file ≡ smax
  pub settings : FilesSettings file s
  pub counts : counted file ≡ counts_are s.n (length links) (length losses) (length acts)
  pub rows_fill : Fills (rows_filled of (row_records file)) (take s.n rows)
  pub links_fill : Fills (links_filled (link_records file)) links
  pub losses_fill : Fills (losses_filled (loss_records file)) losses
  pub acts_fill : Fills (acts_filled of (act_records file)) acts

module _ {Num : Type 0} (m : Meaning Num) (of : ℕ → Option Num) where
  -- a numbering is in a file by this code and this smax: they keep their limits, and its lawful numbers are theirs
  pub record FiledBy (code smax : ℕ) : Type 0 where
    pub keeps : code_keeps code smax ≡ true
    pub values : (v : ℕ) → lawful_value code smax v ≡ lawful_of m of v

  -- Behind each field that can be written by the same rules, these bytes load as that field with these acts, where both
  -- together are not too long for a file.
  abbrev pub LoadBehind : (Num → ℕ) → Settings → List (Act Num) → List ℕ → Type 0
  LoadBehind worth s acts bytes =
      (code smax : ℕ) (rows : List (Row Num)) (links : List Link) (losses : List Loss)
      → FiledBy code smax → vetted m s rows links losses ≡ Ok tt → length (field_bytes worth code smax s rows links losses) + length bytes ≤ 48000
      → LoadsAs of code smax s rows links losses acts (field_bytes worth code smax s rows links losses ++ bytes)
