-- The key of a field file. Assumes nothing.
use Rattle.std.specs.Prelude.{◌≡◌, ℕ, ◌+◌, List, None, Ok, Err, Option, replicate}
use Rattle.air.specs.Airs.{Carrying}
use Rattle.checking.specs.Cases.{file_checked}
use Rattle.field.specs.declared.Act.{Act}
use Rattle.field.specs.declared.Act.TheVariants.{Play}
use Rattle.field.specs.declared.Link.{Link}
use Rattle.field.specs.declared.Loss.{Loss}
use Rattle.field.specs.declared.Row.{Row}
use Rattle.field.specs.declared.Settings.{Settings}
use Rattle.history.specs.Calls.{beginning}
use Rattle.history.specs.Worlds.{Field, World, field_of}
use Rattle.loading.specs.Loads.{acts_filled, counted, links_filled, losses_filled, rows_filled}
use Rattle.numbering.specs.Meaning.{Meaning}
use Rattle.sections.specs.Parts.{act_records, link_records, loss_records, row_records}
use Rattle.answer_key.specs.Keys.{key_of, refusal_in_file}
use Rattle.answer_key.specs.Lines.{refusal_line}

-- what buffers hold before they are filled: some number, and else zeros
abbrev pub blank_row : {Num : Type 0} → Num → Row Num
blank_row number = record { timer = 0; held = number; mark = None; outgoing = None }

abbrev pub blank_link : Link
blank_link = record { from = 0; to = 0; label = 0 }

abbrev pub blank_loss : Loss
blank_loss = record { from = 0; to = 0; instant = 0 }

module _ (file : List ℕ) where
  -- the index of the record of the first act: before it stand the field's own record, and those of rows, links and losses
  abbrev pub first_act : ℕ
  first_act = let c = counted file in 1 + c.rows + c.links + c.losses

  abbrev pub file_links : List Link
  file_links = links_filled (link_records file) (replicate (counted file).links blank_link)

  abbrev pub file_losses : List Loss
  file_losses = losses_filled (loss_records file) (replicate (counted file).losses blank_loss)

  module _ {Num : Type 0} (of : ℕ → Option Num) (number : Num) where
    abbrev pub file_rows : List (Row Num)
    file_rows = rows_filled of (row_records file) (replicate (counted file).rows (blank_row number))

    abbrev pub file_acts : List (Act Num)
    file_acts = acts_filled of (act_records file) (replicate (counted file).acts (Play 0))

    module _ (m : Meaning Num) (s : Settings) where
      -- the field of the file, all of whose links are told
      abbrev pub file_field : Field Num
      file_field = field_of m s file_links (counted file).links

      -- where its run begins
      abbrev pub file_start : World Num
      file_start = beginning file_field file_rows (replicate s.n 0)

      -- The key: what the acts of the file come to, from there. A file that is no field has the line of its refusal alone.
      abbrev pub file_key : (Num → ℕ) → (ℕ → ℕ → ℕ → ℕ) → Carrying → List ℕ
      file_key worth period carries =
          elim (file_checked file) [
            | Ok checked ↦ key_of (record { field = file_field; period = period; carries = carries }) worth first_act file_acts file_start
            | Err fault ↦ refusal_line (refusal_in_file fault)
          ]

-- what is lent are the parts of a file, as blank buffers are filled from it
pub record LendsFile {Num : Type 0} (file : List ℕ) (s : Settings) (of : ℕ → Option Num) (number : Num) (rows : List (Row Num)) (links : List Link) (senders : List ℕ) : Type 0 where
  pub rows_are : rows ≡ file_rows file of number
  pub links_are : links ≡ file_links file
  pub senders_are : senders ≡ replicate s.n 0
