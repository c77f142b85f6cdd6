-- What writing a run's field as it stands answers, and what the page then holds. Assumes nothing.
use Rattle.std.specs.Prelude.{ℕ, ◌||◌, List, [], length, Option, Result, nat_lt}
use Rattle.std.specs.Result.{result_and}
use Rattle.field.specs.declared.Loss.{Loss}
use Rattle.history.specs.Worlds.{Field, World, told_links}
use Rattle.loading.specs.Same.{LoadsAs}
use Rattle.recording.specs.Bytes.{field_bytes}
use Rattle.refusal.specs.Carried.{in_field}
use Rattle.refusal.specs.declared.RunFault.{RunFault}
use Rattle.refusal.specs.declared.RunFault.TheVariants.{ShortBuffer}
use Rattle.run.specs.declared.lending.Lent.{Lent}
use Rattle.vetting.specs.Cases.{declines_where, first_fault}
use Rattle.vetting.specs.Vetted.{drafted, of_drafts}
use Rattle.writing.specs.Answers.{write_answer, write_page}

-- What a file has of a numbering: its code and its smax, and its numbers by their values.
pub record Filing (Num : Type 0) : Type 0 where
  pub code : ℕ
  pub smax : ℕ
  pub of : ℕ → Option Num
  pub worth : Num → ℕ

abbrev pub filing_given : {N D A Num : Type 0} → (N → ℕ) → (N → ℕ) → (ℕ → Option Num) → (Num → ℕ) → Lent N D A Num → Filing Num
filing_given coded top of worth lent = record { code = coded lent.numbering.now; smax = top lent.numbering.now; of = of; worth = worth }

-- The field as it stands: its settings, the rows there are, the links that were told, and losses that are lent.
module _ {Num : Type 0} (field : Field Num) (world : World Num) (losses : List Loss) where
  -- 11: there are fewer rows than the field has sensors, or fewer links than were told
  abbrev pub short_to_write : Result (Unit {0}) RunFault
  short_to_write = declines_where (nat_lt (length world.rows) field.settings.n || nat_lt (length field.links) field.count) ShortBuffer

  -- What is there is looked at, each case everywhere before the next; then 11.
  abbrev pub write_checked : Result (Unit {0}) RunFault
  write_checked = result_and (in_field (first_fault (drafted field.numbering field.settings world.rows (told_links field) losses) of_drafts)) short_to_write

  module _ (filing : Filing Num) where
    -- its bytes
    abbrev pub standing_bytes : List ℕ
    standing_bytes = field_bytes filing.worth filing.code filing.smax field.settings world.rows (told_links field) losses

    -- loading gives it of these bytes
    abbrev pub LoadsAsItStands : List ℕ → Type 0
    LoadsAsItStands file = LoadsAs filing.of filing.code filing.smax field.settings world.rows (told_links field) losses [] file

    -- what writing on a page answers, and what the page then holds
    abbrev pub write_answers : List ℕ → Result ℕ RunFault
    write_answers page = write_answer write_checked standing_bytes page

    abbrev pub write_leaves : List ℕ → List ℕ
    write_leaves page = write_page write_checked standing_bytes page
