-- The cases that a call of a run looks for before all else, in their order and with their places. Assumes nothing.
use Rattle.std.specs.Prelude.{ℕ, true, false, ◌||◌, List, [], ◌∷◌, length, Result, nat_lt}
use Rattle.std.specs.Result.{result_and}
use Rattle.field.specs.declared.Row.{Row}
use Rattle.field.specs.declared.Stage.{Stage}
use Rattle.field.specs.declared.Stage.TheVariants.{Beginning}
use Rattle.refusal.specs.Carried.{in_field}
use Rattle.refusal.specs.declared.RunFault.{RunFault}
use Rattle.refusal.specs.declared.RunFault.TheVariants.{ShortBuffer}
use Rattle.vetting.specs.declared.MemoryCase.{MemoryCase}
use Rattle.vetting.specs.declared.MemoryCase.TheVariants.{Sensors, Links, Count, Rows}
use Rattle.vetting.specs.declared.Named.{Named}
use Rattle.vetting.specs.declared.Named.TheVariants.{Nothing}
use Rattle.vetting.specs.Cases.{Seen, declines_where, first_fault}
use Rattle.history.specs.Worlds.{Field, told_links}

-- the cases of every call, and those of begin, in their order
abbrev pub of_calls : List MemoryCase
of_calls = Sensors ∷ Links false ∷ Rows ∷ []

abbrev pub of_beginnings : List MemoryCase
of_beginnings = Sensors ∷ Links true ∷ Count ∷ Rows ∷ []

module _ {Num : Type 0} (field : Field Num) where
  -- what a call sees: of links those that were told, and no losses
  abbrev pub seen_at : Named Num → Stage → List (Row Num) → List ℕ → Seen Num
  seen_at named stage rows senders = record {
    numbering = field.numbering;
    settings = field.settings;
    stage = stage;
    rows = rows;
    senders = senders;
    links = told_links field;
    count = field.count;
    losses = [];
    named = named;
  }

  -- 11: a buffer is shorter than the field
  abbrev pub short_case : List (Row Num) → List ℕ → Result (Unit {0}) RunFault
  short_case rows senders =
      declines_where (nat_lt (length rows) field.settings.n || (nat_lt (length senders) field.settings.n || nat_lt (length field.links) field.count)) ShortBuffer

  -- What is there is looked at, each case everywhere before the next; then 11.
  unfoldable pub checked : Named Num → Stage → List (Row Num) → List ℕ → Result (Unit {0}) RunFault
  checked named stage rows senders = result_and (in_field (first_fault (seen_at named stage rows senders) of_calls)) (short_case rows senders)

  -- the same as a run begins, when no byte is looked at
  unfoldable pub checked_first : List (Row Num) → List ℕ → Result (Unit {0}) RunFault
  checked_first rows senders = result_and (in_field (first_fault (seen_at Nothing Beginning rows []) of_beginnings)) (short_case rows senders)
