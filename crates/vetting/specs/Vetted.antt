-- What is looked for in a field before it is written. Assumes nothing.
use Rattle.std.specs.Prelude.{true, List, [], ◌∷◌, length, Result, nat_lt}
use Rattle.std.specs.Result.{result_and}
use Rattle.refusal.specs.Carried.{in_field}
use Rattle.refusal.specs.declared.RunFault.{RunFault}
use Rattle.refusal.specs.declared.RunFault.TheVariants.{ShortBuffer}
use Rattle.numbering.specs.Meaning.{Meaning}
use Rattle.field.specs.declared.Link.{Link}
use Rattle.field.specs.declared.Loss.{Loss}
use Rattle.field.specs.declared.Row.{Row}
use Rattle.field.specs.declared.Settings.{Settings}
use Rattle.field.specs.declared.Stage.TheVariants.{Between}
use Rattle.vetting.specs.declared.cases.MemoryCase.{MemoryCase}
use Rattle.vetting.specs.declared.cases.MemoryCase.TheVariants.{Sensors, Links, Count, Rows, Losses}
use Rattle.vetting.specs.declared.named.Named.TheVariants.{Nothing}
use Rattle.vetting.specs.Cases.{Seen, declines_where, first_fault}

-- the cases of a field that is to be written, in their order
abbrev pub of_drafts : List MemoryCase
of_drafts = Sensors ∷ Links true ∷ Count ∷ Rows ∷ Losses ∷ []

module _ {Num : Type 0} (m : Meaning Num) (s : Settings) (rows : List (Row Num)) (links : List Link) (losses : List Loss) where
  -- a field between instants; no byte is looked at
  abbrev pub drafted : Seen Num
  drafted = record {
    numbering = m;
    settings = s;
    stage = Between;
    rows = rows;
    senders = [];
    links = links;
    count = length links;
    losses = losses;
    named = Nothing;
  }

  -- what is there is looked at before 11 is told
  abbrev pub vetted : Result (Unit {0}) RunFault
  vetted = result_and (in_field (first_fault drafted of_drafts)) (declines_where (nat_lt (length rows) s.n) ShortBuffer)
