-- What every call of a run is given, and where a run stands. Assumes nothing.
use Rattle.std.specs.Prelude.{ℕ, List, take, Option}
use Rattle.air.specs.Airs.{Carrying}
use Rattle.field.specs.declared.Link.{Link}
use Rattle.field.specs.declared.Row.{Row}
use Rattle.field.specs.declared.Settings.{Settings}
use Rattle.numbering.specs.Meaning.{Meaning}
use Rattle.history.specs.declared.taking.Counts.{Counts}

-- The field that is played: its numbering and settings, the links that are lent, and how many of them begin was told.
pub record Field (Num : Type 0) : Type 0 where
  pub numbering : Meaning Num
  pub settings : Settings
  pub links : List Link
  pub count : ℕ

abbrev pub field_of : {Num : Type 0} → Meaning Num → Settings → List Link → ℕ → Field Num
field_of numbering settings links count = record { numbering = numbering; settings = settings; links = links; count = count }

-- What lies past the told count is not looked at.
abbrev pub told_links : {Num : Type 0} → Field Num → List Link
told_links field = take field.count field.links

-- All that each call of one run is given, the same each time: the field, a delay rule and an air.
pub record Lent (Num : Type 0) : Type 0 where
  pub field : Field Num
  pub period : ℕ → ℕ → ℕ → ℕ
  pub carries : Carrying

-- Where a run stands: the settings and the told count that begin was given, the rows and sender bytes that are lent, the instants
-- that have been opened, the position in the links while an instant is open, and what has been counted.
pub record World (Num : Type 0) : Type 0 where
  pub settings : Settings
  pub count : ℕ
  pub rows : List (Row Num)
  pub senders : List ℕ
  pub instant : ℕ
  pub position : Option ℕ
  pub counts : Counts
