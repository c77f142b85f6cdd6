-- Rows that are called damages, and damages that are called rows. Assumes nothing.
use Rattle.std.specs.Prelude.{ℕ, Bool, false, List, length, Some, Option, nat_le, nat_lt}
use Rattle.std.specs.List.{slice_get}
use Rattle.search.specs.Lowest.{lowest}
use Rattle.entries.specs.declared.entry.Entry.{Entry}
use Rattle.entries.specs.declared.entry.Entry.TheVariants.{Field, Row, Damage}

-- how many rows the first line says
abbrev pub rows_of : Option Entry → ℕ
rows_of (Some (Field head)) = head.n
rows_of other = 0

abbrev pub rows_said : List Entry → ℕ
rows_said entries = rows_of (slice_get entries 0)

-- entries 1 to n are rows, and what names a sensor past them is a damage
abbrev pub misnamed_as : ℕ → ℕ → Option Entry → Bool
misnamed_as rows k (Some (Row sensor)) = nat_lt rows k
misnamed_as rows k (Some (Damage sensor)) = nat_le k rows
misnamed_as rows k other = false

abbrev pub misnamed_at : List Entry → ℕ → Bool
misnamed_at entries k = misnamed_as (rows_said entries) k (slice_get entries k)

-- the first entry whose first word is that of the other
unfoldable pub first_misnamed : List Entry → Option ℕ
first_misnamed entries = lowest (misnamed_at entries) (length entries)
