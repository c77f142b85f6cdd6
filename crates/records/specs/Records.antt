-- A file as a row of records of 12 bytes. Assumes nothing.
use Rattle.std.specs.Prelude.{ℕ, ◌+◌, ◌*◌, ◌/◌, Bool, List, length, ◌==◌, slice_index}
use Rattle.records.specs.declared.kind.Kind.{Kind}
use Rattle.records.specs.Kinds.{letter}

-- how many whole records a file has
abbrev pub records : List ℕ → ℕ
records file = length file / 12

-- byte `at` of record k, and 0 where there is none
abbrev pub byte : List ℕ → ℕ → ℕ → ℕ
byte file k at = slice_index file (12 * k + at)

-- numbers are big-endian
abbrev pub two_bytes : List ℕ → ℕ → ℕ → ℕ
two_bytes file k at = 256 * byte file k at + byte file k (at + 1)

abbrev pub four_bytes : List ℕ → ℕ → ℕ → ℕ
four_bytes file k at = 65536 * two_bytes file k at + two_bytes file k (at + 2)

abbrev pub is_kind : List ℕ → ℕ → Kind → Bool
is_kind file k kind = byte file k 0 == letter kind
