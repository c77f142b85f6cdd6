-- The parts of a file: rows, links, losses and acts, each a row of records. Assumes nothing.
use Rattle.std.specs.Prelude.{ℕ, ◌*◌, Bool, not, List, take, drop}
use Rattle.std.specs.Option.{unwrap_or}
use Rattle.records.specs.declared.Kind.{Kind}
use Rattle.records.specs.declared.Kind.TheVariants.{Link, Loss}
use Rattle.records.specs.Records.{records, byte, is_kind}
use Rattle.search.specs.Lowest.{lowest}

-- a record is of another kind
abbrev pub other_kind : List ℕ → Kind → ℕ → Bool
other_kind file kind k = not (is_kind file k kind)

-- how many records at the front are of a kind
unfoldable pub leading : List ℕ → Kind → ℕ
leading file kind = unwrap_or (lowest (other_kind file kind) (records file)) (records file)

-- the first records, and those after them
abbrev pub first_records : ℕ → List ℕ → List ℕ
first_records count file = take (12 * count) file

abbrev pub later_records : ℕ → List ℕ → List ℕ
later_records count file = drop (12 * count) file

module _ (file : List ℕ) where
  -- record 0 has n, the count of rows, which are the records after it
  abbrev pub past_head : List ℕ
  past_head = later_records 1 file

  abbrev pub row_records : List ℕ
  row_records = first_records (byte file 0 2) past_head

  abbrev pub past_rows : List ℕ
  past_rows = later_records (byte file 0 2) past_head

  abbrev pub link_records : List ℕ
  link_records = first_records (leading past_rows Link) past_rows

  abbrev pub past_links : List ℕ
  past_links = later_records (leading past_rows Link) past_rows

  abbrev pub loss_records : List ℕ
  loss_records = first_records (leading past_links Loss) past_links

  -- plays and damages
  abbrev pub act_records : List ℕ
  act_records = later_records (leading past_links Loss) past_links
