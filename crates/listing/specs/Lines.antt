-- A field file as a listing: a line for each record. Assumes nothing.
use Rattle.std.specs.Prelude.{ℕ, zero, suc, cond, List, [], ◌++◌, Some, None, codes, decimal, Option, ◌==◌, nat_le}
use Rattle.field.specs.declared.Link.{Link}
use Rattle.field.specs.declared.Loss.{Loss}
use Rattle.records.specs.declared.Kind.TheVariants.{Link as LinkKind, Loss as LossKind, Play as PlayKind}
use Rattle.records.specs.Records.{byte, two_bytes, four_bytes, is_kind}
use Rattle.checking.specs.Cases.{mark_at, link_at}
use Rattle.reading.specs.Items.{loss_at}

abbrev pub numbering_name : ℕ → List ℕ
numbering_name code = cond (code == 0) (codes "free") (cond (code == 1) (codes "linear") (cond (code == 2) (codes "circular") (codes "differentiated")))

abbrev pub mark_words : Option ℕ → List ℕ
mark_words None = codes "none"
mark_words (Some hop) = decimal hop

-- the settings, with the numbering's code and smax
unfoldable pub field_line : ℕ → ℕ → ℕ → ℕ → ℕ → ℕ → ℕ → List ℕ
field_line code smax n hmax tmax f seed =
    codes "field " ++ (numbering_name code ++ (codes " smax " ++ (decimal smax ++ (codes " sensors " ++ (decimal n ++ (codes " hmax " ++ (decimal hmax ++ (codes " tmax " ++ (decimal tmax ++ (codes " f " ++ (decimal f ++ (codes " seed " ++ (decimal seed ++ codes "\n")))))))))))))

-- a row, or a damage, after its first word
unfoldable pub row_line : List ℕ → ℕ → ℕ → ℕ → Option ℕ → List ℕ
row_line word sensor timer value mark =
    word ++ (codes " " ++ (decimal sensor ++ (codes " timer " ++ (decimal timer ++ (codes " holds " ++ (decimal value ++ (codes " mark " ++ (mark_words mark ++ codes "\n"))))))))

unfoldable pub link_line : Link → List ℕ
link_line link = codes "link " ++ (decimal link.from ++ (codes " to " ++ (decimal link.to ++ (codes " label " ++ (decimal link.label ++ codes "\n")))))

unfoldable pub loss_line : Loss → List ℕ
loss_line loss = codes "loss " ++ (decimal loss.from ++ (codes " to " ++ (decimal loss.to ++ (codes " at " ++ (decimal loss.instant ++ codes "\n")))))

unfoldable pub play_line : ℕ → List ℕ
play_line budget = codes "play " ++ (decimal budget ++ codes "\n")

module _ (file : List ℕ) where
  abbrev pub head_line : List ℕ
  head_line = field_line (byte file 0 1) (byte file 0 5) (byte file 0 2) (byte file 0 3) (byte file 0 4) (two_bytes file 0 6) (four_bytes file 0 8)

  abbrev pub sensor_line : List ℕ → ℕ → List ℕ
  sensor_line word k = row_line word (byte file k 1) (two_bytes file k 4) (four_bytes file k 8) (mark_at file k)

  -- record 0 is the field, records 1 to n are its rows, and a sensor's record after them is a damage
  abbrev pub record_line : ℕ → List ℕ
  record_line k =
      cond (k == 0) head_line
      (cond (nat_le k (byte file 0 2)) (sensor_line (codes "sensor") k)
      (cond (is_kind file k LinkKind) (link_line (link_at file k)) (cond (is_kind file k LossKind) (loss_line (loss_at file k)) (cond (is_kind file k PlayKind) (play_line (four_bytes file k 4)) (sensor_line (codes "damage") k)))))

  -- the lines of the first records
  unfoldable pub lines : ℕ → List ℕ
  lines zero = []
  lines (suc k) = lines k ++ record_line k
