-- What an instant makes of rows and sender bytes, as it opens and as it ends. Assumes nothing.
use Rattle.std.specs.Prelude.{ℕ, zero, suc, Bool, cond, List, [], ◌∷◌, take, is_some, Some, None, Option, ◌==◌}
use Rattle.std.specs.List.{list_any, slice_get}
use Rattle.std.specs.Option.{unwrap_or}
use Rattle.numbering.specs.Meaning.{Meaning}
use Rattle.field.specs.declared.Row.{Row}
use Rattle.field.specs.declared.Settings.{Settings}
use Rattle.field.specs.Rows.{sender_byte}
use Rattle.flood.specs.Sensors.{base_opened, other_opened}

-- The first n items changed each by itself, with its place, which is counted from `place`; the others are as they were.
unfoldable pub changed : {A : Type 0} → (ℕ → A → A) → ℕ → ℕ → List A → List A
changed change place n [] = []
changed change place zero (x ∷ xs) = x ∷ xs
changed change place (suc n) (x ∷ xs) = change place x ∷ changed change (suc place) n xs

module _ {Num : Type 0} (m : Meaning Num) (s : Settings) (period : ℕ → ℕ → ℕ → ℕ) (instant : ℕ) where
  -- A sensor as an instant opens. The base stays as it is where it must send and no number follows: such an instant does not open.
  abbrev pub row_opened : ℕ → Row Num → Row Num
  row_opened sensor row = cond (sensor == 0) (unwrap_or (base_opened m s row) row) (other_opened (period s.tmax instant sensor) row)

  -- the rows once the instant is open
  abbrev pub opened : List (Row Num) → List (Row Num)
  opened = changed row_opened 0 s.n

-- one of the first n sensors has something to send
abbrev pub any_sends : {Num : Type 0} → ℕ → List (Row Num) → Bool
any_sends n rows = list_any (λ row. is_some row.outgoing) (take n rows)

-- the byte of a sensor, by its row; one without a row has nothing to send
abbrev pub byte_of : {Num : Type 0} → Option (Row Num) → ℕ
byte_of None = 0
byte_of (Some row) = sender_byte row

-- the sender bytes of an open instant, by its rows
abbrev pub sending : {Num : Type 0} → List (Row Num) → ℕ → List ℕ → List ℕ
sending rows = changed (λ sensor byte. byte_of (slice_get rows sensor)) 0

-- a row as an instant ends
abbrev pub row_closed : {Num : Type 0} → Row Num → Row Num
row_closed row = record { timer = row.timer; held = row.held; mark = row.mark; outgoing = None }

-- the rows once an instant is closed, and the sender bytes
abbrev pub closed : {Num : Type 0} → ℕ → List (Row Num) → List (Row Num)
closed = changed (λ sensor. row_closed) 0

abbrev pub silent : ℕ → List ℕ → List ℕ
silent = changed (λ sensor byte. 0) 0
