-- A worked field, and a longer play of it in which floods settle something. Assumes nothing.
use Rattle.std.specs.Prelude.{◌≡◌, ℕ, ◌≤◌, true, List, [], ◌∷◌, map, length, slice_get, Some, None, Ok}
use Rattle.std.proofs.Common.{arith}
use Rattle.air.specs.Airs.{collisions_carry}
use Rattle.air.specs.Delays.{KeepsPeriods, slowest_period}
use Rattle.field.specs.declared.Link.{Link}
use Rattle.field.specs.declared.Row.{Row}
use Rattle.field.specs.declared.Settings.{Settings}
use Rattle.flood.specs.declared.hearing.Verdict.{Verdict}
use Rattle.flood.specs.declared.hearing.Verdict.TheVariants.{Refused, Accepted, Forwards}
use Rattle.history.specs.Calls.{begun, none_yet}
use Rattle.history.specs.Floods.{Flood, floods_told, without_first, flood_at, verdicts_of}
use Rattle.history.specs.Histories.{history}
use Rattle.history.specs.Histories.Call.{Play}
use Rattle.history.specs.Plays.{copies_in, playing}
use Rattle.history.specs.Settled.{NoneMissed, Followed, catch_up}
use Rattle.history.specs.Worlds.{Lent, World, field_of}
use Rattle.history.specs.declared.taking.Ending.TheVariants.{BudgetSpent}
use Rattle.history.specs.declared.taking.TakenCopy.{TakenCopy}
use Rattle.numbering.specs.Four.{differentiated}
use Rattle.numbering.specs.Meaning.{Meaning}

abbrev pub row_of : ℕ → ℕ → Row ℕ
row_of timer held = record { timer = timer; held = held; mark = None; outgoing = None }

abbrev pub link_of : ℕ → ℕ → Link
link_of from to = record { from = from; to = to; label = 100 }

abbrev pub settings : Settings
settings = record {
  n = 3;
  hmax = 2;
  tmax = 2;
  f = 5;
  seed = 0;
  n_least = omega arith;
  n_most = omega arith;
  hmax_least = omega arith;
  hmax_most = omega arith;
  tmax_least = omega arith;
  tmax_most = omega arith;
  f_least = omega arith;
  f_most = omega arith;
}

-- the slowest delays, and an air that carries every copy but where copies collide
abbrev pub lent_with : Meaning ℕ → List Link → ℕ → Lent ℕ
lent_with numbering links count = record {
  field = field_of numbering settings links count;
  period = slowest_period;
  carries = collisions_carry (λ instant link links senders. true);
}

-- so with differentiated of smax 2, where all links are told
abbrev pub lent : List Link → Lent ℕ
lent links = lent_with (differentiated 2) links (length links)

-- sensor 1 hears the base, and sensors 1 and 2 hear each other
abbrev pub links : List Link
links = link_of 0 1 ∷ link_of 1 2 ∷ link_of 2 1 ∷ []

abbrev pub rows : List (Row ℕ)
rows = row_of 1 0 ∷ row_of 2 1 ∷ row_of 1 0 ∷ []

abbrev pub senders : List ℕ
senders = 0 ∷ 0 ∷ 0 ∷ []

-- between instants, with so many links told, and nothing counted
abbrev pub between : ℕ → List (Row ℕ) → List ℕ → ℕ → World ℕ
between count rows senders instant = record {
  settings = settings;
  count = count;
  rows = rows;
  senders = senders;
  instant = instant;
  position = None;
  counts = none_yet;
}

abbrev pub first : ℕ → World ℕ
first count = between count rows senders 0

abbrev pub copy_of : ℕ → ℕ → ℕ → ℕ → ℕ → Verdict → TakenCopy ℕ
copy_of instant from to hop number verdict = record { instant = instant; from = from; to = to; hop = hop; number = number; verdict = verdict }

pub record Worked : Type 0 where
  pub begins : begun (lent links).field rows senders ≡ Ok (first 3)
  -- three copies in the first 8 instants
  pub logs : copies_in (playing (lent links) 8 3 (first 3)).events ≡ copy_of 1 0 1 2 1 Refused ∷ copy_of 6 0 1 2 2 Forwards ∷ copy_of 8 1 2 1 2 Accepted ∷ []
  pub plays : (playing (lent links) 8 3 (first 3)).instants ≡ 8
  pub ends : (playing (lent links) 8 3 (first 3)).ending ≡ BudgetSpent

-- What is asked of a sensor and a flood at a place before floods are said to settle there, with patience G and catch-up count C,
-- and the verdicts on the copies that it heard of that flood.
pub record Asked {Num : Type 0} (m : Meaning Num) (n : ℕ) (floods : List (Flood Num)) (G : ℕ) (C : Num → Num → ℕ) (sensor k : ℕ) (verdicts : List Verdict) : Type 0 where
  pub followed : Followed m n floods G C sensor
  pub none_missed : NoneMissed floods sensor G (catch_up followed)
  pub late : catch_up followed ≤ k
  pub none_missed_since : NoneMissed floods sensor G k
  pub flood : Flood Num
  pub row : Row Num
  pub there : flood_at floods k ≡ Some flood
  pub row_there : slice_get flood.before sensor ≡ Some row
  pub heard : verdicts_of sensor flood.copies ≡ verdicts

-- sensor 2 hears the base, too
abbrev pub more_links : List Link
more_links = link_of 0 2 ∷ links

unfoldable pub floods : List (Flood ℕ)
floods = without_first (floods_told (history (lent more_links) (Play 21 100 ∷ []) (first 4)).events)

-- That floods settle is not said of nothing: 21 instants have four floods after the first, which is C = 2 and two more, and
-- sensor 1, which is asked all that is asked, accepts a copy and refuses another.
pub record NotVacuous : Type 0 where
  pub begins : begun (lent more_links).field rows senders ≡ Ok (first 4)
  pub periods_keep : KeepsPeriods slowest_period
  pub numbers : map (λ flood. flood.number) floods ≡ 2 ∷ 1 ∷ 0 ∷ 2 ∷ []
  -- at the end of the first C, and in the flood after
  pub third : Asked (differentiated 2) 3 floods 2 (λ x b. 2) 1 2 (Refused ∷ Forwards ∷ [])
  pub fourth : Asked (differentiated 2) 3 floods 2 (λ x b. 2) 1 3 (Forwards ∷ [])
