-- That floods settle bites. The theorem is applied to two small runs, where what it says stands beside what is computed; and with C − 1
-- in place of the catch-up count C, or G + 1 in place of the patience G, what it says is false. Assumes nothing.
use Rattle.std.specs.Prelude.{◌≡◌, ℕ, suc, ◌+◌, ◌-◌, true, List, [], ◌∷◌, ◌++◌, map, None, Some, Ok, Option, slice_get}
use Rattle.std.proofs.Common.{arith}
use Rattle.air.specs.Airs.{losses_carry}
use Rattle.air.specs.Delays.{KeepsPeriods, slowest_period}
use Rattle.field.specs.declared.Link.{Link}
use Rattle.field.specs.declared.Loss.{Loss}
use Rattle.field.specs.declared.Row.{Row}
use Rattle.field.specs.declared.Settings.{Settings}
use Rattle.flood.specs.declared.hearing.Verdict.{Verdict}
use Rattle.flood.specs.declared.hearing.Verdict.TheVariants.{Refused, Forwards}
use Rattle.history.specs.Calls.{begun}
use Rattle.history.specs.Floods.{Flood, floods_told, without_first, flood_at, verdicts_of}
use Rattle.history.specs.Histories.{history}
use Rattle.history.specs.Histories.Call.{Play}
use Rattle.history.specs.Settled.{AcceptsFirst, BeginsUnmarked, CarryNumber, NoneMissed, LatestHeard, HoldsLatest, AcceptsAfter, SettledFloods, catch_up}
use Rattle.history.specs.Worked.{Asked, between, link_of, row_of, senders, settings}
use Rattle.history.specs.Worlds.{Lent, World, field_of}
use Rattle.numbering.specs.Four.{circular, circular_catch_up, differentiated, half}
use Rattle.numbering.specs.Meaning.{Meaning}

-- A flood begins each 3 instants, and a sensor forwards in the instant after the one in which it heard.
abbrev pub quick : Settings
quick = record settings {
  tmax = 1;
  f = 3;
  tmax_least = omega arith;
  tmax_most = omega arith;
  f_least = omega arith;
  f_most = omega arith;
}

-- sensor 1 hears the base, and then sensor 2, which hears the base, too
abbrev pub links : List Link
links = link_of 0 1 ∷ link_of 0 2 ∷ link_of 2 1 ∷ []

-- sensor 1 misses the flood that begins at this instant: both copies of it are lost
abbrev pub missed_at : ℕ → List Loss
missed_at instant = record { from = 0; to = 1; instant = instant } ∷ record { from = 2; to = 1; instant = suc instant } ∷ []

-- A run: its numbering, the number that all three hold at first, the copies that are lost, and how many instants are played.
pub record Run : Type 0 where
  pub numbering : Meaning ℕ
  pub held : ℕ
  pub losses : List Loss
  pub instants : ℕ

module _ (run : Run) where
  abbrev pub lent : Lent ℕ
  lent = record {
    field = field_of run.numbering quick links 3;
    period = slowest_period;
    carries = losses_carry run.losses (λ instant link links senders. true);
  }

  abbrev pub rows : List (Row ℕ)
  rows = row_of 1 run.held ∷ row_of 1 run.held ∷ row_of 1 run.held ∷ []

  abbrev pub start : World ℕ
  start = record (between 3 rows senders 0) { settings = quick }

  unfoldable pub floods : List (Flood ℕ)
  floods = without_first (floods_told (history lent (Play run.instants 100 ∷ []) start).events)

-- of each flood, the latest first, its number and the verdicts on the copies that sensor 1 heard, the latest first, too
abbrev pub hearings : List (Flood ℕ) → List (ℕ × List Verdict)
hearings = map (λ flood. (flood.number, verdicts_of 1 flood.copies))

-- What a run comes to by computation: what sensor 1 and the base hold just before the first flood, what sensor 1 heard, and C; and at
-- the flood at place C, what sensor 1 holds just before, the place of the latest that it heard, and the verdicts on the copies it hears.
pub record Comes : Type 0 where
  pub own : ℕ
  pub base : ℕ
  pub heard : List (ℕ × List Verdict)
  pub count : ℕ
  pub held : ℕ
  pub latest : ℕ
  pub verdicts : List Verdict

-- The theorem at a run that comes to this, under a patience G and a catch-up count C.
pub record Bites (run : Run) (G : ℕ) (C : ℕ → ℕ → ℕ) (comes : Comes) : Type 0 where
  pub begins : begun (lent run).field (rows run) senders ≡ Ok (start run)
  pub periods_keep : KeepsPeriods slowest_period
  -- By computation all that is asked is met at the flood at place C,
  pub heard : hearings (floods run) ≡ comes.heard
  pub asked : Asked run.numbering 3 (floods run) G C 1 comes.count comes.verdicts
  pub own : asked.followed.own.held ≡ comes.own
  pub base : asked.followed.base.held ≡ comes.base
  pub count : catch_up asked.followed ≡ comes.count
  pub holds : asked.row.held ≡ comes.held
  pub marks : map (λ row. row.mark) asked.flood.before ≡ None ∷ None ∷ None ∷ []
  pub numbers : map (λ copy. copy.number) asked.flood.copies ≡ map (λ copy. asked.flood.number) asked.flood.copies
  -- so the floods settle, by the theorem,
  pub settled : SettledFloods run.numbering 3 (floods run)
  pub holds_latest : HoldsLatest (floods run) 1 G comes.count
  pub accepts_after : AcceptsAfter (floods run) 1 G comes.count
  -- which at that flood says (a), (b) and (c):
  pub alone : BeginsUnmarked 3 asked.flood × CarryNumber asked.flood.number asked.flood.copies
  pub latest : LatestHeard (floods run) 1 comes.count comes.held
  pub accepts_first : AcceptsFirst comes.verdicts
  -- the latest that it heard is the one that it is by computation
  pub latest_at : latest.0 ≡ comes.latest

-- Sensor 1 misses the first flood of all, and so is out of step, and of those that count the first and the fourth.
abbrev pub in_circular : Run
in_circular = record { numbering = circular 4; held = 4; losses = missed_at 1 ++ missed_at 4 ++ missed_at 13; instants = 20 }

-- It misses the first flood of all, and the first of those that count.
abbrev pub in_differentiated : Run
in_differentiated = record { numbering = differentiated 2; held = 2; losses = missed_at 1 ++ missed_at 4; instants = 11 }

-- It is in step, and misses the first two of those that count.
abbrev pub two_missed : Run
two_missed = record { numbering = differentiated 2; held = 2; losses = missed_at 4 ++ missed_at 7; instants = 11 }

-- what a sensor holds just before the flood at a place
abbrev pub held_before : List (Flood ℕ) → ℕ → ℕ → Option ℕ
held_before floods k sensor = elim (flood_at floods k) [ None ↦ None | Some flood ↦ elim (slice_get flood.before sensor) [ None ↦ None | Some row ↦ Some row.held ] ]

-- what (b) and (c) ask of a flood at a place, at any G
pub record Reached (floods : List (Flood ℕ)) (G k : ℕ) : Type 0 where
  pub none_missed : NoneMissed floods 1 G k
  pub flood : Flood ℕ
  pub row : Row ℕ
  pub there : flood_at floods k ≡ Some flood
  pub row_there : slice_get flood.before 1 ≡ Some row

abbrev pub less_than_C : ℕ
less_than_C = circular_catch_up 4 - 1

-- At C − 1 (b) is false of the very floods of which it is true at C: 4 is still held where 3 was heard last.
pub record TightCount : Type 0 where
  pub reached : Reached (floods in_circular) (half 4) less_than_C
  pub holds : reached.row.held ≡ 4
  pub heard : LatestHeard (floods in_circular) 1 less_than_C 3
  pub another : LatestHeard (floods in_circular) 1 less_than_C reached.row.held → ⊥
  pub tight : HoldsLatest (floods in_circular) 1 (half 4) less_than_C → ⊥

abbrev pub more_than_G : ℕ
more_than_G = 2 + 1

-- At G + 1, with C kept, (c) is false: by a sensor that held what the base did no 3 in a row are missed, and it refuses the flood at
-- place C, which is 2.
pub record TightPatience : Type 0 where
  pub own : held_before (floods two_missed) 0 1 ≡ Some 0
  pub base : held_before (floods two_missed) 0 0 ≡ Some 0
  pub reached : Reached (floods two_missed) more_than_G 2
  pub heard : hearings (floods two_missed) ≡ (0, Refused ∷ Refused ∷ []) ∷ (2, []) ∷ (1, []) ∷ []
  pub none_missed : NoneMissed (floods two_missed) 1 more_than_G 3
  pub refuses : AcceptsFirst (verdicts_of 1 reached.flood.copies) → ⊥
  pub tight : AcceptsAfter (floods two_missed) 1 more_than_G 2 → ⊥

-- In both runs sensor 1 refuses what it hears until it has caught up, and hears the flood at place C.
pub record SettlingBites : Type 0 where
  pub circular : Bites in_circular (half 4) (λ x b. circular_catch_up 4) (record {
    own = 4;
    base = 0;
    heard =
        (1, Refused ∷ Forwards ∷ [])
        ∷ (0, Refused ∷ Forwards ∷ [])
        ∷ (4, [])
        ∷ (3, Refused ∷ Refused ∷ [])
        ∷ (2, Refused ∷ Refused ∷ [])
        ∷ (1, [])
        ∷ [];
    count = 5;
    held = 0;
    latest = 4;
    verdicts = Refused ∷ Forwards ∷ [];
  })
  pub differentiated : Bites in_differentiated 2 (λ x b. 2) (record {
    own = 2;
    base = 0;
    heard = (0, Refused ∷ Forwards ∷ []) ∷ (2, Refused ∷ Refused ∷ []) ∷ (1, []) ∷ [];
    count = 2;
    held = 2;
    latest = 1;
    verdicts = Refused ∷ Forwards ∷ [];
  })
  pub tight_count : TightCount
  pub tight_patience : TightPatience
