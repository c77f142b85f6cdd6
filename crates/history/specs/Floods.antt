-- The floods of a run, from all that happened in it. Assumes nothing.
use Rattle.std.specs.Prelude.{ℕ, Bool, true, false, cond, not, ◌&&◌, List, [], ◌∷◌, length, Some, None, Option, ◌==◌}
use Rattle.std.specs.List.{list_any}
use Rattle.field.specs.declared.Row.{Row}
use Rattle.flood.specs.declared.hearing.Verdict.{Verdict}
use Rattle.flood.specs.declared.hearing.Verdict.TheVariants.{Lost, Refused, Accepted, Forwards}
use Rattle.history.specs.Plays.{Event}
use Rattle.history.specs.Plays.Event.{Damages, Opens, Begins, Takes}
use Rattle.history.specs.declared.taking.TakenCopy.{TakenCopy}

-- A flood: its number is the one that the base sent, `before` are the rows just before the open in which it began, and the copies
-- are those taken until the next flood began, the latest first; of the last flood, those taken so far.
pub record Flood (Num : Type 0) : Type 0 where
  pub number : Num
  pub before : List (Row Num)
  pub copies : List (TakenCopy Num)

-- A copy is heard unless it is lost.
abbrev pub hears : Verdict → Bool
hears Lost = false
hears Refused = true
hears Accepted = true
hears Forwards = true

-- A sensor accepts a copy if it forwards it, too.
abbrev pub accepts : Verdict → Bool
accepts Lost = false
accepts Refused = false
accepts Accepted = true
accepts Forwards = true

abbrev pub refuses : Verdict → Bool
refuses verdict = hears verdict && not (accepts verdict)

-- a fold over what happened, the earliest first
unfoldable pub through : {Num A : Type 0} → (A → Event Num → A) → A → List (Event Num) → A
through note before [] = before
through note before (event ∷ events) = through note (note before event) events

module _ {Num : Type 0} where
  -- a copy joins the latest flood, where one began
  abbrev pub joined : TakenCopy Num → List (Flood Num) → List (Flood Num)
  joined copy [] = []
  joined copy (flood ∷ floods) = record flood { copies = copy ∷ flood.copies } ∷ floods

  -- what becomes of the floods since the last damage, the latest first, with one thing more that happened: a damage leaves none
  abbrev pub noted : List (Flood Num) → Event Num → List (Flood Num)
  noted floods Damages = []
  noted floods Opens = floods
  noted floods (Begins number before) = record { number = number; before = before; copies = [] } ∷ floods
  noted floods (Takes copy) = joined copy floods

  -- The floods since the last damage, of all that happened since a run began, the latest first. A granted begin is a damage, so a run
  -- starts with none.
  abbrev pub floods_told : List (Event Num) → List (Flood Num)
  floods_told = through noted []

  -- the first of them left out
  unfoldable pub without_first : List (Flood Num) → List (Flood Num)
  without_first [] = []
  without_first (flood ∷ []) = []
  without_first (flood ∷ (earlier ∷ floods)) = flood ∷ without_first (earlier ∷ floods)

  -- The list has the latest first; flood k is the k-th in time, from 0.
  unfoldable pub flood_at : List (Flood Num) → ℕ → Option (Flood Num)
  flood_at [] k = None
  flood_at (flood ∷ floods) k = cond (k == length floods) (Some flood) (flood_at floods k)

  -- does a sensor hear a copy?
  abbrev pub hears_copy : ℕ → TakenCopy Num → Bool
  hears_copy sensor copy = copy.to == sensor && hears copy.verdict

  -- the verdicts on the copies of a flood that a sensor heard, the latest first
  unfoldable pub verdicts_of : ℕ → List (TakenCopy Num) → List Verdict
  verdicts_of sensor [] = []
  verdicts_of sensor (copy ∷ copies) = cond (hears_copy sensor copy) (copy.verdict ∷ verdicts_of sensor copies) (verdicts_of sensor copies)

  -- did a sensor hear a copy of it?
  unfoldable pub heard_by : ℕ → Flood Num → Bool
  heard_by sensor flood = list_any (hears_copy sensor) flood.copies
