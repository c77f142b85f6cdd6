-- What a run has counted, by what has happened in it. Assumes nothing.
use Rattle.std.specs.Prelude.{◌≡◌, ◌+◌, Bool, true, false, not, List, Ok, count_by}
use Rattle.flood.specs.declared.hearing.Verdict.{Verdict}
use Rattle.history.specs.Calls.{finishing}
use Rattle.history.specs.Floods.{hears, accepts, refuses}
use Rattle.history.specs.Histories.{InEveryRun}
use Rattle.history.specs.Plays.{Event}
use Rattle.history.specs.Plays.Event.{Damages, Opens, Begins, Takes}
use Rattle.history.specs.Worlds.{Field, World}
use Rattle.history.specs.declared.taking.Counts.{Counts}

module _ {Num : Type 0} where
  -- an instant opened
  abbrev pub opens : Event Num → Bool
  opens Damages = false
  opens Opens = true
  opens (Begins number rows) = false
  opens (Takes copy) = false

  -- a flood began
  abbrev pub begins : Event Num → Bool
  begins Damages = false
  begins Opens = false
  begins (Begins number rows) = true
  begins (Takes copy) = false

  -- a copy was taken, with such a verdict
  abbrev pub takes : (Verdict → Bool) → Event Num → Bool
  takes test Damages = false
  takes test Opens = false
  takes test (Begins number rows) = false
  takes test (Takes copy) = test copy.verdict

  -- Each count is the number of such events, and each copy has one of the three verdicts, where one that was forwarded is accepted.
  pub record Counted (counts : Counts) (events : List (Event Num)) : Type 0 where
    pub instants : counts.instants ≡ count_by opens events
    pub floods : counts.floods ≡ count_by begins events
    pub copies : counts.copies ≡ count_by (takes (λ verdict. true)) events
    pub lost : counts.lost ≡ count_by (takes (λ verdict. not (hears verdict))) events
    pub refused : counts.refused ≡ count_by (takes refuses) events
    pub accepted : counts.accepted ≡ count_by (takes accepts) events
    pub each_once : counts.copies ≡ counts.lost + counts.refused + counts.accepted

-- In every run its counts are those of what has happened in it, and so are those that finish answers.
unfoldable pub CountsTell : {Num : Type 0} → Field Num → World Num → Type 0
CountsTell field start =
    InEveryRun field start (λ lent went.
    Counted went.world.counts went.events × ((counts : Counts) → finishing lent.field went.world ≡ Ok counts → Counted counts went.events))
