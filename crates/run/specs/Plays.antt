-- What play answers, and what its log holds. Assumes nothing.
use Rattle.std.specs.Prelude.{◌≡◌, ℕ, ◌+◌, ◌-◌, List, ◌++◌, length, take, drop, Ok, Err, Result}
use Rattle.history.specs.Plays.{Played as PlayedOut, Went, copies_in, copies_taken, instant_gone, tried}
use Rattle.history.specs.Plays.Tried.{Ends, Done}
use Rattle.history.specs.Calls.{world_closed}
use Rattle.history.specs.Worlds.{Lent as Given, World, told_links}
use Rattle.history.specs.declared.Ending.{Ending}
use Rattle.history.specs.declared.TakenCopy.{TakenCopy}
use Rattle.run.specs.declared.play.Played.{Played}

-- a log with copies in front; behind them it is as it was
abbrev pub in_front : {Num : Type 0} → List (TakenCopy Num) → List (TakenCopy Num) → List (TakenCopy Num)
in_front log copies = copies ++ drop (length copies) log

-- the same from a row on
abbrev pub logged : {Num : Type 0} → List (TakenCopy Num) → ℕ → List (TakenCopy Num) → List (TakenCopy Num)
logged log used copies = take used log ++ copies ++ drop (used + length copies) log

-- What play answers, where the run stands then, and what its log holds.
pub record PlayAnswer (Num : Type 0) : Type 0 where
  pub instants : ℕ
  pub rows : ℕ
  pub ending : Ending
  pub world : World Num
  pub log : List (TakenCopy Num)

-- all copies from where an open instant stands
abbrev pub all_copies : {Num : Type 0} → Given Num → World Num → Went Num
all_copies lent = copies_taken lent (length (told_links lent.field))

module _ {Num : Type 0} where
  -- by its definition: the copies stand in front, and behind them what the log held
  abbrev pub played_out : List (TakenCopy Num) → PlayedOut Num → PlayAnswer Num
  played_out log p = record {
    instants = p.instants;
    rows = length (copies_in p.events);
    ending = p.ending;
    world = p.world;
    log = in_front log (copies_in p.events);
  }

  abbrev pub played_as : Played → World Num → List (TakenCopy Num) → PlayAnswer Num
  played_as played world log = record { instants = played.instants; rows = played.rows; ending = played.ending; world = world; log = log }

  -- All copies of an open instant taken with so many rows used: they are logged, and the run closes as it does behind them.
  pub record CarriedAll (lent : Given Num) (used : ℕ) (start after : World Num) (log logs : List (TakenCopy Num)) (rows : ℕ) : Type 0 where
    pub closes : world_closed lent.field (all_copies lent start).world ≡ world_closed lent.field after
    pub logs_copies : logs ≡ logged log used (copies_in (all_copies lent start).events)
    pub counts : rows ≡ used + length (copies_in (all_copies lent start).events)

  -- The same up to the close.
  pub record ClosedAll (lent : Given Num) (used : ℕ) (start after : World Num) (log logs : List (TakenCopy Num)) (rows : ℕ) : Type 0 where
    pub closed : after ≡ world_closed lent.field (all_copies lent start).world
    pub logs_copies : logs ≡ logged log used (copies_in (all_copies lent start).events)
    pub counts : rows ≡ used + length (copies_in (all_copies lent start).events)

  -- A whole instant, from where a run stood before it.
  pub record InstantPlayed (lent : Given Num) (used : ℕ) (world after : World Num) (log logs : List (TakenCopy Num)) (rows : ℕ) : Type 0 where
    pub stands : after ≡ (instant_gone lent world).world
    pub logs_copies : logs ≡ logged log used (copies_in (instant_gone lent world).events)
    pub counts : rows ≡ used + length (copies_in (instant_gone lent world).events)

  -- An instant that was tried with so many rows used: it is done, its copies logged; or play ends before it, and nothing changed.
  pub record WasDone (lent : Given Num) (used : ℕ) (world after : World Num) (log logs : List (TakenCopy Num)) (rows : ℕ) : Type 0 where
    pub went : Went Num
    pub done : tried lent (length log - used) world ≡ Done went
    pub stands : after ≡ went.world
    pub logs_copies : logs ≡ logged log used (copies_in went.events)
    pub counts : rows ≡ used + length (copies_in went.events)

  pub record WasNot (lent : Given Num) (used : ℕ) (world after : World Num) (log logs : List (TakenCopy Num)) (ending : Ending) : Type 0 where
    pub ends : tried lent (length log - used) world ≡ Ends ending
    pub stands : after ≡ world
    pub log_stays : logs ≡ log

  abbrev pub Tries : Given Num → ℕ → World Num → World Num → List (TakenCopy Num) → List (TakenCopy Num) → Result ℕ Ending → Type 0
  Tries lent used world after log logs (Ok rows) = WasDone lent used world after log logs rows
  Tries lent used world after log logs (Err ending) = WasNot lent used world after log logs ending
