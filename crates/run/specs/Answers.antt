-- What a call answers, and where the run stands then, by what its definition gives. Assumes nothing.
use Rattle.std.specs.Prelude.{ℕ, suc, List, Some, None, Ok, Err, Option, Result}
use Rattle.std.specs.Result.{result_map_both}
use Rattle.field.specs.declared.Row.{Row}
use Rattle.history.specs.Calls.{AfterCopy}
use Rattle.history.specs.Worlds.{World}
use Rattle.history.specs.declared.TakenCopy.{TakenCopy}
use Rattle.refusal.specs.declared.RunFault.{RunFault}
use Rattle.run.specs.declared.lending.Lent.{Lent}
use Rattle.run.specs.declared.states.Declined.{Declined}
use Rattle.run.specs.declared.states.Idle.{Idle}
use Rattle.run.specs.declared.states.Instant.{Instant}
use Rattle.run.specs.Standing.{between, within}

pub record Answered (Num A : Type 0) : Type 0 where
  pub answer : Result A RunFault
  pub world : World Num

abbrev pub answered : {Num A : Type 0} → Result A RunFault → World Num → Answered Num A
answered answer world = record { answer = answer; world = world }

module _ {Num : Type 0} where
  -- a granted call moves a run on, and a declined one changes nothing
  abbrev pub moved : World Num → Result (World Num) RunFault → Answered Num (Unit {0})
  moved world (Ok next) = answered (Ok tt) next
  moved world (Err fault) = answered (Err fault) world

  abbrev pub taken_on : World Num → Result (Option (AfterCopy Num)) RunFault → Answered Num (Option (TakenCopy Num))
  taken_on world (Ok None) = answered (Ok None) world
  taken_on world (Ok (Some next)) = answered (Ok (Some next.copy)) next.world
  taken_on world (Err fault) = answered (Err fault) world

  -- the position in the links behind a place, where a copy went over it
  abbrev pub onward : ℕ → Option (TakenCopy Num) → ℕ
  onward place None = place
  onward place (Some copy) = suc place

-- What begin answers, and what rows and bytes hold then.
pub record Beginning (Num : Type 0) : Type 0 where
  pub answer : Result (World Num) RunFault
  pub rows : List (Row Num)
  pub senders : List ℕ

-- a run that begins stands where its definition says, and a refusal alters neither rows nor bytes
abbrev pub began : {Num : Type 0} → List (Row Num) → List ℕ → Result (World Num) RunFault → Beginning Num
began rows senders (Ok world) = record { answer = Ok world; rows = world.rows; senders = world.senders }
began rows senders (Err fault) = record { answer = Err fault; rows = rows; senders = senders }

module _ {N D A Num : Type 0} (lent : Lent N D A Num) where
  -- what the code's own answers say
  abbrev pub opened_as : Result Instant (Declined Idle) → Answered Num (Unit {0})
  opened_as (Ok run) = answered (Ok tt) (within run lent)
  opened_as (Err declined) = answered (Err declined.fault) (between declined.run lent)

  abbrev pub begun_as : Result Idle RunFault → Beginning Num
  begun_as result = record { answer = result_map_both (λ run. between run lent) (λ fault. fault) result; rows = lent.rows.now; senders = lent.senders.now }

  abbrev pub closed_as : Result Idle (Declined Instant) → Answered Num (Unit {0})
  closed_as (Ok run) = answered (Ok tt) (between run lent)
  closed_as (Err declined) = answered (Err declined.fault) (within declined.run lent)

-- the moved run back, whole, where a call declines
abbrev pub or_back : {Run A : Type 0} → Run → Result A RunFault → Result A (Declined Run)
or_back run (Ok x) = Ok x
or_back run (Err fault) = Err (record { run = run; fault = fault })
