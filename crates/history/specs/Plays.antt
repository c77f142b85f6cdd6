-- What play makes of where a run stands. Assumes nothing.
use Rattle.std.specs.Prelude.{ℕ, zero, suc, ◌-◌, cond, List, [], ◌∷◌, ◌++◌, length, is_some, Some, None, Ok, Err, nat_lt, count_by}
use Rattle.field.specs.declared.Row.{Row}
use Rattle.flood.specs.Copies.{outgoing_of, message_on}
use Rattle.history.specs.Calls.{next_taken, opening, rows_opened, world_opened, world_closed}
use Rattle.history.specs.Worlds.{Lent, World, told_links}
use Rattle.history.specs.declared.taking.Ending.{Ending}
use Rattle.history.specs.declared.taking.Ending.TheVariants.{BudgetSpent, LogShort, Refused}
use Rattle.history.specs.declared.taking.TakenCopy.{TakenCopy}

-- What happens in a run, as its floods are told by it.
pub data Event (Num : Type 0) : Type 0 where
  -- a sensor's row was overwritten
  Damages : Event Num
  -- an instant opened
  Opens : Event Num
  -- in that open the base sent this number; the rows are those just before
  Begins : Num → List (Row Num) → Event Num
  -- a copy was taken
  Takes : TakenCopy Num → Event Num

module _ {Num : Type 0} where
  -- what happens as an instant opens
  unfoldable pub open_events : World Num → World Num → List (Event Num)
  open_events before after = Opens ∷ elim (outgoing_of after.rows 0) [ None ↦ [] | Some message ↦ Begins message.number before.rows ∷ [] ]

  -- the copies among what happened
  unfoldable pub copies_in : List (Event Num) → List (TakenCopy Num)
  copies_in [] = []
  copies_in (Damages ∷ events) = copies_in events
  copies_in (Opens ∷ events) = copies_in events
  copies_in (Begins number rows ∷ events) = copies_in events
  copies_in (Takes copy ∷ events) = copy ∷ copies_in events

-- What happened, and where the run stands then.
pub record Went (Num : Type 0) : Type 0 where
  pub events : List (Event Num)
  pub world : World Num

-- What play answers: the instants played, what happened in them, where the run stands, and why it ended.
pub record Played (Num : Type 0) : Type 0 where
  pub instants : ℕ
  pub events : List (Event Num)
  pub world : World Num
  pub ending : Ending

-- An instant tried: it is done whole, or play ends before it.
pub data Tried (Num : Type 0) : Type 0 where
  Ends : Ending → Tried Num
  Done : Went Num → Tried Num

module _ {Num : Type 0} (lent : Lent Num) where
  -- the next copies, at most so many
  unfoldable pub copies_taken : ℕ → World Num → Went Num
  copies_taken zero world = record { events = []; world = world }
  copies_taken (suc most) world =
      elim (next_taken lent world) [
        | None ↦ record { events = []; world = world }
        | Some next ↦ let rest = copies_taken most next.world in record { events = Takes next.copy ∷ rest.events; world = rest.world }
      ]

  -- One whole instant from its open on: every copy, of which there is at most one for each link, and the close.
  unfoldable pub instant_gone : World Num → Went Num
  instant_gone world =
      let opened = world_opened lent world in
      let gone = copies_taken (length (told_links lent.field)) opened in
      record { events = open_events world opened ++ gone.events; world = world_closed lent.field gone.world }

  -- how many copies that instant has, by what is sent once it is open
  abbrev pub copies_to_come : World Num → ℕ
  copies_to_come world = count_by (λ link. is_some (message_on (rows_opened lent world) link)) (told_links lent.field)

  -- A log can be short only for an instant that open would grant: one that it would refuse has no copies.
  unfoldable pub tried : ℕ → World Num → Tried Num
  tried room world =
      elim (opening lent world) [
        | Err fault ↦ Ends (Refused fault)
        | Ok opened ↦ cond (nat_lt room (length (copies_in (instant_gone world).events))) (Ends LogShort) (Done (instant_gone world))
      ]

  -- Play of a budget of instants, with room for so many rows in the log.
  unfoldable pub playing : ℕ → ℕ → World Num → Played Num
  playing zero room world = record { instants = 0; events = []; world = world; ending = BudgetSpent }
  playing (suc budget) room world =
      elim (tried room world) [
        | Ends ending ↦ record { instants = 0; events = []; world = world; ending = ending }
        | Done gone ↦ (
            let rest = playing budget (room - length (copies_in gone.events)) gone.world in
            record { instants = suc rest.instants; events = gone.events ++ rest.events; world = rest.world; ending = rest.ending }
            )
      ]
