-- A history: any list of calls after a granted begin, each answered as the definitions say. Assumes nothing.
use Rattle.std.specs.Prelude.{◌≡◌, ℕ, List, [], ◌∷◌, ◌++◌, Some, None, Ok, Err, Option, Result}
use Rattle.air.specs.Airs.{Carrying}
use Rattle.air.specs.Delays.{KeepsPeriods}
use Rattle.field.specs.declared.Damage.{Damage}
use Rattle.field.specs.declared.Row.{Row}
use Rattle.history.specs.Calls.{AfterCopy, begun, opening, carrying, closing, damaging, looking}
use Rattle.history.specs.Plays.{Event, Played, playing, open_events, copies_in}
use Rattle.history.specs.Plays.Event.{Damages, Takes}
use Rattle.history.specs.Worlds.{Field, Lent, World}
use Rattle.history.specs.declared.taking.Ending.{Ending}
use Rattle.history.specs.declared.taking.TakenCopy.{TakenCopy}
use Rattle.refusal.specs.declared.RunFault.{RunFault}

-- a call of a run, with what it names; play with its budget and the free rows of its log
pub data Call (Num : Type 0) : Type 0 where
  Open : Call Num
  Carry : Call Num
  Close : Call Num
  Damaging : Damage Num → Call Num
  Look : ℕ → Call Num
  Play : ℕ → ℕ → Call Num

pub data Answer (Num : Type 0) : Type 0 where
  -- open, close or damage is granted
  Granted : Answer Num
  -- the copy that was taken, or none is left
  Copied : Option (TakenCopy Num) → Answer Num
  Shows : Row Num → Answer Num
  -- play's instants, the rows it logged, and why it ended
  Plays : ℕ → List (TakenCopy Num) → Ending → Answer Num
  Declines : RunFault → Answer Num
  -- the types let no such call pass where the run stands
  NotLet : Answer Num

-- What a call comes to.
pub record Outcome (Num : Type 0) : Type 0 where
  pub answer : Answer Num
  pub events : List (Event Num)
  pub world : World Num

module _ {Num : Type 0} (lent : Lent Num) (world : World Num) where
  -- nothing changes, and nothing happens
  abbrev pub only_answers : Answer Num → Outcome Num
  only_answers answer = record { answer = answer; events = []; world = world }

  -- a granted call moves the run on, and a declined one changes nothing
  abbrev pub moves_on : (World Num → List (Event Num)) → Result (World Num) RunFault → Outcome Num
  moves_on events (Ok next) = record { answer = Granted; events = events next; world = next }
  moves_on events (Err fault) = only_answers (Declines fault)

  abbrev pub takes_on : Result (Option (AfterCopy Num)) RunFault → Outcome Num
  takes_on (Ok None) = only_answers (Copied None)
  takes_on (Ok (Some next)) = record { answer = Copied (Some next.copy); events = Takes next.copy ∷ []; world = next.world }
  takes_on (Err fault) = only_answers (Declines fault)

  abbrev pub shows : Result (Row Num) RunFault → Outcome Num
  shows (Ok row) = only_answers (Shows row)
  shows (Err fault) = only_answers (Declines fault)

  abbrev pub plays_on : Played Num → Outcome Num
  plays_on played = record { answer = Plays played.instants (copies_in played.events) played.ending; events = played.events; world = played.world }

  -- a call between instants
  abbrev pub called_between : Call Num → Outcome Num
  called_between Open = moves_on (open_events world) (opening lent world)
  called_between Carry = only_answers NotLet
  called_between Close = only_answers NotLet
  called_between (Damaging damage) = moves_on (λ next. Damages ∷ []) (damaging lent.field damage world)
  called_between (Look sensor) = shows (looking lent.field sensor world)
  called_between (Play budget room) = plays_on (playing lent budget room world)

  -- a call within an instant
  abbrev pub called_within : Call Num → Outcome Num
  called_within Open = only_answers NotLet
  called_within Carry = takes_on (carrying lent world)
  called_within Close = moves_on (λ next. []) (closing lent.field world)
  called_within (Damaging damage) = only_answers NotLet
  called_within (Look sensor) = only_answers NotLet
  called_within (Play budget room) = only_answers NotLet

  unfoldable pub called : Call Num → Outcome Num
  called call = elim world.position [ None ↦ called_between call | Some position ↦ called_within call ]

-- What a list of calls comes to.
pub record History (Num : Type 0) : Type 0 where
  pub answers : List (Answer Num)
  pub events : List (Event Num)
  pub world : World Num

module _ {Num : Type 0} (lent : Lent Num) where
  -- calls one after another, each where the one before left the run
  unfoldable pub history : List (Call Num) → World Num → History Num
  history [] world = record { answers = []; events = []; world = world }
  history (call ∷ calls) world =
      let first = called lent world call in
      let rest = history calls first.world in
      record { answers = first.answer ∷ rest.answers; events = first.events ++ rest.events; world = rest.world }

-- So it is of whatever becomes of a run from where it stands: with every delay rule that keeps its law, every air, and every list of calls.
abbrev pub InEveryRun : {Num : Type 0} → Field Num → World Num → (Lent Num → History Num → Type 0) → Type 0
InEveryRun {Num} field start Holds =
    (period : ℕ → ℕ → ℕ → ℕ) (carries : Carrying) → KeepsPeriods period → (calls : List (Call Num))
    → let lent : Lent Num = record { field = field; period = period; carries = carries } in Holds lent (history lent calls start)

-- a law of a field and of where a run of it stands, wherever begin grants one
abbrev pub OnceBegun : {Num : Type 0} → Field Num → (Field Num → World Num → Type 0) → Type 0
OnceBegun {Num} field Law = (rows : List (Row Num)) (senders : List ℕ) (start : World Num) → begun field rows senders ≡ Ok start → Law field start
