-- What holds of play, and of every call. Assumes nothing.
use Rattle.std.specs.Prelude.{◌≡◌, ℕ, ◌+◌, ◌-◌, ◌<◌, ◌≤◌, true, List, [], ◌∷◌, ◌++◌, length, drop, is_ok, Some, None, Ok, Err, count_by}
use Rattle.history.specs.Calls.{opening}
use Rattle.history.specs.Counted.{opens}
use Rattle.history.specs.Histories.{Answer, Call, Outcome, called, history}
use Rattle.history.specs.Histories.Call.{Carry, Look}
use Rattle.history.specs.Histories.Answer.{Granted, Copied, Shows, Plays, Declines, NotLet}
use Rattle.history.specs.Plays.{Played, copies_in, copies_to_come, instant_gone, playing}
use Rattle.history.specs.Worlds.{Lent, World, told_links}
use Rattle.history.specs.declared.taking.Ending.{Ending}
use Rattle.history.specs.declared.taking.Ending.TheVariants.{BudgetSpent, LogShort, Refused}
use Rattle.history.specs.declared.taking.TakenCopy.{TakenCopy}
use Rattle.refusal.specs.declared.RunFault.{RunFault}

module _ {Num : Type 0} where
  -- what was played first, and what was played after it
  abbrev pub together : Played Num → Played Num → Played Num
  together first rest = record { instants = first.instants + rest.instants; events = first.events ++ rest.events; world = rest.world; ending = rest.ending }

  -- play goes on where it spent its budget, and where it ended otherwise it has ended
  abbrev pub past : Ending → Played Num → Played Num → Played Num
  past BudgetSpent first rest = together first rest
  past LogShort first rest = first
  past (Refused fault) first rest = first

  -- a call changes nothing, and nothing happens
  abbrev pub ChangesNothing : World Num → Outcome Num → Type 0
  ChangesNothing world outcome = (outcome.world ≡ world) × (outcome.events ≡ [])

  -- the copies that an answer tells: the one that carry answers, or those that play logs
  abbrev pub copies_of : Answer Num → List (TakenCopy Num)
  copies_of Granted = []
  copies_of (Copied None) = []
  copies_of (Copied (Some copy)) = copy ∷ []
  copies_of (Shows row) = []
  copies_of (Plays instants copies ending) = copies
  copies_of (Declines fault) = []
  copies_of NotLet = []

  -- those that answers tell one after another
  unfoldable pub copies_told : List (Answer Num) → List (TakenCopy Num)
  copies_told [] = []
  copies_told (answer ∷ answers) = copies_of answer ++ copies_told answers

module _ {Num : Type 0} (lent : Lent Num) where
  -- play of a budget, and then of another from where it stands, with the room that is left
  abbrev pub playing_on : ℕ → ℕ → ℕ → World Num → Played Num
  playing_on budget more room world =
      let first = playing lent budget room world in
      past first.ending first (playing lent more (room - length (copies_in first.events)) first.world)

  -- Why play ends, by the instants and the room that are left: none is; or open would grant the next instant, which has more copies
  -- than there is room; or open would refuse it.
  abbrev pub EndsAs : ℕ → ℕ → World Num → Ending → Type 0
  EndsAs left room world BudgetSpent = left ≡ 0
  EndsAs left room world LogShort = (0 < left) × (is_ok (opening lent world) ≡ true) × (room < length (copies_in (instant_gone lent world).events))
  EndsAs left room world (Refused fault) = (0 < left) × (opening lent world ≡ Err fault)

  -- What was played is counted and stands, as if the budget had been no more: the instant before which play ended altered nothing.
  pub record PlayEnds (budget room : ℕ) (world : World Num) (p : Played Num) : Type 0 where
    pub instants : p.instants ≡ count_by opens p.events
    pub stands : playing lent p.instants room world ≡ record p { ending = BudgetSpent }
    pub ends : EndsAs (budget - p.instants) (room - length (copies_in p.events)) p.world p.ending

  pub record PlayLaws : Type 0 where
    -- it does not matter in how many calls a budget is played
    pub goes_on : (budget more room : ℕ) (world : World Num) → playing lent (budget + more) room world ≡ playing_on budget more room world
    pub within_budget : (budget room : ℕ) (world : World Num) → (playing lent budget room world).instants ≤ budget
    pub within_room : (budget room : ℕ) (world : World Num) → length (copies_in (playing lent budget room world).events) ≤ room
    pub ends : (budget room : ℕ) (world : World Num) → PlayEnds budget room world (playing lent budget room world)
    -- how many copies an instant has is told before it opens, and it has one for each link at most
    pub to_come : (world next : World Num) → opening lent world ≡ Ok next → length (copies_in (instant_gone lent world).events) ≡ copies_to_come lent world
    pub few_copies : (world : World Num) → length (copies_in (instant_gone lent world).events) ≤ length (told_links lent.field)

  pub record CallLaws : Type 0 where
    -- what answers alone, changes nothing
    pub declines : (world : World Num) (call : Call Num) (fault : RunFault) → (called lent world call).answer ≡ Declines fault → ChangesNothing world (called lent world call)
    pub not_let : (world : World Num) (call : Call Num) → (called lent world call).answer ≡ NotLet → ChangesNothing world (called lent world call)
    pub looks : (world : World Num) (sensor : ℕ) → ChangesNothing world (called lent world (Look sensor))
    -- that no copy is left is answered again
    pub none_left : (world : World Num) → (called lent world Carry).answer ≡ Copied None → ChangesNothing world (called lent world Carry)
    pub none_again : (world : World Num) → (called lent world Carry).answer ≡ Copied None → called lent (called lent world Carry).world Carry ≡ called lent world Carry
    -- the copies that happened are those that were told, in their order
    pub tells : (calls : List (Call Num)) (world : World Num) → copies_told (history lent calls world).answers ≡ copies_in (history lent calls world).events
    -- a run holds the settings and the told count that begin was given
    pub holds_settings : (world : World Num) (call : Call Num) → (called lent world call).world.settings ≡ world.settings
    pub holds_count : (world : World Num) (call : Call Num) → (called lent world call).world.count ≡ world.count
    -- rows and sender bytes past n stay as they were
    pub past_rows : (world : World Num) (call : Call Num) → drop lent.field.settings.n (called lent world call).world.rows ≡ drop lent.field.settings.n world.rows
    pub past_bytes : (world : World Num) (call : Call Num) → drop lent.field.settings.n (called lent world call).world.senders ≡ drop lent.field.settings.n world.senders
