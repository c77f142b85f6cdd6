-- Calls on small fields, in cases that tell the rules from others like them. Assumes nothing.
use Rattle.std.specs.Prelude.{◌≡◌, ℕ, ◌+◌, ◌&&◌, List, [], ◌∷◌, map, length, Some, None, Ok, Err, Option, ◌==◌}
use Rattle.air.specs.Airs.{collisions_carry, losses_carry}
use Rattle.air.specs.Delays.{falls_on}
use Rattle.field.specs.declared.Link.{Link}
use Rattle.field.specs.declared.Message.{Message}
use Rattle.field.specs.declared.Row.{Row}
use Rattle.flood.specs.declared.hearing.Verdict.TheVariants.{Lost, Refused, Accepted, Forwards}
use Rattle.history.specs.Calls.{begun}
use Rattle.history.specs.Floods.{Flood, floods_told}
use Rattle.history.specs.Histories.{Answer, Call, History, called, history}
use Rattle.history.specs.Histories.Answer.{Granted, Copied, Shows, Plays, Declines, NotLet}
use Rattle.history.specs.Histories.Call.{Open, Carry, Close, Damaging, Look, Play}
use Rattle.history.specs.Worked.{between, copy_of, first, lent, lent_with, link_of, links, row_of, rows, senders, settings}
use Rattle.history.specs.Worlds.{Lent, World, field_of}
use Rattle.history.specs.declared.taking.Ending.TheVariants.{BudgetSpent, LogShort, Refused as Ends}
use Rattle.history.specs.declared.taking.TakenCopy.{TakenCopy}
use Rattle.numbering.specs.Four.{differentiated, linear}
use Rattle.refusal.specs.declared.FieldFault.TheVariants.{NoSensor, BadLink, TooMany, BadRow}
use Rattle.refusal.specs.declared.RunFault.{RunFault}
use Rattle.refusal.specs.declared.RunFault.TheVariants.{Field, ShortBuffer, LastInstant, NoNumber, CopyLeft}

abbrev pub message_of : ℕ → ℕ → Option (Message ℕ)
message_of hop number = Some (record { hop = hop; number = number })

abbrev pub damage_of : ℕ → ℕ → Option ℕ → ℕ → Call ℕ
damage_of sensor timer mark held = Damaging (record { sensor = sensor; timer = timer; mark = mark; held = held })

abbrev pub flood_of : ℕ → List (Row ℕ) → List (TakenCopy ℕ) → Flood ℕ
flood_of number before copies = record { number = number; before = before; copies = copies }

-- A field whose fifth link is past the told count. Its delay rule hangs on all that it is asked with. Its air carries where it is
-- asked with four links and three bytes, but where copies collide, and it loses the copy from 0 to 1 at instant 6.
abbrev pub more_lent : Lent ℕ
more_lent = record {
  field = field_of (differentiated 2) settings (link_of 0 1 ∷ link_of 0 2 ∷ link_of 1 2 ∷ link_of 2 1 ∷ link_of 7 7 ∷ []) 4;
  period = λ tmax instant sensor. falls_on tmax (instant + sensor);
  carries = losses_carry (record { instant = 6; from = 0; to = 1 } ∷ []) (collisions_carry (λ instant link links senders. length links == 4 && length senders == 3));
}

-- three rows, and one past n
abbrev pub and_past_n : Row ℕ → Row ℕ → Row ℕ → List (Row ℕ)
and_past_n base one two = base ∷ one ∷ two ∷ record { timer = 99; held = 99; mark = Some 99; outgoing = message_of 99 99 } ∷ []

abbrev pub silent_bytes : List ℕ
silent_bytes = 0 ∷ 0 ∷ 0 ∷ 7 ∷ []

abbrev pub start : World ℕ
start = between 4 (and_past_n (row_of 1 0) (row_of 1 1) (row_of 2 0)) silent_bytes 0

-- a call with its answer
pub record Given : Type 0 where
  pub call : Call ℕ
  pub answer : Answer ℕ

infix 80 ◌gives◌
abbrev pub ◌gives◌ : Call ℕ → Answer ℕ → Given
call gives answer = record { call = call; answer = answer }

-- an instant call by call, a damage while its flood goes on, and the floods after it
abbrev pub given : List Given
given =
    Look 1 gives Shows (row_of 1 1)
    -- a row is there, and no such sensor
    ∷ Look 4 gives Declines (Field (NoSensor 4))
    -- no such call between instants
    ∷ Carry gives NotLet
    ∷ Close gives NotLet
    ∷ Open gives Granted
    -- nor these within one
    ∷ Open gives NotLet
    ∷ damage_of 1 2 (Some 1) 0 gives NotLet
    ∷ Look 1 gives NotLet
    ∷ Play 1 9 gives NotLet
    ∷ Close gives Declines CopyLeft
    ∷ Carry gives Copied (Some (copy_of 1 0 1 2 1 Refused))
    ∷ Carry gives Copied (Some (copy_of 1 0 2 2 1 Forwards))
    -- none is left, and none is when it is asked again
    ∷ Carry gives Copied None
    ∷ Carry gives Copied None
    ∷ Close gives Granted
    ∷ damage_of 1 2 (Some 1) 0 gives Granted
    ∷ Look 1 gives Shows (record (row_of 2 0) { mark = Some 1 })
    -- Instant 6 has two copies, and one row is left; then the rows are just enough.
    ∷ Play 8 3 gives Plays 4 (copy_of 2 2 1 1 1 Accepted ∷ copy_of 3 1 2 1 1 Refused ∷ []) LogShort
    ∷ Play 4 3 gives Plays 4 (copy_of 6 0 1 2 2 Lost ∷ copy_of 6 0 2 2 2 Forwards ∷ copy_of 7 2 1 1 2 Accepted ∷ []) BudgetSpent
    ∷ Play 2 2 gives Plays 2 (copy_of 11 0 1 2 0 Forwards ∷ copy_of 11 0 2 2 0 Forwards ∷ []) BudgetSpent
    ∷ damage_of 3 1 None 0 gives Declines (Field (NoSensor 3))
    ∷ []

abbrev pub gone : History ℕ
gone = history more_lent (map (λ g. g.call) given) start

-- the answer to one call
abbrev pub answer : Lent ℕ → World ℕ → Call ℕ → Answer ℕ
answer lent world call = (called lent world call).answer

-- begin and open both decline with this fault
abbrev pub BothDecline : List Link → ℕ → List (Row ℕ) → List ℕ → RunFault → Type 0
BothDecline links count rows senders fault =
    let lent = lent_with (differentiated 2) links count in
    (begun lent.field rows senders ≡ Err fault) × (answer lent (between count rows senders 0) Open ≡ Declines fault)

-- two links that break 7, by a label of 101 and as they enter the base
abbrev pub above_100 : Link
above_100 = record (link_of 0 1) { label = 101 }

abbrev pub into_base : Link
into_base = link_of 2 0

abbrev pub twice : List Link
twice = link_of 0 1 ∷ link_of 0 1 ∷ []

-- the timers of sensors 0 and 2 are above f and tmax
abbrev pub bad_rows : List (Row ℕ)
bad_rows = row_of 6 0 ∷ row_of 2 1 ∷ row_of 3 0 ∷ []

-- linear at the last number, with the base's timer, and so many instants opened; sensor 1 is to send in the second instant from there
abbrev pub at_last_number : ℕ → ℕ → Call ℕ → Answer ℕ
at_last_number timer instant = answer (lent_with linear links 3) (between 3 (row_of timer 4294967295 ∷ record (row_of 2 1) { mark = Some 1 } ∷ row_of 2 1 ∷ []) senders instant)

pub record WorkedCalls : Type 0 where
  -- Begin looks at no byte and no outgoing message, and clears those of the first n alone.
  pub begins : begun more_lent.field (and_past_n (row_of 1 0) (record (row_of 1 1) { outgoing = message_of 9 9 }) (row_of 2 0)) (3 ∷ 0 ∷ 1 ∷ 7 ∷ []) ≡ Ok start
  -- Each call of the run from there has the answer given above.
  pub answers : gone.answers ≡ map (λ g. g.answer) given
  -- What lies past n is as it was, whatever was opened and closed. The flood before the damage is counted, and so are its copies.
  pub stands : gone.world ≡ record {
    settings = settings;
    count = 4;
    rows = and_past_n (row_of 5 0) (record (row_of 1 0) { mark = Some 1 }) (record (row_of 2 0) { mark = Some 1 });
    senders = silent_bytes;
    instant = 11;
    position = None;
    counts = record { instants = 11; floods = 3; copies = 9; lost = 1; refused = 2; accepted = 6 };
  }
  -- Of floods those since the damage are told, the latest first; a refused damage is none.
  pub floods : floods_told gone.events
      ≡ flood_of 0 (and_past_n (row_of 1 2) (row_of 2 2) (row_of 1 2)) (copy_of 11 0 2 2 0 Forwards ∷ copy_of 11 0 1 2 0 Forwards ∷ [])
      ∷ flood_of 2 (and_past_n (row_of 1 1) (row_of 1 1) (row_of 2 1)) (copy_of 7 2 1 1 2 Accepted ∷ copy_of 6 0 2 2 2 Forwards ∷ copy_of 6 0 1 2 2 Lost ∷ [])
      ∷ []
  -- 6 before 7, and 7 before 9, though the place is higher.
  pub no_sensor : BothDecline (above_100 ∷ link_of 1 3 ∷ []) 2 rows senders (Field (NoSensor 1))
  pub bad_link : BothDecline (link_of 0 1 ∷ into_base ∷ []) 2 bad_rows senders (Field (BadLink 1))
  -- A link that repeats an earlier one is 7 as a run begins, before 8, and nothing to open.
  pub repeats : (begun (lent_with (differentiated 2) twice 1025).field rows senders ≡ Err (Field (BadLink 1))) × (answer (lent twice) (first 2) Open ≡ Granted)
  -- 8 is 1,025 links and not 1,024; 8 before 9, and 9 before 11, where fewer rows and links are there.
  pub too_many : begun (lent_with (differentiated 2) links 1025).field bad_rows senders ≡ Err (Field (TooMany 1024))
  pub bad_row : BothDecline links 1024 (row_of 1 0 ∷ row_of 3 1 ∷ []) senders (Field (BadRow 1))
  -- 11 where links, rows or bytes are fewer
  pub short_buffer :
      BothDecline links 4 rows senders ShortBuffer
      × BothDecline links 3 (row_of 1 0 ∷ row_of 2 1 ∷ []) senders ShortBuffer
      × BothDecline links 3 rows (0 ∷ 0 ∷ []) ShortBuffer
  -- A byte that is there is 1 with an outgoing message, and else 0.
  pub bad_byte :
      (answer (lent links) (between 3 rows (0 ∷ 1 ∷ []) 0) Open ≡ Declines (Field (BadRow 1)))
      × (answer (lent links) (record (first 3) { rows = record (row_of 5 1) { outgoing = message_of 2 1 } ∷ rows; position = Some 0 }) Carry ≡ Declines (Field (BadRow 0)))
  -- Of the place that a call names and another, the lower is told, whichever it is.
  pub link_lower : answer (lent (link_of 0 1 ∷ link_of 1 3 ∷ [])) (first 2) (damage_of 5 1 None 0) ≡ Declines (Field (NoSensor 1))
  pub sensor_lower : answer (lent (link_of 0 1 ∷ link_of 0 2 ∷ link_of 1 2 ∷ link_of 2 1 ∷ link_of 7 1 ∷ [])) (first 5) (Look 3) ≡ Declines (Field (NoSensor 3))
  pub row_lower : answer (lent links) (between 3 bad_rows senders 0) (damage_of 1 3 None 0) ≡ Declines (Field (BadRow 0))
  pub damage_lower : answer (lent links) (between 3 (row_of 1 0 ∷ row_of 2 1 ∷ row_of 3 0 ∷ []) senders 0) (damage_of 1 3 None 0) ≡ Declines (Field (BadRow 1))
  -- Look looks for all that other calls do: here at a row that sends between instants.
  pub look_checks : answer (lent links) (between 3 (record (row_of 1 0) { outgoing = message_of 2 1 } ∷ row_of 2 1 ∷ row_of 1 0 ∷ []) (1 ∷ 0 ∷ 0 ∷ []) 0) (Look 1) ≡ Declines (Field (BadRow 0))
  -- 12 where instant 4,294,967,295 has been opened, not the one before, and before 13
  pub last_instant : at_last_number 1 4294967295 Open ≡ Declines LastInstant
  pub no_number : at_last_number 1 4294967294 Open ≡ Declines NoNumber
  -- The first instant has no copies, and needs no number; the second would have one, but is refused.
  pub no_room : at_last_number 2 0 (Play 3 0) ≡ Plays 1 [] (Ends NoNumber)
  -- At a budget of 0 nothing is looked at.
  pub no_budget : answer (lent links) (between 3 bad_rows senders 0) (Play 0 0) ≡ Plays 0 [] BudgetSpent
  pub budget : answer (lent links) (between 3 bad_rows senders 0) (Play 1 0) ≡ Plays 0 [] (Ends (Field (BadRow 0)))
