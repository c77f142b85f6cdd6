-- What each call of a run makes of where it stands. Assumes nothing.
use Rattle.std.specs.Prelude.{ℕ, suc, ◌+◌, Bool, false, cond, not, List, take, set, is_some, Some, None, Ok, Option, Result, ◌==◌, slice_get}
use Rattle.std.specs.Option.{ok_or}
use Rattle.std.specs.Result.{result_and}
use Rattle.field.specs.declared.Damage.{Damage}
use Rattle.field.specs.declared.Link.{Link}
use Rattle.field.specs.declared.Message.{Message}
use Rattle.field.specs.declared.Row.{Row}
use Rattle.field.specs.declared.Stage.TheVariants.{Between, Within}
use Rattle.flood.specs.Copies.{message_on, next_copy, outgoing_of}
use Rattle.flood.specs.Instants.{opened, sending, closed, silent}
use Rattle.flood.specs.Sensors.{base_opened, taken}
use Rattle.flood.specs.declared.hearing.Verdict.{Verdict}
use Rattle.flood.specs.declared.hearing.Verdict.TheVariants.{Lost, Refused, Accepted, Forwards}
use Rattle.refusal.specs.declared.RunFault.{RunFault}
use Rattle.refusal.specs.declared.RunFault.TheVariants.{ShortBuffer, LastInstant, NoNumber, CopyLeft}
use Rattle.vetting.specs.Cases.{declines_where}
use Rattle.vetting.specs.declared.Named.TheVariants.{Nothing, Sensor, Damaged}
use Rattle.history.specs.Checks.{checked, checked_first}
use Rattle.history.specs.Worlds.{Field, Lent, World, told_links}
use Rattle.history.specs.declared.taking.Counts.{Counts}
use Rattle.history.specs.declared.taking.TakenCopy.{TakenCopy}

abbrev pub none_yet : Counts
none_yet = record { instants = 0; floods = 0; copies = 0; lost = 0; refused = 0; accepted = 0 }

-- one more instant, and one more flood where the base sends
abbrev pub counted_open : Bool → Counts → Counts
counted_open sends c = record c { instants = c.instants + 1; floods = cond sends (c.floods + 1) c.floods }

-- one more copy, and one more of its verdict, where forwards counts as accepted
abbrev pub counted_copy : Verdict → Counts → Counts
counted_copy Lost c = record c { copies = c.copies + 1; lost = c.lost + 1 }
counted_copy Refused c = record c { copies = c.copies + 1; refused = c.refused + 1 }
counted_copy Accepted c = record c { copies = c.copies + 1; accepted = c.accepted + 1 }
counted_copy Forwards c = record c { copies = c.copies + 1; accepted = c.accepted + 1 }

-- a copy as it was taken, and where the run stands then
pub record AfterCopy (Num : Type 0) : Type 0 where
  pub copy : TakenCopy Num
  pub world : World Num

module _ {Num : Type 0} where
  -- Where a run stands as it begins: no message is outgoing, no byte sends, and instant 1 is to come.
  abbrev pub beginning : Field Num → List (Row Num) → List ℕ → World Num
  beginning field rows senders = record {
    settings = field.settings;
    count = field.count;
    rows = closed field.settings.n rows;
    senders = silent field.settings.n senders;
    instant = 0;
    position = None;
    counts = none_yet;
  }

  abbrev pub begun : Field Num → List (Row Num) → List ℕ → Result (World Num) RunFault
  begun field rows senders = result_and (checked_first field rows senders) (Ok (beginning field rows senders))

  -- a sensor's row overwritten
  abbrev pub damaged_row : Damage Num → Row Num
  damaged_row damage = record { timer = damage.timer; held = damage.held; mark = damage.mark; outgoing = None }

  unfoldable pub world_damaged : Damage Num → World Num → World Num
  world_damaged damage world = record world { rows = set world.rows damage.sensor (damaged_row damage); position = None }

module _ {Num : Type 0} (field : Field Num) where
  -- 13: the base must send, and no number follows
  abbrev pub no_number : World Num → Bool
  no_number world = elim (slice_get world.rows 0) [ None ↦ false | Some row ↦ not (is_some (base_opened field.numbering field.settings row)) ]

  -- 12, then 13
  abbrev pub can_open : World Num → Result (Unit {0}) RunFault
  can_open world = result_and (declines_where (world.instant == 4294967295) LastInstant) (declines_where (no_number world) NoNumber)

  -- Open: 12 and 13 after the check.
  abbrev pub may_open : World Num → Result (Unit {0}) RunFault
  may_open world = result_and (checked field Nothing Between world.rows world.senders) (can_open world)

module _ {Num : Type 0} (lent : Lent Num) where
  -- the rows once the next instant is open
  abbrev pub rows_opened : World Num → List (Row Num)
  rows_opened world = opened lent.field.numbering lent.field.settings lent.period (suc world.instant) world.rows

  -- the next instant, open, at the first link
  unfoldable pub world_opened : World Num → World Num
  world_opened world = record world {
    rows = rows_opened world;
    senders = sending (rows_opened world) lent.field.settings.n world.senders;
    instant = suc world.instant;
    position = Some 0;
    counts = counted_open (is_some (outgoing_of (rows_opened world) 0)) world.counts;
  }

  abbrev pub opening : World Num → Result (World Num) RunFault
  opening world = result_and (may_open lent.field world) (Ok (world_opened world))

  -- does the air carry a copy over this link?
  abbrev pub comes_through : World Num → Link → Bool
  comes_through world link = lent.carries world.instant link (told_links lent.field) (take lent.field.settings.n world.senders)

  -- the copy that goes over the link at a place, with its receiver's row
  unfoldable pub copy_taken : World Num → ℕ → Link → Message Num → Row Num → AfterCopy Num
  copy_taken world place link message row =
      let t = taken lent.field.numbering (comes_through world link) message row in
      record {
        copy = record { instant = world.instant; from = link.from; to = link.to; hop = message.hop; number = message.number; verdict = t.verdict };
        world = record world { rows = set world.rows link.to t.row; position = Some (suc place); counts = counted_copy t.verdict world.counts };
      }

  abbrev pub copy_over : World Num → ℕ → Option (AfterCopy Num)
  copy_over world place =
      elim (slice_get (told_links lent.field) place) [
        | None ↦ None
        | Some link ↦ elim (message_on world.rows link) [
          | None ↦ None
          | Some message ↦ elim (slice_get world.rows link.to) [ None ↦ None | Some row ↦ Some (copy_taken world place link message row) ]
        ]
      ]

  -- The next copy of an open instant, in the order of the links, or none is left.
  unfoldable pub next_taken : World Num → Option (AfterCopy Num)
  next_taken world =
      elim world.position [
        | None ↦ None
        | Some position ↦ elim (next_copy world.rows (told_links lent.field) position) [ None ↦ None | Some place ↦ copy_over world place ]
      ]

  -- Carry: the next copy after the check. That none is left alters nothing.
  abbrev pub carrying : World Num → Result (Option (AfterCopy Num)) RunFault
  carrying world = result_and (checked lent.field Nothing Within world.rows world.senders) (Ok (next_taken world))

-- The calls below ask no delay rule and no air.
module _ {Num : Type 0} (field : Field Num) where
  -- a copy is left: there is a next one
  abbrev pub copy_left : World Num → Bool
  copy_left world = elim world.position [ None ↦ false | Some position ↦ is_some (next_copy world.rows (told_links field) position) ]

  -- an instant that is closed
  unfoldable pub world_closed : World Num → World Num
  world_closed world = record world { rows = closed field.settings.n world.rows; senders = silent field.settings.n world.senders; position = None }

  -- Close: 14 after the check.
  abbrev pub may_close : World Num → Result (Unit {0}) RunFault
  may_close world = result_and (checked field Nothing Within world.rows world.senders) (declines_where (copy_left world) CopyLeft)

  abbrev pub closing : World Num → Result (World Num) RunFault
  closing world = result_and (may_close world) (Ok (world_closed world))

  -- Damage, between instants.
  abbrev pub damaging : Damage Num → World Num → Result (World Num) RunFault
  damaging damage world = result_and (checked field (Damaged damage) Between world.rows world.senders) (Ok (world_damaged damage world))

  -- Look, between instants: the row, and nothing changes.
  abbrev pub looking : ℕ → World Num → Result (Row Num) RunFault
  looking sensor world = result_and (checked field (Sensor sensor) Between world.rows world.senders) (ok_or (slice_get world.rows sensor) ShortBuffer)

  -- Finish, between instants: what has been counted since the run began.
  abbrev pub finishing : World Num → Result Counts RunFault
  finishing world = result_and (checked field Nothing Between world.rows world.senders) (Ok world.counts)
