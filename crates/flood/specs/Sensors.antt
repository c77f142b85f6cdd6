-- What a sensor does as an instant opens, and with a copy. Assumes nothing.
use Rattle.std.specs.Prelude.{ℕ, ◌-◌, Bool, cond, not, ◌&&◌, is_some, Some, None, Option, nat_le, nat_lt}
use Rattle.numbering.specs.Meaning.{Meaning}
use Rattle.field.specs.declared.Message.{Message}
use Rattle.field.specs.declared.Row.{Row}
use Rattle.field.specs.declared.Settings.{Settings}
use Rattle.flood.specs.declared.hearing.Taken.{Taken}
use Rattle.flood.specs.declared.hearing.Verdict.TheVariants.{Lost, Refused, Accepted, Forwards}

module _ {Num : Type 0} where
  -- a timer above 1 falls by one; no outgoing message stays from before
  abbrev pub waits : Row Num → Row Num
  waits row = record { timer = row.timer - 1; held = row.held; mark = row.mark; outgoing = None }

  -- at 1 the base takes the next number, holds it, sends it with hop hmax, and begins a flood period
  abbrev pub base_sends : Settings → Row Num → Num → Row Num
  base_sends s row number = record { timer = s.f; held = number; mark = row.mark; outgoing = Some (record { hop = s.hmax; number = number }) }

  -- the base as an instant opens, or none where it must send and no number follows
  abbrev pub base_opened : Meaning Num → Settings → Row Num → Option (Row Num)
  base_opened m s row = cond (nat_lt 1 row.timer) (Some (waits row)) (elim (m.next row.held) [ None ↦ None | Some number ↦ Some (base_sends s row number) ])

  -- what a mark sends: its hop, with the number that is held
  abbrev pub sent : Option ℕ → Num → Option (Message Num)
  sent None held = None
  sent (Some hop) held = Some (record { hop = hop; number = held })

  -- another sensor as an instant opens: at 1 it sends what it has marked, loses the mark, and begins a period
  abbrev pub other_opened : ℕ → Row Num → Row Num
  other_opened period row = cond (nat_lt 1 row.timer) (waits row) (record { timer = period; held = row.held; mark = None; outgoing = sent row.mark row.held })

  -- a fresh copy is accepted and its number held; with hop 2 or more an unmarked receiver marks one hop less, and forwards
  abbrev pub accepted : Message Num → Row Num → Taken Num
  accepted message row =
      cond (nat_le 2 message.hop && not (is_some row.mark))
      (record { verdict = Forwards; row = record { timer = row.timer; held = message.number; mark = Some (message.hop - 1); outgoing = row.outgoing } })
      (record { verdict = Accepted; row = record { timer = row.timer; held = message.number; mark = row.mark; outgoing = row.outgoing } })

  -- a copy that the air carries is heard: refused if it is not fresh, and else accepted
  abbrev pub taken : Meaning Num → Bool → Message Num → Row Num → Taken Num
  taken m carried message row =
      cond carried (cond (m.fresh message.number row.held) (accepted message row) (record { verdict = Refused; row = row })) (record { verdict = Lost; row = row })
