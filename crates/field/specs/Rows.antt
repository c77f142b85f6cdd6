-- The limits of a row and of a link. Assumes nothing.
use Rattle.std.specs.Prelude.{ℕ, Bool, true, false, cond, not, ◌&&◌, is_some, Some, None, Option, ◌==◌, nat_le, nat_lt}
use Rattle.numbering.specs.Meaning.{Meaning}
use Rattle.field.specs.declared.limits.Limits.{Limits}
use Rattle.field.specs.declared.limits.Stage.{Stage}
use Rattle.field.specs.declared.limits.Stage.TheVariants.{Beginning, Between, Within}
use Rattle.field.specs.declared.links.Ends.{Ends}
use Rattle.field.specs.declared.parts.Damage.{Damage}
use Rattle.field.specs.declared.parts.Link.{Link}
use Rattle.field.specs.declared.parts.Message.{Message}
use Rattle.field.specs.declared.parts.Row.{Row}
use Rattle.field.specs.declared.settings.Settings.{Settings}
use Rattle.field.specs.SettingLimits.{within}

-- the longest time on a timer: a flood period for the base, which is sensor 0, and a forwarding period for the others
abbrev pub longest : ℕ → ℕ → ℕ → ℕ
longest tmax f sensor = cond (sensor == 0) f tmax

-- a mark is a hop count up to hmax, and the base has none
abbrev pub mark_keeps : ℕ → ℕ → Option ℕ → Bool
mark_keeps hmax sensor None = true
mark_keeps hmax sensor (Some hop) = not (sensor == 0) && nat_le hop hmax

-- a sensor's timer and mark
abbrev pub clock_keeps : ℕ → ℕ → ℕ → ℕ → ℕ → Option ℕ → Bool
clock_keeps hmax tmax f sensor timer mark = within 1 (longest tmax f sensor) timer && mark_keeps hmax sensor mark

-- the limits that settings set
abbrev pub limits_of : Settings → Limits
limits_of s = record { hmax = s.hmax; tmax = s.tmax; f = s.f }

module _ {Num : Type 0} (m : Meaning Num) (s : Settings) where
  abbrev pub message_keeps : Message Num → Bool
  message_keeps message = nat_le message.hop s.hmax && m.lawful message.number

  -- As a run begins no outgoing message is looked at; between instants there is none.
  abbrev pub outgoing_keeps : Stage → Option (Message Num) → Bool
  outgoing_keeps Beginning outgoing = true
  outgoing_keeps Between None = true
  outgoing_keeps Between (Some message) = false
  outgoing_keeps Within None = true
  outgoing_keeps Within (Some message) = message_keeps message

  -- what a damage would write keeps them
  abbrev pub damage_keeps : Damage Num → Bool
  damage_keeps damage = clock_keeps s.hmax s.tmax s.f damage.sensor damage.timer damage.mark && m.lawful damage.held

  -- the limits of a sensor's row
  abbrev pub row_keeps : Stage → ℕ → Row Num → Bool
  row_keeps stage sensor row = clock_keeps s.hmax s.tmax s.f sensor row.timer row.mark && (m.lawful row.held && outgoing_keeps stage row.outgoing)

-- the byte of a sensor: 1 with something to send, and else 0
abbrev pub sender_byte : {Num : Type 0} → Row Num → ℕ
sender_byte row = cond (is_some row.outgoing) 1 0

abbrev pub ends_of : ℕ → ℕ → Ends
ends_of from to = record { from = from; to = to }

-- both ends are sensors of a field of n
abbrev pub ends_within : ℕ → ℕ → ℕ → Bool
ends_within n from to = nat_lt from n && nat_lt to n

-- a link has two ends, enters no base, and its label is a percentage
abbrev pub link_keeps : Link → Bool
link_keeps link = (not (link.from == link.to) && not (link.to == 0)) && nat_le link.label 100

-- a link goes from one sensor to the other, whatever its label
abbrev pub joins : Link → ℕ → ℕ → Bool
joins link from to = link.from == from && link.to == to
