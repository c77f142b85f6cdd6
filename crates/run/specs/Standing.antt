-- From what the code holds to where a run stands in the definitions, and from what is lent. Assumes nothing.
use Rattle.std.specs.Prelude.{◌≡◌, ℕ, Some, None, Option}
use Rattle.air.specs.Airs.{Carrying}
use Rattle.field.specs.declared.Settings.{Settings}
use Rattle.flood.specs.Instants.{sending}
use Rattle.history.specs.Worlds.{Field, Lent as Given, World}
use Rattle.history.specs.declared.Counts.{Counts}
use Rattle.numbering.specs.Meaning.{Meaning}
use Rattle.run.specs.declared.lending.Lent.{Lent}
use Rattle.run.specs.declared.states.Idle.{Idle}
use Rattle.run.specs.declared.states.Instant.{Instant}
use Rattle.run.specs.declared.states.Progress.{Progress}

-- what was counted; the instants opened are the last one's number
abbrev pub counts_of : Progress → Counts
counts_of p = record { instants = p.instant; floods = p.floods; copies = p.copies; lost = p.lost; refused = p.refused; accepted = p.accepted }

module _ {N D A Num : Type 0} where
  -- where a run stands, by what it holds, its position in the links while an instant is open, and the rows and bytes that are lent
  abbrev pub stands : Progress → Option ℕ → Lent N D A Num → World Num
  stands p position lent = record {
    settings = p.settings;
    count = p.count;
    rows = lent.rows.now;
    senders = lent.senders.now;
    instant = p.instant;
    position = position;
    counts = counts_of p;
  }

  abbrev pub between : Idle → Lent N D A Num → World Num
  between run = stands run.progress None

  abbrev pub within : Instant → Lent N D A Num → World Num
  within run = stands run.progress (Some run.position)

  -- an instant whose rows are open, at the first link, once its sender bytes are written
  abbrev pub with_bytes : Progress → Lent N D A Num → World Num
  with_bytes p lent = record (stands p (Some 0) lent) { senders = sending lent.rows.now p.settings.n lent.senders.now }

  -- the field that is played, by the meaning of the numbering, the settings and the told count
  abbrev pub field_told : (N → Meaning Num) → Settings → ℕ → Lent N D A Num → Field Num
  field_told meaning settings count lent = record { numbering = meaning lent.numbering.now; settings = settings; links = lent.links.now; count = count }

  -- what a call is given: the field by the settings and the count that the run holds; and with it the delay rule and the air
  abbrev pub field_given : (N → Meaning Num) → Progress → Lent N D A Num → Field Num
  field_given meaning p lent = field_told meaning p.settings p.count lent

  abbrev pub given : (N → Meaning Num) → (D → ℕ → ℕ → ℕ → ℕ) → (A → Carrying) → Progress → Lent N D A Num → Given Num
  given meaning period carries p lent = record {
    field = field_given meaning p lent;
    period = period lent.delay.now;
    carries = carries lent.air.now;
  }

  -- the same things are lent after a call as before it: the buffers are the caller's own, whatever they hold
  pub record SameLoans (before after : Lent N D A Num) : Type 0 where
    pub numbering : after.numbering ≡ before.numbering
    pub delay : after.delay ≡ before.delay
    pub air : after.air ≡ before.air
    pub links : after.links ≡ before.links
    pub rows : after.rows.ghost_name ≡ before.rows.ghost_name
    pub senders : after.senders.ghost_name ≡ before.senders.ghost_name
