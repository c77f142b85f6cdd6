use Rattle.std.proofs.Common.{◌≡◌}
use Rattle.flood.specs.Instants.{any_sends, changed, row_opened}
use Rattle.flood.proofs.instants.open_rows.Given as goal

-- the sensors before this one are opened, and it is known whether one of them sends
abbrev pub invariant-loop-sensor : goal.invariant-loop-sensor
invariant-loop-sensor g l =
    (l.rows ≡ changed (row_opened (g.N.Numbering.meaning l.rules.numbering.now) l.rules.settings (g.D.DelayRule.period l.delay) l.instant) 0 l.sensor l.initial.rows)
    × (l.sends ≡ any_sends l.sensor l.rows)
