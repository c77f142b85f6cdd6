use Rattle.std.proofs.Common.{◌≡◌}
use Rattle.flood.specs.Instants.{any_sends, changed, row_opened}
use Rattle.run.proofs.silent.open_silent_rows.Given as goal

-- the sensors before this one are opened, and it is known whether one of them sends
abbrev pub invariant-loop-at : goal.invariant-loop-at
invariant-loop-at g l =
    (l.rows ≡ changed (row_opened (g.N.Numbering.meaning l.rules.numbering.now) l.rules.settings (g.D.DelayRule.period l.delay) l.instant) 0 l.at l.initial.rows)
    × (l.sends ≡ any_sends l.at l.rows)
