use Rattle.std.proofs.Common.{arith, rules}
use Rattle.flood.specs.Instants.{row_opened}
use Rattle.flood.proofs.Changes.{none_changed, one_changed_by}
use Rattle.flood.proofs.Sends.{none_more, one_more}
use Rattle.flood.proofs.instants.open_rows.Goals as goal
use Rattle.flood.proofs.instants.open_rows.Goals.{then-at-rows, else-at-rows}

pub loop-sensor-preserved : goal.loop-sensor-preserved
loop-sensor-preserved g c =
    let opens = row_opened (g.N.Numbering.meaning c.args.rules.now.numbering.now) c.args.rules.now.settings (g.D.DelayRule.period c.args.delay.now) c.args.instant in
    let sensor = c.loop-sensor.sensor in
    let rows = c.loop-sensor.rows in
    let sends = c.loop-sensor.sends in
    elim c.if-at-rows.branch [
      | then-at-rows w ↦ (
        one_changed_by opens sensor c.from-at.result c.from-at.ensures c.args.rows.now rows c.if-at-rows.rows w.index-rows-at.result w.open_row-sends.new.row c.loop-sensor.invariant.0 (omega arith) w.open_row-sends.ensures.row w.rows-is,
        one_more sensor c.from-at.result c.from-at.ensures rows c.if-at-rows.rows w.open_row-sends.new.row sends w.open_row-sends.result c.if-at-rows.sends c.loop-sensor.invariant.1 (omega arith) w.open_row-sends.ensures.sends w.rows-is w.sends-is,
      )
      | else-at-rows w ↦ (none_changed opens sensor c.args.rows.now c.if-at-rows.rows (search rules) (omega arith), none_more sensor c.if-at-rows.rows c.if-at-rows.sends (search rules) (omega arith))
    ]
