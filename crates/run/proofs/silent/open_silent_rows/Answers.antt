use Rattle.std.proofs.Common.{◌<◌, ◌≤◌, length, refl, sym, ◌∙◌, ap, arith}
use Rattle.field.specs.declared.Row.{Row}
use Rattle.flood.specs.Instants.{row_opened}
use Rattle.flood.proofs.Changes.{one_changed_by}
use Rattle.flood.proofs.Sends.{one_more}
use Rattle.run.proofs.NoneSends.{none_past, none_sends, one_sends, still_silent}
use Rattle.run.proofs.silent.open_silent_rows.Goals as goal
use Rattle.run.proofs.silent.open_silent_rows.Goals.{then-open_silent_row, else-open_silent_row}

pub open_silent_row-requires : goal.open_silent_row-requires
open_silent_row-requires g c =
    let opens = row_opened (g.N.Numbering.meaning c.args.rules.now.numbering.now) c.args.rules.now.settings (g.D.DelayRule.period c.args.delay.now) c.args.instant in
    ap (λ (row : Row _). row.outgoing) (sym c.index-rows-at.is)
    ∙ still_silent opens c.args.rules.now.settings.n c.args.rows.now c.requires c.loop-at.at (omega (arith, c.loop-at-test.true, c.min-count.ensures, c.from.ensures)) c.loop-at.rows c.loop-at.invariant.0 c.index-rows-at.result (omega arith) c.index-rows-at.is

pub loop-at-preserved : goal.loop-at-preserved
loop-at-preserved g c =
    let opens = row_opened (g.N.Numbering.meaning c.args.rules.now.numbering.now) c.args.rules.now.settings (g.D.DelayRule.period c.args.delay.now) c.args.instant in
    let at = c.loop-at.at in
    let rows = c.loop-at.rows in
    let row = c.open_silent_row.new.row in
    let before = c.loop-at.sends in
    let one = c.open_silent_row.result in
    let after = c.if-open_silent_row.sends in (
      one_changed_by opens at at refl c.args.rows.now rows _ c.index-rows-at.result row c.loop-at.invariant.0 (omega arith) c.open_silent_row.ensures.row refl,
      one_more at at refl rows _ row before one after c.loop-at.invariant.1 (omega arith) c.open_silent_row.ensures.sends refl (
          elim c.if-open_silent_row.branch [
            | then-open_silent_row w ↦ one_sends before one after w.if-open_silent_row.true w.sends-is
            | else-open_silent_row w ↦ none_sends before one after w.if-open_silent_row.false w.sends-is
          ]
          ),
    )

pub returns-clause-rows : goal.returns-clause-rows
returns-clause-rows g c =
    let opens = row_opened (g.N.Numbering.meaning c.args.rules.now.numbering.now) c.args.rules.now.settings (g.D.DelayRule.period c.args.delay.now) c.args.instant in
    let at = c.loop-at.at in
    let n = c.args.rules.now.settings.n in
    let within : at ≤ n = omega (arith, c.loop-at.auto.at-end, c.min-count.ensures, c.from.ensures) in
    let past_end : at < n → length c.args.rows.now ≤ at = λ less. omega (arith, c.loop-at-test.false, c.min-count.ensures, c.from.ensures) in
    c.loop-at.invariant.0 ∙ none_past opens 0 at n c.args.rows.now within past_end
