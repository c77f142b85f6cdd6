use Rattle.std.proofs.Common.{◌≡◌, Err, refl, rules}
use Rattle.run.specs.Standing.{between, given}
use Rattle.answer_key.proofs.Printing.{lines_portion, lines_short, no_row, nothing_portion, refusal_portion, some_row}
use Rattle.answer_key.proofs.states.AnswerKey.portion.Goals as goal

pub returns-in_err-size-clause-value : goal.returns-in_err-size-clause-value
returns-in_err-size-clause-value g c =
    let key = c.args.self.now in
    let inputs = given g.N.Numbering.meaning g.D.DelayRule.period g.A.Air.carries key.run.progress c.args.lent.now in
    let new = c.print_lines.new in
    let gives : c.from_residual.result ≡ Err c.in_err-size.field-0.0 = search rules in
    rw gives (lines_short inputs g.N.Number.NumberKind.worth c.args.acts.now key.mark (between key.run c.args.lent.now) c.args.log.now c.args.page.now _ inputs new.self new.page refl (some_row c.waiting.ensures c.if-not-is_empty.ensures) c.in_err-size.ensures)

pub returns-then-not-is_empty-clause-value : goal.returns-then-not-is_empty-clause-value
returns-then-not-is_empty-clause-value g c =
    let key = c.args.self.now in
    let inputs = given g.N.Numbering.meaning g.D.DelayRule.period g.A.Air.carries key.run.progress c.args.lent.now in
    let new = c.print_lines.new in
    lines_portion inputs g.N.Number.NumberKind.worth c.args.acts.now key.mark (between key.run c.args.lent.now) c.args.log.now c.args.page.now inputs new.self new.page _ refl c.in_ok-size.ensures

pub returns-in-Acts-clause-value : goal.returns-in-Acts-clause-value
returns-in-Acts-clause-value g c = c.next_act.ensures.value c.args.page.now

pub returns-in_ok-size-in-Refusal-clause-value : goal.returns-in_ok-size-in-Refusal-clause-value
returns-in_ok-size-in-Refusal-clause-value g c =
    let key = c.args.self.now in
    let inputs = given g.N.Numbering.meaning g.D.DelayRule.period g.A.Air.carries key.run.progress c.args.lent.now in
    let new = c.print_refusal.new in
    refusal_portion inputs g.N.Number.NumberKind.worth c.args.acts.now key.mark (between key.run c.args.lent.now) c.args.log.now c.args.page.now c.in-Refusal.fault inputs new.self new.page refl (no_row c.waiting.ensures c.if-not-is_empty.ensures) c.in-Refusal.is _ c.in_ok-size-in-Refusal.ensures

pub returns-in-Refused-clause-value : goal.returns-in-Refused-clause-value
returns-in-Refused-clause-value g c =
    let key = c.args.self.now in
    let inputs = given g.N.Numbering.meaning g.D.DelayRule.period g.A.Air.carries key.run.progress c.args.lent.now in
    nothing_portion inputs g.N.Number.NumberKind.worth c.args.acts.now key.mark (between key.run c.args.lent.now) c.args.log.now c.args.page.now _ (no_row c.waiting.ensures c.if-not-is_empty.ensures) c.in-Refused.is
