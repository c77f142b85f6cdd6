use Rattle.std.proofs.Common.{take}
use Rattle.page.specs.declared.pen.Pen.{Pen}
use Rattle.page.specs.Pages.{joined}
use Rattle.page.specs.Pens.{Wrote}
use Rattle.recording.specs.Records.{row_record}
use Rattle.writing.proofs.Rows.{left}
use Rattle.writing.proofs.field_text.FieldTextText.put.Given as goal

-- what ends with the rows that are left ends with all of them
abbrev pub invariant-loop-sensor : goal.invariant-loop-sensor
invariant-loop-sensor g l =
    let text = row_record g.N.Number.NumberKind.worth in
    let numbers = l.sensor-iterator.a in
    (new : Pen) → Wrote l.pen new (left text numbers.start numbers.end l.sensor-iterator.b.rest.now) → Wrote l.initial.pen new (joined text 0 (take l.self.draft.now.rules.settings.n l.self.draft.now.rows.now))
