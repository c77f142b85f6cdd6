use Rattle.std.proofs.Common.{inl, inr, sym, rules}
use Rattle.page.proofs.Wrotes.{wrote_nothing, wrote_as, wrote_then}
use Rattle.recording.specs.Bytes.{field_bytes}
use Rattle.recording.specs.Records.{row_record}
use Rattle.writing.proofs.Rows.{left_one, left_none}
use Rattle.writing.proofs.field_text.FieldTextText.put.Goals as goal

pub loop-sensor-preserved : goal.loop-sensor-preserved
loop-sensor-preserved g c =
    let one = left_one (row_record g.N.Number.NumberKind.worth) c.in-Some.ensures.steps in
    λ new later. c.loop-sensor.invariant new (wrote_as one (wrote_then (wrote_as c.row_record.ensures c.bytes-in-loop-sensor.ensures) later))

pub returns : goal.returns
unfolding field_bytes
returns g c =
    let last = c.loop-sensor.sensor-iterator in
    let none = left_none (row_record g.N.Number.NumberKind.worth) last.a.start last.a.end last.b.rest.now (elim c.in-None.ensures.steps [ inl h ↦ inl h.1.1.0 | inr h ↦ inr h.1.0 ]) in
    let rows = c.loop-sensor.invariant _ (wrote_as (sym none) (wrote_nothing _)) in
    wrote_as (search rules) (wrote_then c.bytes.ensures (wrote_then rows (wrote_then c.put.ensures c.put-2.ensures)))
