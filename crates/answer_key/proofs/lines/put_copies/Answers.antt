use Rattle.std.proofs.Common.{add-one, length-append, arith}
use Rattle.page.proofs.Wrotes.{wrote_nothing, wrote_then}
use Rattle.answer_key.specs.Lines.{copy_lines}
use Rattle.answer_key.proofs.Told.{lines_more}
use Rattle.answer_key.proofs.lines.put_copies.Goals as goal

pub loop-copy-init : goal.loop-copy-init
unfolding copy_lines
loop-copy-init g c = record { lines = wrote_nothing c.args.pen.now; short = omega arith }

pub loop-copy-preserved : goal.loop-copy-preserved
loop-copy-preserved g c =
    let more = lines_more g.K.NumberKind.worth c.loop-copy.copy-index c.args.copies.now _ _ (omega arith) c.copy-item.is in
    record {
      lines = rw (add-one, more) (wrote_then c.loop-copy.invariant.lines c.put_copy.ensures.line);
      short = rw (add-one, more, length-append) (omega (arith, c.loop-copy.invariant.short, c.put_copy.ensures.short));
    }
