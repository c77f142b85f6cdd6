use Rattle.std.proofs.Common.{◌*◌, ◌≤◌, length, take}
use Rattle.page.specs.Pens.{Wrote}
use Rattle.answer_key.specs.Lines.{copy_lines}
use Rattle.answer_key.proofs.lines.put_copies.Given as goal

abbrev pub invariant-loop-copy : goal.invariant-loop-copy
invariant-loop-copy g l =
    let told = copy_lines g.K.NumberKind.worth (take l.copy-index l.copies) in
    record { lines : Wrote l.initial.pen l.pen told; short : length told ≤ 43 * l.copy-index }
