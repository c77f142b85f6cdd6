use Rattle.std.proofs.Common.{◌≤◌, ◌∙◌, length, length-append, arith, rules}
use Rattle.page.proofs.Wrotes.{wrote_front}
use Rattle.answer_key.specs.Lines.{last_line, copy_lines, key_text}
use Rattle.answer_key.proofs.ReadBack.{print_laws}
use Rattle.answer_key.proofs.lines.print.Goals as goal
use Rattle.answer_key.proofs.lines.print.Goals.{then-page-copies+else-nowhere-page, else-page-copies}

pub returns-then-nowhere-page-clause-laws : goal.returns-then-nowhere-page-clause-laws
returns-then-nowhere-page-clause-laws g c = print_laws g.K.NumberKind.among g.K.NumberKind.worth g.K.NumberKind.of g.met.K.NumberKind.there

pub returns-clause-page : goal.returns-clause-page
returns-clause-page g c =
    let parts = length-append (copy_lines g.K.NumberKind.worth c.args.copies.now) (last_line c.args.refusal) in
    let fits : length (key_text g.K.NumberKind.worth c.args.copies.now c.args.refusal) ≤ length c.args.page.now = elim c.if-page-copies.branch [
      | then-page-copies+else-nowhere-page w ↦ omega (arith, w.put_key.ensures.text.place)
      | else-page-copies w ↦ omega (arith, c.put_key-2.ensures.short, c.put_key-2.ensures.last_short)
    ] in
    search rules ∙ wrote_front fits c.put_key-2.ensures.text (omega arith)

pub returns-clause-laws : goal.returns-clause-laws
returns-clause-laws g c = print_laws g.K.NumberKind.among g.K.NumberKind.worth g.K.NumberKind.of g.met.K.NumberKind.there
