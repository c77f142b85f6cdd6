use Rattle.std.proofs.Common.{ap, sym, ◌∙◌, rules}
use Rattle.filed.specs.Values.{lawful_of}
use Rattle.answer_key.proofs.Standing.{file_granted, key_of_file}
use Rattle.answer_key.proofs.states.AnswerKey.of_file.Goals as goal

pub returns-clause-key : goal.returns-clause-key
returns-clause-key g c number numbering lends =
    let file = c.args.file.now in
    let lent = c.args.lent.now in
    let granted = file_granted g.N.Numbering.meaning g.D.DelayRule.period g.A.Air.carries g.N.Number.NumberKind.of g.N.Number.NumberKind.worth file.file.now file.settings lent c.begin.new.lent number lends
    (g.N.Filed.coded file.numbering) (g.N.Filed.top file.numbering) g.met.N.Number.NumberKind.back
    (λ v. g.met.N.Filed.values file.numbering v ∙ ap (λ (n : g.row.N.Denot). lawful_of (g.N.Numbering.meaning n) g.N.Number.NumberKind.of v) (sym numbering))
    (record { bytes = file.bytes; passes = file.passes; code_is = file.coded; smax_is = file.topped; settings = file.has }) in
    key_of_file g.N.Numbering.meaning g.D.DelayRule.period g.A.Air.carries g.N.Number.NumberKind.of g.N.Number.NumberKind.worth file.file.now file.settings lent c.begin.new.lent number lends
    c.begin.result (search rules) c.begin.ensures.lent (search rules) file.passes granted.0 granted.1
