use Rattle.std.proofs.Common.{rules}
use Rattle.loading.proofs.WrittenBack.{filled_back}
use Rattle.loading.proofs.field_file.FileUnder.fill.Goals as goal

pub returns-clause-back : goal.returns-clause-back
returns-clause-back g c =
    let here = c.args.self.now in
    let m = here.numbering in
    filled_back g.N.Number.NumberKind.worth here.file.now here.bytes here.passes (g.N.Numbering.meaning m) g.N.Number.NumberKind.of g.met.N.Number.NumberKind.back here.coded here.topped (g.met.N.Filed.values m) here.settings here.has c.args.rows.now c.args.links.now c.args.losses.now c.args.acts.now c.in_ok-counts.counts (search rules) (search rules) (search rules) (search rules) (search rules)
