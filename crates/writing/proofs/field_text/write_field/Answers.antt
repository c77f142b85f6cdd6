use Rattle.std.proofs.Common.{[], rules}
use Rattle.loading.specs.Same.{LoadsAs}
use Rattle.loading.proofs.WrittenLoads.{field_loads}
use Rattle.recording.specs.Bytes.{field_bytes}
use Rattle.vetting.specs.Vetted.{vetted}
use Rattle.writing.proofs.Fronts.{front_is}
use Rattle.writing.proofs.field_text.write_field.Goals as goal

pub returns-clause-same : goal.returns-clause-same
returns-clause-same g c =
    let d = c.args.draft.now in
    let s = d.rules.settings in
    let n = d.rules.numbering.now in
    let m = g.N.Numbering.meaning n in
    let code = g.N.Filed.coded n in
    let smax = g.N.Filed.top n in
    let kind = g.N.Number.NumberKind in
    front_is (LoadsAs kind.of code smax s d.rows.now d.links.now d.losses.now []) (vetted m s d.rows.now d.links.now d.losses.now) (field_bytes kind.worth code smax s d.rows.now d.links.now d.losses.now) c.args.out.now c.ok_or.result c.write.new.page
    (search rules) (search rules)
    (field_loads m kind.of kind.worth (λ x lawful. g.met.N.Number.NumberKind.there x (g.met.N.Numbering.among n x lawful)) code smax (record { keeps = g.met.N.Filed.keeps n; values = g.met.N.Filed.values n }) s d.rows.now d.links.now d.losses.now)
