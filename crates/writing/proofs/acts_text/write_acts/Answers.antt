use Rattle.std.proofs.Common.{rules}
use Rattle.loading.specs.Same.{LoadBehind}
use Rattle.loading.proofs.WrittenLoads.{acts_load}
use Rattle.recording.specs.Bytes.{act_bytes}
use Rattle.vetting.specs.Acts.{acts_vetted}
use Rattle.writing.proofs.Fronts.{front_is}
use Rattle.writing.proofs.acts_text.write_acts.Goals as goal

pub returns-clause-same : goal.returns-clause-same
unfolding act_bytes
returns-clause-same g c =
    let s = c.args.rules.now.settings in
    let n = c.args.rules.now.numbering.now in
    let acts = c.args.acts.now in
    let m = g.N.Numbering.meaning n in
    let kind = g.N.Number.NumberKind in
    front_is (LoadBehind m kind.of kind.worth s acts) (acts_vetted m s acts) (act_bytes kind.worth acts) c.args.out.now c.ok_or.result c.write.new.page
    (search rules) (search rules)
    (acts_load m kind.of kind.worth (λ x lawful. g.met.N.Number.NumberKind.there x (g.met.N.Numbering.among n x lawful)) s acts)
