use Rattle.run.specs.Standing.{field_told}
use Rattle.run.proofs.Began.{begun_within}
use Rattle.run.proofs.states.Idle.begin_settling.Goals as goal

pub returns-clause-within : goal.returns-clause-within
returns-clause-within g c =
    let lent = c.args.lent.now in
    let numbering = lent.numbering.now in
    begun_within (g.N.Settling.patience numbering) (g.N.Settling.catchup numbering) (field_told g.N.Numbering.meaning c.args.settings c.args.count lent) (g.met.N.Settling.settles numbering) c.begin.new.lent c.begin.result c.begin.ensures.settles
