use Rattle.std.proofs.Common.{rules}
use Rattle.run.specs.Standing.{field_told}
use Rattle.run.proofs.Began.{begun_keeps_laws, begun_settles}
use Rattle.run.proofs.states.Idle.begin.Goals as goal

pub returns-clause-settles : goal.returns-clause-settles
returns-clause-settles g c =
    let lent = c.args.lent.now in
    let field = field_told g.N.Numbering.meaning c.args.settings c.args.count lent in
    begun_settles field (g.met.N.Numbering.follows lent.numbering.now) lent.rows.now lent.senders.now _ (search rules)

pub returns-clause-laws : goal.returns-clause-laws
returns-clause-laws g c =
    let lent = c.args.lent.now in
    let field = field_told g.N.Numbering.meaning c.args.settings c.args.count lent in
    begun_keeps_laws field (g.met.N.Numbering.follows lent.numbering.now) lent.rows.now lent.senders.now _ (search rules)
