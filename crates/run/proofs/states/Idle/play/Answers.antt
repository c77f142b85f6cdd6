use Rattle.std.proofs.Common.{length, arith, rules}
use Rattle.run.specs.Standing.{between, given}
use Rattle.run.proofs.Trying.{nothing_to_play, refused_at_once}
use Rattle.run.proofs.states.Idle.play.Goals as goal

pub returns-then-budget-eq0-clause-value : goal.returns-then-budget-eq0-clause-value
returns-then-budget-eq0-clause-value g c =
    let inputs = given g.N.Numbering.meaning g.D.DelayRule.period g.A.Air.carries c.args.self.now.progress c.args.lent.now in
    let log = c.args.log.now in
    nothing_to_play inputs (between c.args.self.now c.args.lent.now) c.args.budget (length log) log (search rules)

pub returns-in-Err-clause-value : goal.returns-in-Err-clause-value
returns-in-Err-clause-value g c =
    let inputs = given g.N.Numbering.meaning g.D.DelayRule.period g.A.Air.carries c.args.self.now.progress c.args.lent.now in
    let log = c.args.log.now in
    refused_at_once inputs (between c.args.self.now c.args.lent.now) c.args.budget (length log) log c.in-Err.fault (omega arith) (search rules)
