use Rattle.std.proofs.Common.{rules}
use Rattle.run.specs.Standing.{between, given}
use Rattle.run.proofs.Trying.{finds_room, was_done, was_refused, was_short}
use Rattle.run.proofs.states.Idle.try_instant.Goals as goal

pub returns-in-Err-clause-value : goal.returns-in-Err-clause-value
returns-in-Err-clause-value g c =
    let inputs = given g.N.Numbering.meaning g.D.DelayRule.period g.A.Air.carries c.args.self.now.progress c.args.lent.now in
    was_refused inputs (between c.args.self.now c.args.lent.now) c.requires.checked c.args.log.now c.args.used c.in-Err.fault (search rules)

pub returns-then-overfills-clause-value : goal.returns-then-overfills-clause-value
returns-then-overfills-clause-value g c =
    let inputs = given g.N.Numbering.meaning g.D.DelayRule.period g.A.Air.carries c.args.self.now.progress c.args.lent.now in
    was_short inputs (between c.args.self.now c.args.lent.now) c.requires.checked c.args.log.now c.args.used (search rules) (search rules)

pub play_instant-requires-clause-room : goal.play_instant-requires-clause-room
play_instant-requires-clause-room g c =
    let inputs = given g.N.Numbering.meaning g.D.DelayRule.period g.A.Air.carries c.args.self.now.progress c.args.lent.now in
    finds_room inputs (between c.args.self.now c.args.lent.now) c.requires.checked c.args.log.now c.args.used (search rules) c.requires.used (search rules)

pub returns-clause-value : goal.returns-clause-value
returns-clause-value g c =
    let inputs = given g.N.Numbering.meaning g.D.DelayRule.period g.A.Air.carries c.args.self.now.progress c.args.lent.now in
    was_done inputs (between c.args.self.now c.args.lent.now) c.requires.checked c.args.log.now c.args.used (search rules) (search rules) _ _ _ c.play_instant.ensures.value
