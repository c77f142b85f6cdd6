use Rattle.std.proofs.Common.{None, ◌∙◌, rules}
use Rattle.run.specs.Standing.{given, stands}
use Rattle.run.proofs.Sending.{sends_none, sends_past, sends_within}
use Rattle.run.proofs.states.Progress.sends_next.Goals as goal

pub returns-in-Some : goal.returns-in-Some
returns-in-Some g c =
    let inputs = given g.N.Numbering.meaning g.D.DelayRule.period g.A.Air.carries c.args.self.now c.args.lent.now in
    let found = c.in-Some.ensures.lookup in
    c.open_row.ensures.sends
    ∙ sends_within inputs (stands c.args.self.now None c.args.lent.now) c.args.sensor c.from.result c.from.ensures c.in-Some.row.now c.open_row.new.row found.3.0 found.1 c.if-sensor-self.true (search rules)

pub returns-in-Some-2 : goal.returns-in-Some-2
returns-in-Some-2 g c =
    let inputs = given g.N.Numbering.meaning g.D.DelayRule.period g.A.Air.carries c.args.self.now c.args.lent.now in
    let found = c.in-Some.ensures.lookup in
    rw c.is_some.ensures (sends_past inputs (stands c.args.self.now None c.args.lent.now) c.args.sensor c.from.result c.from.ensures c.in-Some.row.now found.3.0 found.1 c.if-sensor-self.false)

pub returns-in-None : goal.returns-in-None
returns-in-None g c =
    let inputs = given g.N.Numbering.meaning g.D.DelayRule.period g.A.Air.carries c.args.self.now c.args.lent.now in
    sends_none inputs (stands c.args.self.now None c.args.lent.now) c.args.sensor c.from.result c.from.ensures c.in-None.ensures.lookup.3
