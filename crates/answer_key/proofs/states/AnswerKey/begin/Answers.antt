use Rattle.std.proofs.Common.{rules}
use Rattle.run.specs.Standing.{between}
use Rattle.answer_key.proofs.Standing.{begins_whole, key_settles}
use Rattle.answer_key.proofs.states.AnswerKey.begin.Goals as goal

pub returns-clause-whole : goal.returns-clause-whole
returns-clause-whole g c = begins_whole g.N.Number.NumberKind.worth c.args.index _ (between c.in_ok-run.run' c.begin.new.lent)

pub returns-clause-settles : goal.returns-clause-settles
returns-clause-settles g c =
    key_settles g.N.Numbering.meaning c.args.settings c.args.count c.args.lent.now c.begin.new.lent c.in_ok-run.run' g.D.DelayRule.period g.A.Air.carries
    (g.met.D.DelayRule.keeps c.begin.new.lent.delay.now) (search rules) c.in_ok-run.ensures.lent c.in_ok-run.ensures.settles c.args.index
