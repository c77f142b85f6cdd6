use Rattle.std.proofs.Common.{◌∙◌, refl}
use Rattle.run.specs.Standing.{between, given}
use Rattle.run.proofs.Loans.{loans_stay, loans_through}
use Rattle.run.proofs.Playing.{goes_first, goes_on, goes_until}
use Rattle.run.proofs.states.Idle.play_checked.Goals as goal

pub loop-instants-init : goal.loop-instants-init
loop-instants-init g c =
    let inputs = given g.N.Numbering.meaning g.D.DelayRule.period g.A.Air.carries c.args.self.now.progress c.args.lent.now in
    (goes_first inputs c.args.log.now (between c.args.self.now c.args.lent.now) refl c.requires, refl, loans_stay c.args.lent.now)

pub loop-instants-preserved : goal.loop-instants-preserved
loop-instants-preserved g c =
    let inputs = given g.N.Numbering.meaning g.D.DelayRule.period g.A.Air.carries c.args.self.now.progress c.args.lent.now in
    let at = c.loop-instants in
    let here = given g.N.Numbering.meaning g.D.DelayRule.period g.A.Air.carries at.self.progress at.lent in
    let new = c.try_instant.new in (
      goes_on inputs c.args.log.now (between c.args.self.now c.args.lent.now) at.instants (between at.self at.lent) at.log at.rows at.invariant.0
          (g.met.N.Numbering.follows c.args.lent.now.numbering.now) (g.met.D.DelayRule.keeps c.args.lent.now.delay.now)
          here at.invariant.1 (between new.self new.lent) new.log c.in-Ok.after c.in-Ok.ensures.value,
      c.try_instant.ensures.holds ∙ at.invariant.1,
      loans_through at.invariant.2 c.try_instant.ensures.lent,
    )

pub returns-in-Err-clause-value : goal.returns-in-Err-clause-value
returns-in-Err-clause-value g c =
    let inputs = given g.N.Numbering.meaning g.D.DelayRule.period g.A.Air.carries c.args.self.now.progress c.args.lent.now in
    let at = c.loop-instants in
    let here = given g.N.Numbering.meaning g.D.DelayRule.period g.A.Air.carries at.self.progress at.lent in
    let new = c.try_instant.new in
    goes_until inputs c.args.log.now (between c.args.self.now c.args.lent.now) at.instants (between at.self at.lent) at.log at.rows at.invariant.0
    c.args.budget c.in-Err.ending here at.invariant.1 (between new.self new.lent) new.log c.loop-instants-test.true c.in-Err.ensures.value
