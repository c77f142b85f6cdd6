use Rattle.std.proofs.Common.{◌≡◌, Err, length, min, refl, rules}
use Rattle.std.proofs.lemmas.Option.{slice_get_past}
use Rattle.std.specs.Prelude.{◌-◌}
use Rattle.field.specs.declared.Act.TheVariants.{Play as Plays, Damage as Damages}
use Rattle.run.specs.Standing.{between, given}
use Rattle.answer_key.proofs.Portioning.{act_there, damage_portion, no_act, play_portion, play_short}
use Rattle.answer_key.proofs.Standing.{damage_holds, play_holds, same_given}
use Rattle.answer_key.proofs.states.AnswerKey.next_act.Goals as goal

pub returns-in_err-play_on-in-Some-Play-clause-value : goal.returns-in_err-play_on-in-Some-Play-clause-value
returns-in_err-play_on-in-Some-Play-clause-value g c page =
    let key = c.args.self.now in
    let lent = c.args.lent.now in
    let new = c.play_on.new in
    let world = between key.run lent in
    let inputs = given g.N.Numbering.meaning g.D.DelayRule.period g.A.Air.carries key.run.progress lent in
    let budget = c.in-Some-Play.budget in
    let found = c.in-Some-Play.ensures.lookup in
    let done = c.in_err-play_on-in-Some-Play.ensures.value in
    let same = same_given g.N.Numbering.meaning g.D.DelayRule.period g.A.Air.carries key.run new.self.run lent new.lent _ c.play_on.ensures.lent done.stands (play_holds inputs world refl (min (budget - key.mark.played) 65536) (length c.args.log.now)) in
    let gives : c.from_residual.result ≡ Err c.in_err-play_on-in-Some-Play.field-0.0 = search rules in
    let there = act_there c.args.acts.now key.mark.act c.in-Some-Play.field-0.now (Plays budget) found.3.0 found.1 c.in-Some-Play.field-0-is in
    let after = given g.N.Numbering.meaning g.D.DelayRule.period g.A.Air.carries new.self.run.progress new.lent in
    let short = play_short inputs g.N.Number.NumberKind.worth c.args.acts.now key.mark world c.args.log.now page c.requires.acts c.requires.none refl budget there after new.self.mark (between new.self.run new.lent) new.log c.in_err-play_on-in-Some-Play.field-0.0 same key.run.progress.few_links done in
    rw gives short

pub returns-in-None-clause-value : goal.returns-in-None-clause-value
returns-in-None-clause-value g c page =
    let key = c.args.self.now in
    let inputs = given g.N.Numbering.meaning g.D.DelayRule.period g.A.Air.carries key.run.progress c.args.lent.now in
    no_act inputs g.N.Number.NumberKind.worth c.args.acts.now key.mark (between key.run c.args.lent.now) c.args.log.now page c.requires.acts c.requires.none refl (slice_get_past c.args.acts.now key.mark.act c.in-None.ensures.lookup.3)

pub returns-in_ok-play_on-in-Some-Play-clause-value : goal.returns-in_ok-play_on-in-Some-Play-clause-value
returns-in_ok-play_on-in-Some-Play-clause-value g c page =
    let key = c.args.self.now in
    let lent = c.args.lent.now in
    let new = c.play_on.new in
    let world = between key.run lent in
    let inputs = given g.N.Numbering.meaning g.D.DelayRule.period g.A.Air.carries key.run.progress lent in
    let budget = c.in-Some-Play.budget in
    let found = c.in-Some-Play.ensures.lookup in
    let done = c.in_ok-play_on-in-Some-Play.ensures.value in
    let same = same_given g.N.Numbering.meaning g.D.DelayRule.period g.A.Air.carries key.run new.self.run lent new.lent _ c.play_on.ensures.lent done.stands (play_holds inputs world refl (min (budget - key.mark.played) 65536) (length c.args.log.now)) in
    play_portion inputs g.N.Number.NumberKind.worth c.args.acts.now key.mark world c.args.log.now page c.requires.acts c.requires.none refl budget
    (act_there c.args.acts.now key.mark.act c.in-Some-Play.field-0.now (Plays budget) found.3.0 found.1 c.in-Some-Play.field-0-is) _ new.self.mark (between new.self.run new.lent) new.log same refl done

pub returns-in-Some-Damage-clause-value : goal.returns-in-Some-Damage-clause-value
returns-in-Some-Damage-clause-value g c page =
    let key = c.args.self.now in
    let lent = c.args.lent.now in
    let new = c.damage.new in
    let world = between key.run lent in
    let inputs = given g.N.Numbering.meaning g.D.DelayRule.period g.A.Air.carries key.run.progress lent in
    let damage = c.in-Some-Damage.damage in
    let found = c.in-Some-Damage.ensures.lookup in
    let done = c.damage.ensures.value in
    let same = same_given g.N.Numbering.meaning g.D.DelayRule.period g.A.Air.carries key.run new.self.run lent new.lent _ c.damage.ensures.lent done.stands (damage_holds inputs world refl damage) in
    damage_portion inputs g.N.Number.NumberKind.worth c.args.acts.now key.mark world c.args.log.now page c.requires.acts c.requires.none refl damage (act_there c.args.acts.now key.mark.act c.in-Some-Damage.field-0.now (Damages damage) found.3.0 found.1 c.in-Some-Damage.field-0-is) _ new.self.mark (between new.self.run new.lent) same done
