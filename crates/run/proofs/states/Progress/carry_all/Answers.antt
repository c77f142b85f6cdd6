use Rattle.std.proofs.Common.{◌≡◌, ℕ, suc, ◌+◌, ◌<◌, ◌≤◌, length, Some, None, refl, sym, ap, ◌∙◌, subst, arith}
use Rattle.std.proofs.lemmas.List.{length-take-le}
use Rattle.history.specs.Calls.{AfterCopy, copy_over}
use Rattle.history.specs.Worlds.{Lent, World, told_links}
use Rattle.history.proofs.NextCopies.{moved}
use Rattle.run.specs.Standing.{given, stands}
use Rattle.run.proofs.Carrying.{Carries, carries_all, carries_at, carries_first, carries_one, carries_past, no_copy, none_over, one_over}
use Rattle.run.proofs.Loans.{given_same, loans_stay, loans_through}
use Rattle.run.proofs.states.Progress.carry_all.Goals as goal
use Rattle.run.proofs.states.Progress.carry_all.Goals.{in-Some, in_default}

pub loop-place-init : goal.loop-place-init
loop-place-init g c =
    let inputs = given g.N.Numbering.meaning g.D.DelayRule.period g.A.Air.carries c.args.self.now c.args.lent.now in
    (carries_first inputs (stands c.args.self.now (Some 0) c.args.lent.now) c.args.log.now c.args.used refl c.requires.there, refl, omega arith, refl, loans_stay c.args.lent.now)

pub loop-place-preserved : goal.loop-place-preserved
loop-place-preserved g c =
    let inputs = given g.N.Numbering.meaning g.D.DelayRule.period g.A.Air.carries c.args.self.now c.args.lent.now in
    let start = stands c.args.self.now (Some 0) c.args.lent.now in
    let at = c.loop-place in
    let here = stands at.self (Some 0) at.lent in
    let new = c.carry_over.new in
    let after = stands new.self (Some 0) new.lent in
    let told = c.carry_over.ensures in
    let place = at.place in
    let within : place < length (told_links inputs.field) = omega (arith, length-take-le c.args.self.now.count c.args.lent.now.links.now c.requires.links.there) in
    let same = given_same g.N.Numbering.meaning g.D.DelayRule.period g.A.Air.carries at.self new.self at.lent new.lent told.lent told.settings told.links ∙ at.invariant.1 in
    let few : new.self.copies ≤ c.args.self.now.copies + (place + 1) = omega (arith, told.copies, at.invariant.2) in
    let instant = told.instant ∙ at.invariant.3 in
    let loans = loans_through at.invariant.4 told.lent in
    elim c.match-carry_over.branch [
      | in-Some w ↦ (
          let over = one_over (moved here place) (moved after (suc place)) _ w.in-Some.copy w.in-Some.ensures.value in
          let next : AfterCopy _ = record { copy = w.in-Some.copy; world = moved after (suc place) } in
          let over = subst (λ (i : Lent _). copy_over i (moved here place) place ≡ Some next) at.invariant.1 over in
          let one = carries_one inputs start c.args.log.now c.args.used place here at.log at.rows at.invariant.0 c.requires.room next over c.match-carry_over.log (w.log-is ∙ w.put.ensures) in
          (subst (λ (k : ℕ). Carries inputs start c.args.log.now c.args.used (place + 1) after c.match-carry_over.log k) (sym w.rows-is) (carries_at inputs start c.args.log.now c.args.used (place + 1) 0 _ _ _ one), same, few, instant, loans)
          )
      | in_default w ↦ (
          let gives = none_over (moved here place) (moved after place) _ (rw (no_copy c.carry_over.result w.in_default.not-Some) at told.value) in
          let none = subst (λ (i : Lent _). copy_over i (moved here place) place ≡ None) at.invariant.1 gives.0 in
          let past = carries_past inputs start c.args.log.now c.args.used place here at.log at.rows at.invariant.0 c.requires.links within none in
          let stands_still : after ≡ here = ap (λ (w : World _). moved w 0) gives.1 in
          (rw (stands_still, w.log-is, w.rows-is) past, same, few, instant, loans)
          )
    ]

pub returns-clause-value : goal.returns-clause-value
returns-clause-value g c =
    let inputs = given g.N.Numbering.meaning g.D.DelayRule.period g.A.Air.carries c.args.self.now c.args.lent.now in
    let at = c.loop-place in
    carries_all inputs (stands c.args.self.now (Some 0) c.args.lent.now) c.args.log.now c.args.used at.place (stands at.self (Some 0) at.lent) at.log at.rows at.invariant.0
    (omega (arith, length-take-le c.args.self.now.count c.args.lent.now.links.now c.requires.links.there))
