use Rattle.std.proofs.Common.{◌≡◌, None, Some, sym, ◌∙◌}
use Rattle.flood.specs.Copies.{next_copy}
use Rattle.history.specs.Worlds.{told_links}
use Rattle.run.specs.Standing.{given, stands, within}
use Rattle.run.proofs.Taking.{taken_over}
use Rattle.run.proofs.states.Instant.take_next.Goals as goal

pub returns-clause-value : goal.returns-clause-value
returns-clause-value g c =
    let run = c.args.self.now in
    let lent = c.args.lent.now in
    let inputs = given g.N.Numbering.meaning g.D.DelayRule.period g.A.Air.carries run.progress lent in
    let place = c.in_ok-place.place in
    let next : Some place ≡ next_copy lent.rows.now (told_links inputs.field) run.position = sym c.in_ok-place.was ∙ c.next_place.ensures.value in
    taken_over inputs (within run lent) run.position place next (Some c.in_ok-copy.copy) (stands c.carry_over.new.self None c.carry_over.new.lent) c.in_ok-copy.ensures.value
