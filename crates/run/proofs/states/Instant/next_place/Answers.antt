use Rattle.std.proofs.Common.{◌∙◌, ap}
use Rattle.flood.specs.Copies.{next_copy}
use Rattle.run.proofs.Onward.{onward_of}
use Rattle.run.proofs.states.Instant.next_place.Goals as goal

pub returns-clause-onward : goal.returns-clause-onward
returns-clause-onward g c =
    let run = c.args.self.now in
    let lent = c.args.lent.now in
    onward_of lent.rows.now lent.links.now run.position run.progress.count c.next_copy.result
    (c.next_copy.ensures ∙ ap (λ links. next_copy lent.rows.now links run.position) c.front.ensures)
