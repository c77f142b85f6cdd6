use Rattle.std.proofs.Common.{◌∙◌, arith, rules}
use Rattle.filling.proofs.Fills.{filled_zero, filled_all, one_more, none_more}
use Rattle.filling.proofs.fill.Goals as goal
use Rattle.filling.proofs.fill.Goals.{in-Some, in_default}

pub loop-place-init : goal.loop-place-init
loop-place-init g c = search (rules, filled_zero (g.S.Source.at c.args.source.now) c.args.out.now)

pub loop-place-preserved : goal.loop-place-preserved
loop-place-preserved g c =
    let at = g.S.Source.at c.args.source.now in
    elim c.match-item.branch [
      | in-Some w ↦ one_more at c.loop-place.place c.args.out.now c.loop-place.out c.match-item.out w.in-Some.item c.loop-place.invariant (search rules) (search rules)
      | in_default w ↦ none_more at c.loop-place.place c.args.out.now c.loop-place.out c.match-item.out c.loop-place.invariant (search rules) (search rules)
    ]

pub returns : goal.returns
returns g c =
    let at = g.S.Source.at c.args.source.now in
    let size = g.S.Source.size c.args.source.now in
    c.loop-place.invariant ∙ filled_all at size c.loop-place.place c.args.out.now (omega arith)
