use Rattle.std.proofs.Common.{◌≡◌, ℕ, ◌<◌, ◌≤◌, false, Some, None, arith, sym, ◌∙◌, rules}
use Rattle.search.proofs.Places.{lowest_of}
use Rattle.search.proofs.lowest.Goals as goal

pub returns-then-holds-clause-value : goal.returns-then-holds-clause-value
returns-then-holds-clause-value g c =
    let at = g.C.Case.at c.args.case.now in
    lowest_of at (g.C.Case.count c.args.case.now) (Some c.loop-place.place) (search rules, search rules, c.loop-place.invariant)

pub returns-clause-value : goal.returns-clause-value
returns-clause-value g c =
    let at = g.C.Case.at c.args.case.now in
    lowest_of at (g.C.Case.count c.args.case.now) None (λ k h. c.loop-place.invariant k (omega arith))
