use Rattle.std.proofs.Common.{◌≡◌, ◌+◌, [], ◌∷◌, ◌++◌, List, ap, ◌∙◌, append_assoc, length, length-append, arith, rules}
use Rattle.page.proofs.Wrotes.{wrote_last}
use Rattle.hearing.specs.Hearing.{hearing}
use Rattle.inquiry.specs.Written.{flood_line}
use Rattle.inquiry.proofs.reports.put_floods.Goals as goal

pub loop-flood-preserved : goal.loop-flood-preserved
loop-flood-preserved g c =
    let before = c.loop-flood.invariant in
    let told = c.loop-flood.yielded in
    let flood = c.in-Some.flood in
    let floods = c.next.new.self in
    let rest = hearing (g.N.Numbering.meaning floods.numbering.now) floods.left floods.held floods.base in
    let behind : c.loop-flood.count + 1 ≡ 1 + length told = omega (arith, before.3) in
    let lines = wrote_last (flood_line g.N.Number.NumberKind.worth) 1 _ told flood behind before.4 c.put_flood.ensures in
    (tt, tt, append_assoc told (flood ∷ []) rest ∙ ap (λ (more : List _). told ++ more) (search rules) ∙ before.2, omega (arith, before.3, length-append told (flood ∷ [])), lines)
