use Rattle.std.proofs.Common.{◌≡◌, ◌++◌, length}
use Rattle.page.specs.Pens.{Wrote}
use Rattle.hearing.specs.Hearing.{hearing}
use Rattle.inquiry.specs.Written.{flood_lines, lent_floods}
use Rattle.inquiry.proofs.reports.put_floods.Given as goal

-- the lines of the floods so far are on the page, and with those to come they are all that are listed
abbrev pub invariant-loop-flood : goal.invariant-loop-flood
invariant-loop-flood g l =
    let floods = l.flood-iterator in
    (goal.iterator-loop-flood g).can_next floods ×
    (goal.iterator-loop-flood g).is_finite floods ×
    (l.yielded ++ hearing (g.N.Numbering.meaning floods.numbering.now) floods.left floods.held floods.base ≡ lent_floods g.N.Numbering.meaning l.report) ×
    (l.count ≡ length l.yielded) ×
    Wrote l.initial.pen l.pen (flood_lines g.N.Number.NumberKind.worth 1 l.yielded)
