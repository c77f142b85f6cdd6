use Rattle.std.proofs.Common.{◌≡◌, drop}
use Rattle.vetting.specs.Cases.{first_fault, seen_in}
use Rattle.vetting.proofs.memory.InMemory.first_fault.Given as goal

-- the cases before this one do not hold
abbrev pub invariant-loop-case : goal.invariant-loop-case
invariant-loop-case g l =
    let seen = seen_in g.N.Numbering.meaning l.self in
    first_fault seen l.cases ≡ first_fault seen (drop l.case-index l.cases)
