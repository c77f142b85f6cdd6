use Rattle.std.proofs.Common.{◌≡◌, ◌+◌, ◌≤◌, Some}
use Rattle.run.specs.Standing.{SameLoans, given, stands}
use Rattle.run.proofs.Carrying.{Carries}
use Rattle.run.proofs.states.Progress.carry_all.Given as goal

-- the links before this place have been gone over, and what is lent, and held by the run for good, is the same
abbrev pub invariant-loop-place : goal.invariant-loop-place
invariant-loop-place g l =
    let inputs = given g.N.Numbering.meaning g.D.DelayRule.period g.A.Air.carries l.initial.self l.initial.lent in
    Carries inputs (stands l.initial.self (Some 0) l.initial.lent) l.initial.log l.used l.place (stands l.self (Some 0) l.lent) l.log l.rows
    × (given g.N.Numbering.meaning g.D.DelayRule.period g.A.Air.carries l.self l.lent ≡ inputs)
    × (l.self.copies ≤ l.initial.self.copies + l.place)
    × (l.self.instant ≡ l.initial.self.instant)
    × SameLoans l.initial.lent l.lent
