use Rattle.std.proofs.Common.{◌≡◌}
use Rattle.run.specs.Standing.{SameLoans, between, given}
use Rattle.run.proofs.Playing.{Goes}
use Rattle.run.proofs.states.Idle.play_checked.Given as goal

-- so many instants are played, and what is lent, and held by the run for good, is the same
abbrev pub invariant-loop-instants : goal.invariant-loop-instants
invariant-loop-instants g l =
    let inputs = given g.N.Numbering.meaning g.D.DelayRule.period g.A.Air.carries l.initial.self.progress l.initial.lent in
    Goes inputs l.initial.log (between l.initial.self l.initial.lent) l.instants (between l.self l.lent) l.log l.rows
    × (given g.N.Numbering.meaning g.D.DelayRule.period g.A.Air.carries l.self.progress l.lent ≡ inputs)
    × SameLoans l.initial.lent l.lent
