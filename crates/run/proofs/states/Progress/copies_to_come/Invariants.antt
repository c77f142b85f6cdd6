use Rattle.std.proofs.Common.{◌≡◌, None, count_by, is_some, take}
use Rattle.flood.specs.Copies.{message_on}
use Rattle.history.specs.Calls.{rows_opened}
use Rattle.run.specs.Standing.{given, stands}
use Rattle.run.proofs.states.Progress.copies_to_come.Given as goal

-- the copies over the links before this one are counted
abbrev pub invariant-loop-place : goal.invariant-loop-place
invariant-loop-place g l =
    let inputs = given g.N.Numbering.meaning g.D.DelayRule.period g.A.Air.carries l.self l.lent in
    l.copies ≡ count_by (λ link. is_some (message_on (rows_opened inputs (stands l.self None l.lent)) link)) (take l.place l.links)
