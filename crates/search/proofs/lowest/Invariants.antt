use Rattle.std.proofs.Common.{◌≡◌, ℕ, ◌<◌, false}
use Rattle.search.proofs.lowest.Given as goal

-- at no place before this one does the case hold
abbrev pub invariant-loop-place : goal.invariant-loop-place
invariant-loop-place g l = (k : ℕ) → k < l.place → g.C.Case.at l.case k ≡ false
