use Rattle.std.proofs.Common.{◌≡◌}
use Rattle.filling.specs.Filled.{filled}
use Rattle.filling.proofs.fill.Given as goal

abbrev pub invariant-loop-place : goal.invariant-loop-place
invariant-loop-place g l = l.out ≡ filled (g.S.Source.at l.source) l.place l.initial.out
