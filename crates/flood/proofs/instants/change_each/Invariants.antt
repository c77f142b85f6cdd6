use Rattle.std.proofs.Common.{◌≡◌, ℕ}
use Rattle.flood.specs.Instants.{changed}
use Rattle.flood.proofs.instants.change_each.Given as goal

abbrev pub invariant-loop-place : goal.invariant-loop-place
invariant-loop-place g l = (by : ℕ → _ → _) → ((k : ℕ) (x y : _) → goal.F-post g l.change k x y → y ≡ by k x) → l.items ≡ changed by 0 l.place l.initial.items
