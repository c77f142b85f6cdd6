use Rattle.std.proofs.Common.{◌≡◌, ◌*◌, false, take}
use Rattle.air.specs.Airs.{drowned}
use Rattle.air.proofs.collisions.drowned.Given as goal

abbrev pub invariant-loop-block : goal.invariant-loop-block
invariant-loop-block l = drowned l.link (take (l.block * 8) l.links) l.senders ≡ false
