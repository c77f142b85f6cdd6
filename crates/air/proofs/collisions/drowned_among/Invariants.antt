use Rattle.std.proofs.Common.{◌≡◌, false, take}
use Rattle.air.specs.Airs.{drowned}
use Rattle.air.proofs.collisions.drowned_among.Given as goal

abbrev pub invariant-loop-place : goal.invariant-loop-place
invariant-loop-place l = drowned l.link (take l.place l.links) l.senders ≡ false
