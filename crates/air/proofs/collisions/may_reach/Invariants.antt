use Rattle.std.proofs.Common.{◌≡◌, ◌||◌, take}
use Rattle.std.specs.Prelude.{◌==◌}
use Rattle.std.specs.List.{list_any}
use Rattle.field.specs.declared.Link.{Link}
use Rattle.air.proofs.collisions.may_reach.Given as goal

abbrev pub invariant-loop-at : goal.invariant-loop-at
invariant-loop-at l = l.may ≡ list_any (λ (other : Link). other.from == 255 || (other.to == l.receiver || other.label == 255)) (take l.at l.links)
