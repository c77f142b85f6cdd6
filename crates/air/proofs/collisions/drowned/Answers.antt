use Rattle.std.proofs.Common.{◌≡◌, ℕ, ◌*◌, ◌+◌, false, sym, ap, ◌∙◌, arith, take, drop, length}
use Rattle.std.specs.Prelude.{◌-◌, ◌/◌}
use Rattle.std.specs.List.{list_any}
use Rattle.air.specs.Airs.{meets}
use Rattle.air.proofs.Blocks.{none_up_to, none_reach, one_among, rest_decides}
use Rattle.air.proofs.collisions.drowned.Goals.{else-may_reach-via-then-may_reach+else-drowned_among, else-may_reach-via-else-may_reach}
use Rattle.air.proofs.collisions.drowned.Goals as goal

pub returns-then-drowned_among : goal.returns-then-drowned_among
returns-then-drowned_among c =
    sym (one_among (meets c.args.link c.args.senders.now) c.args.links.now (c.loop-block.block * 8) (c.loop-block.block * 8 + 8) (sym c.drowned_among.ensures ∙ c.if-drowned_among.true))

pub loop-block-preserved : goal.loop-block-preserved
loop-block-preserved c =
    let links = c.args.links.now in
    let test = meets c.args.link c.args.senders.now in
    let from = c.loop-block.block * 8 in
    let next = (c.loop-block.block + 1) * 8 in
    let part : take (next - from) (drop from links) ≡ take (from + 8 - from) (drop from links) = ap (λ (k : ℕ). take k (drop from links)) (omega arith) in
    let more = λ (none : list_any test (take (from + 8 - from) (drop from links)) ≡ false). none_up_to test links from next (omega arith) c.loop-block.invariant (ap (list_any test) part ∙ none) in
    elim c.else-may_reach.branch [
      | else-may_reach-via-then-may_reach+else-drowned_among w ↦ more (sym w.drowned_among.ensures ∙ w.if-drowned_among.false)
      | else-may_reach-via-else-may_reach w ↦ more (none_reach c.args.link c.args.senders.now (take (from + 8 - from) (drop from links)) (sym c.may_reach.ensures ∙ w.if-may_reach.false))
    ]

pub returns : goal.returns
returns c =
    let links = c.args.links.now in
    let last : c.loop-block.block ≡ length links / 8 = omega (arith, c.loop-block-test.false, c.loop-block.auto.block-end) in
    let none : list_any (meets c.args.link c.args.senders.now) (take (length links / 8 * 8) links) ≡ false = rw (sym last) c.loop-block.invariant in
    c.drowned_among-2.ensures ∙ sym (rest_decides (meets c.args.link c.args.senders.now) links (length links / 8 * 8) none)
