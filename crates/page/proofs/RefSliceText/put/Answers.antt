use Rattle.std.proofs.Common.{arith}
use Rattle.page.proofs.Wrotes.{wrote_nothing, wrote_more}
use Rattle.page.proofs.RefSliceText.put.Goals as goal

pub loop-item-init : goal.loop-item-init
loop-item-init g c = wrote_nothing c.args.pen.now

pub loop-item-preserved : goal.loop-item-preserved
loop-item-preserved g c = wrote_more (λ place. g.T.Text.text) c.args.self.now.now c.loop-item.item-index _ _ c.item-item.is (omega arith) c.loop-item.invariant c.put.ensures
