use Rattle.std.proofs.Common.{take}
use Rattle.page.specs.Pages.{joined}
use Rattle.page.specs.Pens.{Wrote}
use Rattle.recording.proofs.RecordsText.put.Given as goal

abbrev pub invariant-loop-item : goal.invariant-loop-item
invariant-loop-item g l = Wrote l.initial.pen l.pen (joined (λ place. g.R.Recorded.bytes) 0 (take l.item-index l.item-items))
