use Rattle.std.proofs.Common.{add-one}
use Rattle.page.proofs.Wrotes.{wrote_nothing, wrote_then}
use Rattle.listing.specs.Lines.{lines}
use Rattle.listing.proofs.listed.ListingText.put.Goals as goal

pub loop-place-init : goal.loop-place-init
unfolding lines
loop-place-init c = wrote_nothing c.args.pen.now

pub loop-place-preserved : goal.loop-place-preserved
unfolding lines
loop-place-preserved c = rw add-one (wrote_then c.loop-place.invariant c.put_record.ensures)
