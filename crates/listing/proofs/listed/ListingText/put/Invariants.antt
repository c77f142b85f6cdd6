use Rattle.page.specs.Pens.{Wrote}
use Rattle.listing.specs.Lines.{lines}
use Rattle.listing.proofs.listed.ListingText.put.Given as goal

abbrev pub invariant-loop-place : goal.invariant-loop-place
invariant-loop-place l = Wrote l.initial.pen l.pen (lines l.self.file.now l.place)
