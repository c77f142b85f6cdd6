-- Which complaint a fault becomes, and what a complaint says. Assumes nothing.
use Rattle.std.specs.Prelude.{ℕ, List, codes}
use Rattle.hearing.specs.declared.Fault.{Fault}
use Rattle.hearing.specs.declared.Fault.TheVariants.{HeldUnlawful, BaseUnlawful}
use Rattle.inquiry.specs.declared.complaint.Complaint.{Complaint}
use Rattle.inquiry.specs.declared.complaint.Complaint.TheVariants.{Words, Numbering, Smax, Held, Base}

abbrev pub of_fault : Fault → Complaint
of_fault HeldUnlawful = Held
of_fault BaseUnlawful = Base

abbrev pub complaint_text : Complaint → List ℕ
complaint_text Words = codes "too few words, or too many"
complaint_text Numbering = codes "no such numbering: it is free, linear, circular or differentiated"
complaint_text Smax = codes "SMAX is not a number from 2 to 255"
complaint_text Held = codes "HELD is not a lawful number of the numbering"
complaint_text Base = codes "BASE is not a lawful number of the numbering"
