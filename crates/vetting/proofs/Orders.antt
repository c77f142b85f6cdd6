-- Cases looked for one after another. Assumes nothing.
use Rattle.std.proofs.Common.{◌≡◌, ℕ, ◌+◌, ◌<◌, List, length, drop, get_or, Ok, Err, refl, ◌∙◌, add-one, drop-cons}
use Rattle.std.specs.Result.{result_and}
use Rattle.refusal.specs.declared.FieldFault.{FieldFault}
use Rattle.vetting.specs.declared.cases.MemoryCase.{MemoryCase}
use Rattle.vetting.specs.declared.cases.MemoryCase.TheVariants.{Sensors}
use Rattle.vetting.specs.Cases.{Seen, fault_in, first_fault}

module _ {Num : Type 0} (seen : Seen Num) (cases : List MemoryCase) (i : ℕ) (within : i < length cases) where
  -- of the cases from a place on, the first is looked for, and then those after it
  one_then : first_fault seen (drop i cases) ≡ result_and (fault_in seen (get_or cases i Sensors)) (first_fault seen (drop (i + 1) cases))
  one_then = rw (add-one, drop-cons cases i Sensors within) refl

  pub goes_on : (passed : Unit {0}) → fault_in seen (get_or cases i Sensors) ≡ Ok passed → first_fault seen (drop i cases) ≡ first_fault seen (drop (i + 1) cases)
  goes_on passed e = one_then ∙ rw e refl

  pub ends_with : (fault : FieldFault) → fault_in seen (get_or cases i Sensors) ≡ Err fault → first_fault seen (drop i cases) ≡ Err fault
  ends_with fault e = one_then ∙ rw e refl
