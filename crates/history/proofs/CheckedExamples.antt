-- The single cases, by computation. Assumes nothing.
use Rattle.std.proofs.Common.{refl}
use Rattle.air.specs.Draws.{draw}
use Rattle.history.specs.CheckedExamples.{CheckedExamples}

pub checked_examples : CheckedExamples
unfolding draw
checked_examples = record {
  differentiated_fresh = (refl, refl);
  differentiated_verdicts = (refl, refl);
  circular_fresh = (refl, refl);
  circular_verdicts = (refl, refl);
  circular_bounds = (refl, refl);
  drawn = refl;
  drawn_carry = (refl, refl);
  unmarked = refl;
  marked = λ hop. refl;
}
