-- The worked cases. Assumes nothing.
use Rattle.std.specs.Prelude.{◌≡◌, true, false}
use Rattle.numbering.specs.Four.{circular, circular_catch_up, differentiated, half}

pub record Worked : Type 0 where
  -- differentiated, smax 2, held 1: 1 is not fresh, 2 is
  pub same_number : (differentiated 2).fresh 1 1 ≡ false
  pub other_number : (differentiated 2).fresh 2 1 ≡ true
  -- circular, smax 7, held 6: 1 is fresh, 2 is not
  pub within_half : (circular 7).fresh 1 6 ≡ true
  pub past_half : (circular 7).fresh 2 6 ≡ false
  -- circular, smax 7: patience 3, catch-up count 9
  pub patience : half 7 ≡ 3
  pub catch_up : circular_catch_up 7 ≡ 9
