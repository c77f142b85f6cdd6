-- The worked calls, by computation. Assumes nothing.
use Rattle.std.proofs.Common.{refl}
use Rattle.history.specs.WorkedCalls.{WorkedCalls}
use Rattle.history.proofs.Computing.{runs}

pub worked_calls : WorkedCalls
unfolding runs
worked_calls = record {
  begins = refl;
  answers = refl;
  stands = refl;
  floods = refl;
  no_sensor = (refl, refl);
  bad_link = (refl, refl);
  repeats = (refl, refl);
  too_many = refl;
  bad_row = (refl, refl);
  short_buffer = ((refl, refl), (refl, refl), (refl, refl));
  bad_byte = (refl, refl);
  link_lower = refl;
  sensor_lower = refl;
  row_lower = refl;
  damage_lower = refl;
  look_checks = refl;
  last_instant = refl;
  no_number = refl;
  no_room = refl;
  no_budget = refl;
  budget = refl;
}
