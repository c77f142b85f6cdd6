-- The worked field, by computation. Assumes nothing.
use Rattle.std.proofs.Common.{◌≡◌, ℕ, zero, suc, ◌+◌, ◌<◌, ◌≤◌, true, true≢false, List, Some, slice_get, sym, refl, ◌∙◌, arith}
use Rattle.air.specs.Delays.{KeepsPeriods, slowest_period}
use Rattle.field.specs.declared.Row.{Row}
use Rattle.history.specs.Floods.{Flood, flood_at, verdicts_of, heard_by}
use Rattle.history.specs.Settled.{NoneMissed}
use Rattle.history.specs.Worked.{Worked, Asked, NotVacuous, floods}
use Rattle.history.proofs.Computing.{runs}
use Rattle.numbering.specs.Four.{differentiated}
use Rattle.numbering.specs.RingSettles.{differentiated_settles}

pub worked : Worked
unfolding runs
worked = record { begins = refl; logs = refl; plays = refl; ends = refl }

-- a flood that sensor 1 heard, of the G from a place on
abbrev pub OneHeard : List (Flood ℕ) → ℕ → ℕ → Type 0
OneHeard some G k = (i : ℕ) × (flood : Flood ℕ) × (k ≤ i) × (i < k + G) × (flood_at some i ≡ Some flood) × (heard_by 1 flood ≡ true)

pub none_missed : (some : List (Flood ℕ)) (G to : ℕ) → ((k : ℕ) → k + G ≤ to → OneHeard some G k) → NoneMissed some 1 G to
none_missed some G to one k h pass = let heard = one k h in true≢false (sym heard.5 ∙ pass heard.0 heard.1 heard.2 heard.3 heard.4)

pub slowest_keeps : KeepsPeriods slowest_period
slowest_keeps tmax instant sensor least = (least, omega arith)

one_heard : (k : ℕ) → k < 4 → OneHeard floods 2 k
unfolding runs floods
one_heard zero h = (0, _, omega arith, omega arith, refl, refl)
one_heard (suc zero) h = (1, _, omega arith, omega arith, refl, refl)
one_heard (suc (suc zero)) h = (2, _, omega arith, omega arith, refl, refl)
one_heard (suc (suc (suc zero))) h = (3, _, omega arith, omega arith, refl, refl)
one_heard (suc (suc (suc (suc k)))) h = absurd (omega arith)

asked :
    (k : ℕ) (flood : Flood ℕ) (row : Row ℕ) → 2 ≤ k → k ≤ 3 → flood_at floods k ≡ Some flood → slice_get flood.before 1 ≡ Some row
    → Asked (differentiated 2) 3 floods 2 (λ x b. 2) 1 k (verdicts_of 1 flood.copies)
unfolding runs floods
asked k flood row late few there row_there = record {
  followed = record {
    settles = differentiated_settles 2 (omega arith);
    is_sensor = omega arith;
    first = _;
    begins = refl;
    own = _;
    base = _;
    own_there = refl;
    base_there = refl;
  };
  none_missed = none_missed floods 2 2 (λ i h. one_heard i (omega arith));
  late = late;
  none_missed_since = none_missed floods 2 k (λ i h. one_heard i (omega arith));
  flood = flood;
  row = row;
  there = there;
  row_there = row_there;
  heard = refl;
}

pub not_vacuous : NotVacuous
unfolding runs floods
not_vacuous = record {
  begins = refl;
  periods_keep = slowest_keeps;
  numbers = refl;
  third = asked 2 _ _ (omega arith) (omega arith) refl refl;
  fourth = asked 3 _ _ (omega arith) (omega arith) refl refl;
}
