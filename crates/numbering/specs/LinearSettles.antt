-- Linear settles: what follows is larger, and what follows the held number's own value is fresh. Assumes nothing.
use Rattle.std.specs.Prelude.{◌≡◌, ℕ, ◌+◌, ◌-◌, ◌≤◌, true, ◌⊎◌, Some, nat_lt}
use Rattle.std.proofs.lemmas.Bool.Decides.{nat_tests}
use Rattle.std.proofs.Common.{arith, lt-ltb, le-ltb}
use Rattle.numbering.specs.Four.{linear, linear_patience, linear_catch_up}
use Rattle.numbering.specs.Meaning.{after, Settles}
use Rattle.numbering.specs.After.{then_some_gives, after_at}

linear_after : (s i t : ℕ) → after linear i s ≡ Some t → t ≡ s + i
linear_after s = after_at linear s (λ i. s + i) (omega arith) (λ i t e. omega (arith, then_some_gives (nat_lt (s + i) 4294967295) (s + i + 1) t e))

-- a number that is not smaller is fresh, or the same
larger_or_same : (x t : ℕ) → x ≤ t → (nat_lt x t ≡ true) ⊎ (t ≡ x)
larger_or_same x t h = grind (arith, nat_tests)

pub linear_settles : Settles linear linear_patience linear_catch_up
linear_settles = record {
  itself = λ s l. le-ltb s s (omega arith);
  least = omega arith;
  patience = λ s t i l low high e. lt-ltb s t (omega (arith, linear_after s i t e));
  enough = λ x b lx lb. omega arith;
  catch_up = λ x b lx lb there. (x - b - 1, omega arith, λ i t low high e. larger_or_same x t (omega (arith, linear_after b i t e)));
}
