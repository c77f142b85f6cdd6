-- The windowed numbering settles. Assumes nothing.
use Rattle.std.specs.Prelude.{◌≡◌, ℕ, ◌+◌, ◌-◌, ◌*◌, ◌<◌, ◌≤◌, Bool, true, false, cond, ◌⊎◌, Some, nat_lt, refl}
use Rattle.std.proofs.lemmas.Bool.Decides.{nat_tests}
use Rattle.std.proofs.Common.{ap, ◌∙◌, inl, arith, lt-ltb, ltb-true}
use Rattle.std.proofs.lemmas.Bool.{or_left, or_right}
use Rattle.numbering.specs.Meaning.{after, Settles}
use Rattle.numbering.specs.After.{then_some_gives, after_at}
use Rattle.windowed.specs.declared.serial.Serial.{Serial}
use Rattle.windowed.specs.Window.{serial, window_fresh, windowed, window_catch_up}

module _ (window : ℕ) where
  window_after : (s : Serial) (i : ℕ) (t : Serial) → after (windowed window) i s ≡ Some t → t.value ≡ s.value + i
  window_after s i t e =
      ap (λ (u : Serial). u.value) (after_at (windowed window) s (λ k. serial (s.value + k)) (ap serial (omega arith))
      (λ k u f. then_some_gives (nat_lt (s.value + k) 65535) (serial (s.value + k + 1)) u f ∙ ap serial (omega arith)) i t e)

  ahead_fresh : (copy held : Serial) → held.value < copy.value → window_fresh window copy held ≡ true
  ahead_fresh copy held h = or_left _ _ (lt-ltb _ _ h)

  behind_fresh : (copy held : Serial) → window < held.value - copy.value → window_fresh window copy held ≡ true
  behind_fresh copy held h = or_right _ _ (lt-ltb _ _ h)

  ahead_or_same : (copy held : Serial) → held.value ≤ copy.value → (window_fresh window copy held ≡ true) ⊎ (copy ≡ held)
  ahead_or_same copy held h = grind (arith, nat_tests)

  catches : (x b : Serial) → (j : ℕ) × (j + window ≤ window_catch_up window x b) × ((i : ℕ) (t : Serial) → j < i → i ≤ j + window → after (windowed window) i b ≡ Some t → (window_fresh window t x ≡ true) ⊎ (t ≡ x))
  catches x b = by (nat_lt (2 * window) (x.value - b.value)) refl
    where
      by : (far : Bool) → nat_lt (2 * window) (x.value - b.value) ≡ far → (j : ℕ) × (j + window ≤ cond far 0 (x.value - b.value - 1) + window) × ((i : ℕ) (t : Serial) → j < i → i ≤ j + window → after (windowed window) i b ≡ Some t → (window_fresh window t x ≡ true) ⊎ (t ≡ x))
      by true e =
          let far = ltb-true (2 * window) (x.value - b.value) e in
          (0, omega arith, λ i t low high f. inl (behind_fresh t x (omega (arith, window_after b i t f))))
      by false e = (x.value - b.value - 1, omega arith, λ i t low high f. ahead_or_same t x (omega (arith, window_after b i t f)))

pub window_settles : (window : ℕ) → 1 ≤ window → Settles (windowed window) window (window_catch_up window)
window_settles window some = record {
  itself = λ s l. grind (arith, nat_tests);
  least = some;
  patience = λ s t i l low high e. ahead_fresh window t s (omega (arith, window_after window s i t e));
  enough = λ x b lx lb. let p = catches window x b in omega (arith, p.1);
  catch_up = λ x b lx lb there. catches window x b;
}
