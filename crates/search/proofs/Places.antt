-- What the lowest place is. Assumes nothing.
use Rattle.std.proofs.Common.{◌≡◌, ℕ, zero, suc, ◌+◌, ◌-◌, ◌<◌, Bool, true, false, is_some, Some, None, Ok, Option, is_ok, sym, refl, subst, suc-add, zero-add, add-one, arith, below_more}
use Rattle.search.specs.Lowest.{lowest, IsLowest, looked_for}

module _ (holds : ℕ → Bool) where
  pub lowest_zero : lowest holds 0 ≡ None
  unfolding lowest
  lowest_zero = refl

  -- one place more at which it does not hold
  pub lowest_more : (i : ℕ) → lowest holds i ≡ None → holds i ≡ false → lowest holds (i + 1) ≡ None
  unfolding lowest
  lowest_more i none here = rw (add-one i) (rw (none, lowest) (rw here))

  one_more_found : (i : ℕ) → lowest holds i ≡ None → holds i ≡ true → lowest holds (suc i) ≡ Some i
  unfolding lowest
  one_more_found i none here = rw (none, lowest) (rw here)

  found_before : (n i : ℕ) → lowest holds n ≡ Some i → lowest holds (suc n) ≡ Some i
  unfolding lowest
  found_before n i found = rw (found, lowest)

  found_stays : (i k : ℕ) → lowest holds (suc i) ≡ Some i → lowest holds (k + suc i) ≡ Some i
  found_stays i zero found = rw (zero-add (suc i)) found
  found_stays i (suc k) found = rw (suc-add k (suc i)) (found_before (k + suc i) i (found_stays i k found))

  -- the first place at which it holds is the lowest, however many places follow
  pub lowest_first : (i n : ℕ) → i < n → lowest holds i ≡ None → holds i ≡ true → lowest holds n ≡ Some i
  lowest_first i n h none here =
      let rest : n - suc i + suc i ≡ n = omega arith in
      subst (λ (k : ℕ). lowest holds k ≡ Some i) rest (found_stays i (n - suc i) (one_more_found i none here))

  pub none_lowest : (n : ℕ) → ((k : ℕ) → k < n → holds k ≡ false) → lowest holds n ≡ None
  none_lowest zero nowhere = lowest_zero
  none_lowest (suc n) nowhere = rw (sym (add-one n)) (lowest_more n (none_lowest n (λ k h. nowhere k (omega arith))) (nowhere n (omega arith)))

  -- no other place is the lowest
  pub lowest_of : (n : ℕ) (o : Option ℕ) → IsLowest holds n o → o ≡ lowest holds n
  lowest_of n None nowhere = sym (none_lowest n nowhere)
  lowest_of n (Some place) is = sym (lowest_first place n is.0 (none_lowest place is.2) is.1)

  last_or_before : (n k : ℕ) → k < suc n → ((j : ℕ) → j < n → holds j ≡ false) → holds n ≡ false → holds k ≡ false
  last_or_before n k h below here = below_more (λ j. holds j ≡ false) n below here k (omega arith)

  grows : (n : ℕ) (o : Option ℕ) → lowest holds n ≡ o → IsLowest holds n o → (b : Bool) → holds n ≡ b → IsLowest holds (suc n) (lowest holds (suc n))
  grows n None found is true here = rw (one_more_found n found here) (omega arith, here, is)
  grows n None found is false here =
      let none : lowest holds (suc n) ≡ None = rw (add-one n) at (lowest_more n found here) in
      rw none (λ k h. last_or_before n k h is here)
  grows n (Some place) found is b here = rw (found_before n place found) (omega (arith, is.0), is.1, is.2)

  lowest_is : (n : ℕ) → IsLowest holds n (lowest holds n)
  lowest_is zero = rw lowest_zero (λ k h. absurd (omega arith))
  lowest_is (suc n) = grows n (lowest holds n) refl (lowest_is n) (holds n) refl

  -- what the definition gives is the lowest place
  pub is_lowest : (n : ℕ) (o : Option ℕ) → o ≡ lowest holds n → IsLowest holds n o
  is_lowest n o e = subst (IsLowest holds n) (sym e) (lowest_is n)

  -- it holds somewhere or nowhere
  pub found_at : (n : ℕ) → is_some (lowest holds n) ≡ true → (k : ℕ) × (k < n) × (holds k ≡ true)
  found_at n found = by (lowest holds n) (lowest_is n) found
    where
      by : (o : Option ℕ) → IsLowest holds n o → is_some o ≡ true → (k : ℕ) × (k < n) × (holds k ≡ true)
      by None none e = absurd cc
      by (Some place) is e = (place, is.0, is.1)

  pub found_nowhere : (n : ℕ) → is_some (lowest holds n) ≡ false → (k : ℕ) → k < n → holds k ≡ false
  found_nowhere n missing = by (lowest holds n) (lowest_is n) missing
    where
      by : (o : Option ℕ) → IsLowest holds n o → is_some o ≡ false → (k : ℕ) → k < n → holds k ≡ false
      by None none e = none
      by (Some place) is e = absurd cc

  pub found : (n k : ℕ) → k < n → holds k ≡ true → is_some (lowest holds n) ≡ true
  found n k h here = by (lowest holds n) (lowest_is n)
    where
      by : (o : Option ℕ) → IsLowest holds n o → is_some o ≡ true
      by None none = let there = none k h in absurd cc
      by (Some place) is = refl

-- a case that is looked for and not found holds nowhere, and one that holds nowhere is not found
pub nowhere : {Fault : Type 0} (fault : ℕ → Fault) (n : ℕ) (holds : ℕ → Bool) → is_ok (looked_for fault n holds) ≡ true → (k : ℕ) → k < n → holds k ≡ false
unfolding looked_for
nowhere fault n holds passes = by (lowest holds n) refl
  where
    by : (o : Option ℕ) → o ≡ lowest holds n → (k : ℕ) → k < n → holds k ≡ false
    by None e = is_lowest holds n None e
    by (Some place) e = absurd cc

pub none_found : {Fault : Type 0} (fault : ℕ → Fault) (n : ℕ) (holds : ℕ → Bool) → ((k : ℕ) → k < n → holds k ≡ false) → looked_for fault n holds ≡ Ok tt
unfolding looked_for
none_found fault n holds never = rw (none_lowest holds n never) refl
