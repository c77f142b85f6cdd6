-- The lowest place from a position on. Assumes nothing.
use Rattle.std.proofs.Common.{◌≡◌, ℕ, ◌<◌, ◌≤◌, Bool, true, false, ◌&&◌, leb, Some, None, Option, refl, le-leb, leb-true}
use Rattle.std.specs.Option.{MatchOption}
use Rattle.search.specs.Lowest.{IsLowest}

module _ (test : ℕ → Bool) (first : ℕ) where
  passed : (k : ℕ) → (first ≤ k → test k ≡ false) → leb first k && test k ≡ false
  passed k none = by (leb first k) refl
    where
      by : (b : Bool) → leb first k ≡ b → leb first k && test k ≡ false
      by true e = rw (e, none (leb-true first k e)) refl
      by false e = rw e refl

  -- what `find` says of a range from `first` on
  pub found : (end : ℕ) (o : Option ℕ) → MatchOption o ((k : ℕ) → first ≤ k → k < end → test k ≡ false) (λ i. (first ≤ i) × (i < end) × (test i ≡ true) × ((k : ℕ) → first ≤ k → k < i → test k ≡ false)) → IsLowest (λ k. leb first k && test k) end o
  found end None nowhere = λ k h. passed k (λ from. nowhere k from h)
  found end (Some place) is = (is.1, rw (le-leb first place is.0, is.2) refl, λ k h. passed k (λ from. is.3 k from h))
