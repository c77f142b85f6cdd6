-- The lowest place at which a case holds. Assumes nothing.
use Rattle.std.specs.Prelude.{◌≡◌, ℕ, zero, suc, ◌<◌, Bool, true, false, cond, Some, None, Ok, Err, Option, Result}

-- the lowest of the places below n at which a case holds
unfoldable pub lowest : (ℕ → Bool) → ℕ → Option ℕ
lowest holds zero = None
lowest holds (suc n) = elim (lowest holds n) [ None ↦ cond (holds n) (Some n) None | Some place ↦ Some place ]

-- a place is the lowest of those below n at which a case holds; none is, where it holds nowhere
abbrev pub IsLowest : (ℕ → Bool) → ℕ → Option ℕ → Type 0
IsLowest holds n None = (k : ℕ) → k < n → holds k ≡ false
IsLowest holds n (Some place) = (place < n) × (holds place ≡ true) × ((k : ℕ) → k < place → holds k ≡ false)

-- the fault of the lowest place, or none
abbrev pub judged : {Fault : Type 0} → (ℕ → Fault) → Option ℕ → Result (Unit {0}) Fault
judged fault None = Ok tt
judged fault (Some place) = Err (fault place)

-- a case looked for at each of the places below n: nothing, or the fault of the lowest place at which it holds
unfoldable pub looked_for : {Fault : Type 0} → (ℕ → Fault) → ℕ → (ℕ → Bool) → Result (Unit {0}) Fault
looked_for fault n holds = judged fault (lowest holds n)
