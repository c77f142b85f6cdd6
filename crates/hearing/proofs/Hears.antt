-- The floods that are heard, by the first of them. Assumes nothing.
use Rattle.std.proofs.Common.{◌≡◌, ℕ, zero, suc, ◌≤◌, [], ◌∷◌, length, Some, None, Option, refl, arith}
use Rattle.numbering.specs.Meaning.{Meaning}
use Rattle.hearing.specs.Hearing.{heard, hearing}

module _ {Num : Type 0} (m : Meaning Num) where
  pub hearing_none : (n : ℕ) (held base : Num) → m.next base ≡ None → hearing m n held base ≡ []
  hearing_none zero held base e = refl
  hearing_none (suc n) held base e = rw (e, hearing)

  pub hearing_more : (n : ℕ) (held base number : Num) → m.next base ≡ Some number → hearing m (suc n) held base ≡ heard m held number ∷ hearing m n (heard m held number).held number
  hearing_more n held base number e = rw (e, hearing)

  pub hearing_most : (n : ℕ) (held base : Num) → length (hearing m n held base) ≤ n
  hearing_most zero held base = omega arith
  hearing_most (suc n) held base = by (λ held base. hearing_most n held base) (m.next base) refl
    where
      by : ((held base : Num) → length (hearing m n held base) ≤ n) → (o : Option Num) → m.next base ≡ o → length (hearing m (suc n) held base) ≤ suc n
      by fewer None e = rw (hearing_none (suc n) held base e) (omega arith)
      by fewer (Some number) e = rw (hearing_more n held base number e) (omega (arith, fewer (heard m held number).held number))
