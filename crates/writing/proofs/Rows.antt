-- The texts of the items that are left in a loop. Assumes nothing.
use Rattle.std.proofs.Common.{◌≡◌, ℕ, zero, suc, ◌+◌, ◌-◌, ◌<◌, List, [], ◌∷◌, ◌++◌, length, take, refl, arith, add-one, ◌⊎◌, inl, inr}
use Rattle.page.specs.Pages.{joined}

module _ {A : Type 0} (text : ℕ → A → List ℕ) where
  -- the texts of items from a place on, up to another place
  abbrev pub left : ℕ → ℕ → List A → List ℕ
  left place end xs = joined text place (take (end - place) xs)

  pub left_one : {place end next stop here : ℕ} {x : A} {xs rest : List A} → ((stop ≡ end) × ((0 < end - place) × (here ≡ place) × (next ≡ place + 1))) × (rest ≡ x ∷ xs) → text here x ++ left next stop xs ≡ left place end rest
  left_one {place} {end} step =
      let one : end - place ≡ suc (end - (place + 1)) = omega arith in
      rw (step.1, step.0.0, step.0.1.1, step.0.1.2, one, add-one) refl

  pub left_none : (place end : ℕ) (xs : List A) → (end - place ≡ 0) ⊎ (length xs ≡ 0) → left place end xs ≡ []
  left_none place end xs h = by (end - place) xs h
    where
      by : (n : ℕ) (ys : List A) → (n ≡ 0) ⊎ (length ys ≡ 0) → joined text place (take n ys) ≡ []
      by zero ys h = refl
      by (suc n) [] h = refl
      by (suc n) (y ∷ ys) (inl e) = absurd (omega arith)
      by (suc n) (y ∷ ys) (inr e) = absurd (omega arith)
