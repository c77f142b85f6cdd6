-- What stands at a place, once each item is changed or one is set. Assumes nothing.
use Rattle.std.proofs.lemmas.Option.{same_Some, none-some}
use Rattle.std.proofs.Common.{◌≡◌, ℕ, zero, suc, ◌+◌, ◌<◌, ◌⊎◌, inl, inr, Bool, cond, List, [], ◌∷◌, length, set, Some, None, Option, sym, refl, ap, ◌∙◌, arith}
use Rattle.std.specs.List.{slice_get}
use Rattle.flood.specs.Instants.{changed}
use Rattle.search.specs.Lowest.{lowest}

-- tests that agree below n have the same lowest place
abbrev or_here : Option ℕ → Bool → ℕ → Option ℕ
or_here o here n = elim o [ None ↦ cond here (Some n) None | Some place ↦ Some place ]

pub same_lowest : (f g : ℕ → Bool) (n : ℕ) → ((k : ℕ) → k < n → f k ≡ g k) → lowest f n ≡ lowest g n
unfolding lowest
same_lowest f g zero same = refl
same_lowest f g (suc n) same =
    ap (λ (o : Option ℕ). or_here o (f n) n) (same_lowest f g n (λ k h. same k (omega arith)))
    ∙ ap (λ (here : Bool). or_here (lowest g n) here n) (same n (omega arith))

module _ {A : Type 0} where
  pub none_is_some : {P : Type 0} (x : A) → ◌≡◌ {A = Option A} None (Some x) → P
  none_is_some x e = absurd (none-some x e)

  module _ (change : ℕ → A → A) where
    pub length_changed : (place n : ℕ) (xs : List A) → length (changed change place n xs) ≡ length xs
    unfolding changed
    length_changed place n [] = refl
    length_changed place zero (x ∷ xs) = refl
    length_changed place (suc n) (x ∷ xs) = ap suc (length_changed (suc place) n xs)

    from : (place n k : ℕ) (xs : List A) (y : A) → k < n → slice_get (changed change place n xs) k ≡ Some y → (x : A) × (slice_get xs k ≡ Some x) × (y ≡ change (place + k) x)
    unfolding changed
    from place n k [] y h e = none_is_some y e
    from place zero k (x ∷ xs) y h e = absurd (omega arith)
    from place (suc n) zero (x ∷ xs) y h e = (x, refl, sym (same_Some (change place x) y e) ∙ ap (λ (i : ℕ). change i x) (omega arith))
    from place (suc n) (suc k) (x ∷ xs) y h e =
        let there = from (suc place) n k xs y (omega arith) e in
        (there.0, there.1, there.2 ∙ ap (λ (i : ℕ). change i there.0) (omega arith))

    -- an item of the first n is what its change makes of what stood there
    pub changed_at : (n k : ℕ) (xs : List A) (y : A) → k < n → slice_get (changed change 0 n xs) k ≡ Some y → (x : A) × (slice_get xs k ≡ Some x) × (y ≡ change k x)
    changed_at n k xs y h e =
        let there = from 0 n k xs y h e in
        (there.0, there.1, there.2 ∙ ap (λ (i : ℕ). change i there.0) (omega arith))

    onto : (place n k : ℕ) (xs : List A) (x : A) → k < n → slice_get xs k ≡ Some x → slice_get (changed change place n xs) k ≡ Some (change (place + k) x)
    unfolding changed
    onto place n k [] x h e = none_is_some x e
    onto place zero k (y ∷ xs) x h e = absurd (omega arith)
    onto place (suc n) zero (y ∷ xs) x h e = ap (λ (z : A). Some (change place z)) (same_Some y x e) ∙ ap (λ (i : ℕ). Some (change i x)) (omega arith)
    onto place (suc n) (suc k) (y ∷ xs) x h e = onto (suc place) n k xs x (omega arith) e ∙ ap (λ (i : ℕ). Some (change i x)) (omega arith)

    -- what a change leaves as it was
    pub changed_same : (place n : ℕ) (xs : List A) → ((k : ℕ) (x : A) → k < n → slice_get xs k ≡ Some x → change (place + k) x ≡ x) → changed change place n xs ≡ xs
    unfolding changed
    changed_same place n [] same = refl
    changed_same place zero (x ∷ xs) same = refl
    changed_same place (suc n) (x ∷ xs) same =
        let first : change place x ≡ x = ap (λ (i : ℕ). change i x) (omega arith) ∙ same 0 x (omega arith) refl in
        rw (first, changed_same (suc place) n xs (λ k y h e. ap (λ (i : ℕ). change i y) (omega arith) ∙ same (suc k) y (omega arith) e)) refl

    -- the other way round
    pub at_changed : (n k : ℕ) (xs : List A) (x : A) → k < n → slice_get xs k ≡ Some x → slice_get (changed change 0 n xs) k ≡ Some (change k x)
    at_changed n k xs x h e = onto 0 n k xs x h e ∙ ap (λ (i : ℕ). Some (change i x)) (omega arith)

  -- two changes, one after the other
  pub changed_twice : (first second : ℕ → A → A) (place n : ℕ) (xs : List A) → changed second place n (changed first place n xs) ≡ changed (λ k x. second k (first k x)) place n xs
  unfolding changed
  changed_twice first second place n [] = refl
  changed_twice first second place zero (x ∷ xs) = refl
  changed_twice first second place (suc n) (x ∷ xs) = ap (λ (ys : List A). second place (first place x) ∷ ys) (changed_twice first second (suc place) n xs)

  -- after a set, what stands at a place was set there, or stood there
  pub set_at : (xs : List A) (t k : ℕ) (x y : A) → slice_get (set xs t x) k ≡ Some y → ((k ≡ t) × (y ≡ x)) ⊎ (slice_get xs k ≡ Some y)
  set_at [] t k x y e = none_is_some y e
  set_at (z ∷ xs) zero zero x y e = inl (refl, sym (same_Some x y e))
  set_at (z ∷ xs) zero (suc k) x y e = inr e
  set_at (z ∷ xs) (suc t) zero x y e = inr e
  set_at (z ∷ xs) (suc t) (suc k) x y e = by (set_at xs t k x y e)
    where
      by : ((k ≡ t) × (y ≡ x)) ⊎ (slice_get xs k ≡ Some y) → ((suc k ≡ suc t) × (y ≡ x)) ⊎ (slice_get xs k ≡ Some y)
      by (inl same) = inl (ap suc same.0, same.1)
      by (inr other) = inr other

  -- what was set is there, where something stood, and any other place is as it was
  pub at_set : (xs : List A) (t : ℕ) (x y : A) → slice_get xs t ≡ Some y → slice_get (set xs t x) t ≡ Some x
  at_set [] t x y e = none_is_some y e
  at_set (z ∷ xs) zero x y e = refl
  at_set (z ∷ xs) (suc t) x y e = at_set xs t x y e

  pub at_other : (xs : List A) (t k : ℕ) (x : A) → (k ≡ t → ⊥) → slice_get (set xs t x) k ≡ slice_get xs k
  at_other [] t k x apart = refl
  at_other (z ∷ xs) zero zero x apart = absurd (apart refl)
  at_other (z ∷ xs) zero (suc k) x apart = refl
  at_other (z ∷ xs) (suc t) zero x apart = refl
  at_other (z ∷ xs) (suc t) (suc k) x apart = at_other xs t k x (λ e. apart (ap suc e))

  pub there_is : (xs : List A) (k : ℕ) → k < length xs → (x : A) × (slice_get xs k ≡ Some x)
  there_is [] k h = absurd (omega arith)
  there_is (x ∷ xs) zero h = (x, refl)
  there_is (x ∷ xs) (suc k) h = there_is xs k (omega arith)
