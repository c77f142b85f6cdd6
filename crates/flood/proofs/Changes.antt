-- One item changed more. Assumes nothing.
use Rattle.std.proofs.Common.{◌≡◌, ℕ, zero, suc, ◌+◌, ◌<◌, ◌≤◌, List, [], ◌∷◌, length, get_or, set, Some, None, sym, refl, ap, ◌∙◌, add-one, add-suc, suc-add, add-zero, zero-add}
use Rattle.std.specs.List.{slice_get}
use Rattle.std.proofs.lemmas.Option.{slice_get-get_or, slice_get_past}
use Rattle.flood.specs.Instants.{changed}

module _ {A : Type 0} (change : ℕ → A → A) where
  pub changed_none : (place : ℕ) (xs : List A) → changed change place 0 xs ≡ xs
  unfolding changed
  changed_none place [] = refl
  changed_none place (x ∷ xs) = refl

  turn : (place i : ℕ) (xs : List A) (x : A) → slice_get (changed change place i xs) i ≡ Some x → set (changed change place i xs) i (change (place + i) x) ≡ changed change place (suc i) xs
  unfolding changed
  turn place i [] x there = refl
  turn place zero (y ∷ ys) x there =
      let same : y ≡ x = cc in
      rw (add-zero place, changed_none (suc place) ys) (ap (λ (z : A). change place z ∷ ys) (sym same))
  turn place (suc i) (y ∷ ys) x there =
      ap (λ (zs : List A). change place y ∷ zs) (rw (add-suc place i) (rw (sym (suc-add place i)) (turn (suc place) i ys x there)))

  past : (place i : ℕ) (xs : List A) → slice_get (changed change place i xs) i ≡ None → changed change place i xs ≡ changed change place (suc i) xs
  unfolding changed
  past place i [] none = refl
  past place zero (y ∷ ys) none = absurd cc
  past place (suc i) (y ∷ ys) none = ap (λ (zs : List A). change place y ∷ zs) (past (suc place) i ys none)

  -- a turn of a loop over the first items: of what stands there, and past the end
  pub one_changed : (i : ℕ) (xs out new : List A) (d : A) → out ≡ changed change 0 i xs → i < length out → new ≡ set out i (change i (get_or out i d)) → new ≡ changed change 0 (i + 1) xs
  one_changed i xs out new d before within wrote =
      let x = get_or out i d in
      let there = ap (λ (ys : List A). slice_get ys i) (sym before) ∙ slice_get-get_or out i d within in
      rw (add-one i) (wrote ∙ ap (λ (ys : List A). set ys i (change i x)) before ∙ ap (λ (k : ℕ). set (changed change 0 i xs) i (change k x)) (sym (zero-add i)) ∙ turn 0 i xs x there)

  -- the same where the item is changed by a function of its own
  pub one_changed_by :
      (i at : ℕ) → at ≡ i → (xs out new : List A) (d y : A)
      → out ≡ changed change 0 i xs → at < length out → y ≡ change i (get_or out at d) → new ≡ set out at y → new ≡ changed change 0 (i + 1) xs
  one_changed_by i at same xs out new d y before within changes wrote =
      one_changed i xs out new d before (rw same at within) (wrote ∙ ap (λ (z : A). set out at z) changes ∙ ap (λ (k : ℕ). set out k (change i (get_or out k d))) same)

  pub none_changed : (i : ℕ) (xs out : List A) → out ≡ changed change 0 i xs → length out ≤ i → out ≡ changed change 0 (i + 1) xs
  none_changed i xs out before past_end =
      let none = ap (λ (ys : List A). slice_get ys i) (sym before) ∙ slice_get_past out i past_end in
      rw (add-one i) (before ∙ past 0 i xs none)
