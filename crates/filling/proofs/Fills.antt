-- One place more. Assumes nothing.
use Rattle.std.proofs.Common.{◌≡◌, ℕ, zero, suc, ◌+◌, ◌≤◌, min, Bool, true, false, leb, List, [], ◌∷◌, length, set, Some, None, Option, unwrap_or, sym, refl, ap, ◌∙◌, add-one, arith, leb-false, leb-true}
use Rattle.filling.specs.Filled.{filled}

module _ {A : Type 0} where
  pub filled_zero : (item : ℕ → Option A) (xs : List A) → filled item 0 xs ≡ xs
  unfolding filled
  filled_zero item [] = refl
  filled_zero item (x ∷ xs) = refl

  pub filled_some : (item : ℕ → Option A) (i : ℕ) (xs : List A) (v : A) → item i ≡ Some v → filled item (suc i) xs ≡ set (filled item i xs) i v
  unfolding filled
  filled_some item i [] v e = refl
  filled_some item zero (x ∷ xs) v e = rw (e, filled_zero (λ k. item (suc k)) xs)
  filled_some item (suc i) (x ∷ xs) v e = ap (λ (ys : List A). unwrap_or (item 0) x ∷ ys) (filled_some (λ k. item (suc k)) i xs v e)

  pub filled_none : (item : ℕ → Option A) (i : ℕ) (xs : List A) → item i ≡ None → filled item (suc i) xs ≡ filled item i xs
  unfolding filled
  filled_none item i [] e = refl
  filled_none item zero (x ∷ xs) e = rw (e, filled_zero (λ k. item (suc k)) xs)
  filled_none item (suc i) (x ∷ xs) e = ap (λ (ys : List A). unwrap_or (item 0) x ∷ ys) (filled_none (λ k. item (suc k)) i xs e)

  -- past the buffer's end there is nothing to fill
  filled_past : (item : ℕ → Option A) (n : ℕ) (xs : List A) → length xs ≤ n → filled item (length xs) xs ≡ filled item n xs
  unfolding filled
  filled_past item n [] h = refl
  filled_past item zero (x ∷ xs) h = absurd (omega arith)
  filled_past item (suc n) (x ∷ xs) h = ap (λ (ys : List A). unwrap_or (item 0) x ∷ ys) (filled_past (λ k. item (suc k)) n xs (omega arith))

  pub filled_all : (item : ℕ → Option A) (n k : ℕ) (xs : List A) → k ≡ min n (length xs) → filled item k xs ≡ filled item n xs
  filled_all item n k xs e = by (leb n (length xs)) refl
    where
      by : (b : Bool) → leb n (length xs) ≡ b → filled item k xs ≡ filled item n xs
      by true h =
          let same : k ≡ n = omega (arith, leb-true n (length xs) h) in
          ap (λ (j : ℕ). filled item j xs) same
      by false h =
          let past = leb-false n (length xs) h in
          let same : k ≡ length xs = omega arith in
          ap (λ (j : ℕ). filled item j xs) same ∙ filled_past item n xs (omega arith)

  -- a turn of the loop
  pub one_more : (item : ℕ → Option A) (i : ℕ) (xs out new : List A) (v : A) → out ≡ filled item i xs → item i ≡ Some v → new ≡ set out i v → new ≡ filled item (i + 1) xs
  one_more item i xs out new v before is wrote = wrote ∙ ap (λ (ys : List A). set ys i v) before ∙ sym (filled_some item i xs v is) ∙ ap (λ (k : ℕ). filled item k xs) (sym (add-one i))

  pub none_more : (item : ℕ → Option A) (i : ℕ) (xs out new : List A) → out ≡ filled item i xs → item i ≡ None → new ≡ out → new ≡ filled item (i + 1) xs
  none_more item i xs out new before is same = same ∙ before ∙ sym (filled_none item i xs is) ∙ ap (λ (k : ℕ). filled item k xs) (sym (add-one i))
