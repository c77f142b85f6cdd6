-- What a buffer holds once its first places were filled. Assumes nothing.
use Rattle.std.specs.Prelude.{ℕ, zero, suc, List, [], ◌∷◌, Option}
use Rattle.std.specs.Option.{unwrap_or}

-- Each of the first n places takes the item there is for it; where there is none, and past n, what was there stays.
unfoldable pub filled : {A : Type 0} → (ℕ → Option A) → ℕ → List A → List A
filled item n [] = []
filled item zero (x ∷ xs) = x ∷ xs
filled item (suc n) (x ∷ xs) = unwrap_or (item 0) x ∷ filled (λ i. item (suc i)) n xs
