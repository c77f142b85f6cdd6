-- Items read from a section and written back are the section. Assumes nothing.
use Rattle.std.proofs.Common.{◌≡◌, ℕ, zero, suc, ◌+◌, ◌*◌, ◌<◌, ◌≤◌, List, [], ◌∷◌, ◌++◌, length, take, drop, Some, Option, sym, ap, ◌∙◌, add-zero, add-suc, suc-add, arith, length-drop, take-append-drop}
use Rattle.std.proofs.lemmas.List.{nil_from_length, drop-drop}
use Rattle.filling.specs.Filled.{filled}
use Rattle.page.specs.Pages.{joined}
use Rattle.loading.proofs.Chunks.{chunk}

module _ {A : Type 0} where
  -- the item at a place is there, and its record is the chunk at that place
  pub record Back (item : ℕ → Option A) (written : ℕ → A → List ℕ) (section : List ℕ) (place i : ℕ) : Type 0 where
    pub x : A
    pub there : item i ≡ Some x
    pub same : written (place + i) x ≡ chunk i section

  pub items_back :
      (m place : ℕ) (item : ℕ → Option A) (written : ℕ → A → List ℕ) (section : List ℕ) (buffer : List A)
      → length section ≡ 12 * m → m ≤ length buffer → ((i : ℕ) → i < m → Back item written section place i)
      → joined written place (take m (filled item m buffer)) ≡ section
  unfolding filled
  items_back zero place item written section buffer long room back = sym (nil_from_length section (omega arith))
  items_back (suc m) place item written section [] long room back = absurd (omega arith)
  items_back (suc m) place item written section (y ∷ buffer) long room back =
      let first = back 0 (omega arith) in
      let rest = drop 12 section in
      let later : (i : ℕ) → i < m → Back (λ k. item (suc k)) written rest (suc place) i = λ i h. next i (back (suc i) (omega arith)) in
      let short : length rest ≡ 12 * m = length-drop 12 section ∙ omega arith in
      rw first.there (ap (λ (t : List ℕ). t ++ joined written (suc place) (take m (filled (λ k. item (suc k)) m buffer))) (sym (ap (λ (k : ℕ). written k first.x) (add-zero place)) ∙ first.same)
      ∙ ap (λ (t : List ℕ). take 12 section ++ t) (items_back m (suc place) (λ k. item (suc k)) written rest buffer short (omega arith) later)
      ∙ take-append-drop 12 section)
    where
      next : (i : ℕ) → Back item written section place (suc i) → Back (λ k. item (suc k)) written (drop 12 section) (suc place) i
      next i one =
          let at : 12 + 12 * i ≡ 12 * suc i = omega arith in
          record {
            x = one.x;
            there = one.there;
            same = ap (λ (k : ℕ). written k one.x) (suc-add place i ∙ sym (add-suc place i)) ∙ one.same ∙ ap (take 12) (ap (λ (k : ℕ). drop k section) (sym at) ∙ sym (drop-drop (12 * i) 12 section));
          }
