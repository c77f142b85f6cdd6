-- Texts of twelve bytes, joined, are a row of records. Assumes nothing.
use Rattle.std.proofs.Common.{◌≡◌, ℕ, zero, suc, ◌+◌, ◌*◌, ◌<◌, ◌≤◌, List, [], ◌∷◌, ◌++◌, length, get_or, drop, Some, Option, sym, refl, ap, ◌∙◌, zero-add, arith, length-append}
use Rattle.std.specs.List.{slice_get}
use Rattle.std.proofs.lemmas.List.{get_or_append_left, get_or-append-add}
use Rattle.filling.specs.Filled.{filled}
use Rattle.filling.proofs.Fills.{filled_zero}
use Rattle.page.specs.Pages.{joined}
use Rattle.records.specs.Records.{byte}

-- record k of a file is this text
pub record Stands (file : List ℕ) (k : ℕ) (text : List ℕ) : Type 0 where
  pub bytes : (at : ℕ) → at < 12 → byte file k at ≡ get_or text at 0

pub alone : (text : List ℕ) → Stands text 0 text
alone text = record { bytes = λ at small. ap (λ (i : ℕ). get_or text i 0) (zero-add at) }

pub before : (front back : List ℕ) (count k : ℕ) (text : List ℕ) → length front ≡ 12 * count → k < count → Stands front k text → Stands (front ++ back) k text
before front back count k text long h there = record { bytes = λ at small. get_or_append_left front back 0 (12 * k + at) (omega arith) ∙ there.bytes at small }

pub behind : (front back : List ℕ) (count k : ℕ) (text : List ℕ) → length front ≡ 12 * count → Stands back k text → Stands (front ++ back) (count + k) text
behind front back count k text long there = record { bytes = λ at small. let place : 12 * (count + k) + at ≡ length front + (12 * k + at) = omega arith in ap (λ (i : ℕ). get_or (front ++ back) i 0) place ∙ get_or-append-add front back (12 * k + at) 0 ∙ there.bytes at small }

module _ {A : Type 0} (text : ℕ → A → List ℕ) (twelve : (place : ℕ) (x : A) → length (text place x) ≡ 12) where
  pub joined_long : (place : ℕ) (xs : List A) → length (joined text place xs) ≡ 12 * length xs
  joined_long place [] = refl
  joined_long place (x ∷ xs) =
      let one = twelve place x in
      let rest = joined_long (suc place) xs in
      length-append (text place x) (joined text (suc place) xs) ∙ omega arith

  pub joined_stands : (place : ℕ) (xs : List A) (k : ℕ) (x : A) → slice_get xs k ≡ Some x → Stands (joined text place xs) k (text (place + k) x)
  joined_stands place [] k x there = absurd cc
  joined_stands place (y ∷ ys) zero x there =
      let one = twelve place y in
      let same : y ≡ x = cc in
      let here : place + 0 ≡ place = omega arith in
      rw (here, sym same) (before (text place y) (joined text (suc place) ys) 1 0 (text place y) (omega arith) (omega arith) (alone (text place y)))
  joined_stands place (y ∷ ys) (suc k) x there =
      let one = twelve place y in
      let next : place + suc k ≡ suc place + k = omega arith in
      let count : suc k ≡ 1 + k = omega arith in
      rw (next, count) (behind (text place y) (joined text (suc place) ys) 1 k (text (suc place + k) x) (omega arith) (joined_stands (suc place) ys k x there))

-- items that are there for the places of a buffer fill its front
pub fills : {A : Type 0} (item : ℕ → Option A) (items buffer : List A) → ((i : ℕ) (x : A) → slice_get items i ≡ Some x → item i ≡ Some x) → length items ≤ length buffer → filled item (length items) buffer ≡ items ++ drop (length items) buffer
unfolding filled
fills item [] buffer there h = filled_zero item buffer
fills item (x ∷ items) [] there h = absurd (omega arith)
fills {A} item (x ∷ items) (y ∷ buffer) there h = rw (there 0 x refl) (ap (λ (rest : List A). x ∷ rest) (fills (λ i. item (suc i)) items buffer (λ i z e. there (suc i) z e) (omega arith)))
