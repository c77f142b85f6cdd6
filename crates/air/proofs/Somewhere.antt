-- What the collision layer answers, by the links at their places. Assumes nothing.
use Rattle.std.proofs.Common.{◌≡◌, ℕ, zero, suc, Bool, true, false, List, [], ◌∷◌, Some, refl}
use Rattle.std.specs.List.{list_any, slice_get}
use Rattle.field.specs.declared.Link.{Link}
use Rattle.air.specs.Airs.{meets, drowned, Carrying, Comes, sends, collisions_carry}
use Rattle.std.specs.Prelude.{not, ◌&&◌}

module _ {A : Type 0} (p : A → Bool) where
  some_at : (xs : List A) → list_any p xs ≡ true → (k : ℕ) × (x : A) × (slice_get xs k ≡ Some x) × (p x ≡ true)
  some_at [] e = absurd cc
  some_at (x ∷ xs) e = by (p x) refl (λ rest. some_at xs rest)
    where
      by : (b : Bool) → p x ≡ b → (list_any p xs ≡ true → (k : ℕ) × (y : A) × (slice_get xs k ≡ Some y) × (p y ≡ true)) → (k : ℕ) × (y : A) × (slice_get (x ∷ xs) k ≡ Some y) × (p y ≡ true)
      by true here later = (0, x, refl, here)
      by false here later =
          let rest : list_any p xs ≡ true = (let f = rw here at e in f) in
          let found = later rest in
          (suc found.0, found.1, found.2, found.3)

  none_at : (xs : List A) → list_any p xs ≡ false → (k : ℕ) (x : A) → slice_get xs k ≡ Some x → p x ≡ false
  none_at [] e k x there = absurd cc
  none_at (y ∷ ys) e k x there = by (p y) refl k there (λ rest k there. none_at ys rest k x there)
    where
      by : (b : Bool) → p y ≡ b → (k : ℕ) → slice_get (y ∷ ys) k ≡ Some x → (list_any p ys ≡ false → (k : ℕ) → slice_get ys k ≡ Some x → p x ≡ false) → p x ≡ false
      by true here k there later = (let f = rw here at e in absurd cc)
      by false here zero there later = (let f : y ≡ x = cc in rw f at here)
      by false here (suc k) there later = later (let f = rw here at e in f) k there

pub comes : (below : Carrying) (i : ℕ) (link : Link) (links : List Link) (senders : List ℕ) (r : Bool) → r ≡ collisions_carry below i link links senders → Comes below i link links senders r
unfolding Comes
comes below i link links senders r e = by (below i link links senders) (sends senders link.to) (drowned link links senders) r refl refl refl e
  where
    by : (b s d r : Bool) → below i link links senders ≡ b → sends senders link.to ≡ s → drowned link links senders ≡ d → r ≡ (b && (not s && not d)) → Comes below i link links senders r
    by true false false true eb es ed e = (eb, es, none_at (meets link senders) links ed)
    by true false true false eb es ed e = λ _ _. some_at (meets link senders) links ed
    by false s d false eb es ed e = λ yes _. absurd cc
    by true true d false eb es ed e = λ _ no. absurd cc
    by false s d true eb es ed e = absurd cc
    by true true d true eb es ed e = absurd cc
    by true false true true eb es ed e = absurd cc
    by true false false false eb es ed e = absurd cc
