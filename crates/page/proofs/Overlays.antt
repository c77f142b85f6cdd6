-- Laws of a text laid on a page. Assumes nothing.
use Rattle.std.proofs.Common.{◌≡◌, ℕ, zero, suc, ◌+◌, ◌≤◌, List, [], ◌∷◌, ◌++◌, length, drop, set, sym, refl, ap, ◌∙◌, suc-add, zero-add, arith, min, Bool, true, false, leb, leb-true, leb-false}
use Rattle.page.specs.Pages.{overlay, last}

pub overlay_nothing : (page : List ℕ) (at : ℕ) → overlay page at [] ≡ page
unfolding overlay
overlay_nothing [] at = refl
overlay_nothing (x ∷ page) zero = refl
overlay_nothing (x ∷ page) (suc at) = ap (λ (p : List ℕ). x ∷ p) (overlay_nothing page at)

pub overlay_byte : (page : List ℕ) (at b : ℕ) → overlay page at (b ∷ []) ≡ set page at b
unfolding overlay
overlay_byte [] at b = refl
overlay_byte (x ∷ page) zero b = ap (λ (p : List ℕ). b ∷ p) (overlay_nothing page 0)
overlay_byte (x ∷ page) (suc at) b = ap (λ (p : List ℕ). x ∷ p) (overlay_byte page at b)

-- past its end a page takes nothing
overlay_past : (page : List ℕ) (at : ℕ) (text : List ℕ) → length page ≤ at → overlay page at text ≡ page
unfolding overlay
overlay_past [] at text h = refl
overlay_past (x ∷ page) zero text h = absurd (omega arith)
overlay_past (x ∷ page) (suc at) text h = ap (λ (p : List ℕ). x ∷ p) (overlay_past page at text (omega arith))

-- the last place stands for each place after it
pub overlay_last : (page : List ℕ) (at : ℕ) (text : List ℕ) → length page ≤ last → overlay page (min at last) text ≡ overlay page at text
overlay_last page at text small = by (leb at last) refl
  where
    by : (b : Bool) → leb at last ≡ b → overlay page (min at last) text ≡ overlay page at text
    by true e = ap (λ (k : ℕ). overlay page k text) (omega (arith, leb-true at last e))
    by false e =
        let far = leb-false at last e in
        overlay_past page (min at last) text (omega arith) ∙ sym (overlay_past page at text (omega arith))

pub overlay_length : (page : List ℕ) (at : ℕ) (text : List ℕ) → length (overlay page at text) ≡ length page
unfolding overlay
overlay_length [] at text = refl
overlay_length (x ∷ page) (suc at) text = ap suc (overlay_length page at text)
overlay_length (x ∷ page) zero [] = refl
overlay_length (x ∷ page) zero (b ∷ text) = ap suc (overlay_length page 0 text)

-- a text right behind another is one text
pub overlay_then : (page : List ℕ) (at : ℕ) (s t : List ℕ) → overlay (overlay page at s) (at + length s) t ≡ overlay page at (s ++ t)
unfolding overlay
overlay_then [] at s t = refl
overlay_then (x ∷ page) (suc at) s t = rw (suc-add at (length s)) (ap (λ (p : List ℕ). x ∷ p) (overlay_then page at s t))
overlay_then (x ∷ page) zero [] t = rw (zero-add 0) refl
overlay_then (x ∷ page) zero (b ∷ s) t = rw (zero-add (suc (length s))) (ap (λ (p : List ℕ). b ∷ p) (ap (λ (k : ℕ). overlay (overlay page 0 s) k t) (sym (zero-add (length s))) ∙ overlay_then page 0 s t))

-- a text that fits stands at the front
pub overlay_front : (page text : List ℕ) → length text ≤ length page → overlay page 0 text ≡ text ++ drop (length text) page
unfolding overlay
overlay_front [] [] h = refl
overlay_front [] (b ∷ text) h = absurd (omega arith)
overlay_front (x ∷ page) [] h = refl
overlay_front (x ∷ page) (b ∷ text) h = ap (λ (p : List ℕ). b ∷ p) (overlay_front page text (omega arith))
