-- Laws of texts put one behind another. Assumes nothing.
use Rattle.std.proofs.Common.{◌≡◌, ℕ, zero, suc, ◌+◌, ◌<◌, ◌≤◌, min, List, [], ◌∷◌, ◌++◌, length, get_or, take, set, sym, refl, ap, ◌∙◌, subst, append_assoc, append-nil, add-zero, zero-add, add-suc, suc-add, add-one, arith, length-append, le-leb}
use Rattle.page.specs.declared.pen.Pen.{Pen}
use Rattle.page.specs.Pages.{overlay, last, joined, written}
use Rattle.page.specs.Pens.{Wrote}
use Rattle.page.proofs.Overlays.{overlay_nothing, overlay_byte, overlay_last, overlay_length, overlay_then, overlay_front}

pub wrote_nothing : (pen : Pen) → Wrote pen pen []
wrote_nothing pen = record { laid = sym (overlay_nothing pen.page.now pen.at); place = omega arith; same_page = refl }

pub wrote_byte : {old new : Pen} {b : ℕ} → new.page.now ≡ set old.page.now old.at b → new.at ≡ min (old.at + 1) last → new.page.ghost_name ≡ old.page.ghost_name → Wrote old new (b ∷ [])
wrote_byte {old} {new} {b} e f same = record { laid = e ∙ sym (overlay_byte old.page.now old.at b); place = f; same_page = same }

pub wrote_as : {old new : Pen} {s t : List ℕ} → s ≡ t → Wrote old new s → Wrote old new t
wrote_as {old} {new} e = subst (λ (u : List ℕ). Wrote old new u) e

-- one text behind another
pub wrote_then : {old mid new : Pen} {s t : List ℕ} → Wrote old mid s → Wrote mid new t → Wrote old new (s ++ t)
wrote_then {old} {mid} {new} {s} {t} first second =
    let small : length (overlay old.page.now old.at s) ≤ last = rw overlay_length (omega arith) in
    record {
      laid = second.laid ∙ rw (first.laid, first.place) (overlay_last _ (old.at + length s) t small ∙ overlay_then old.page.now old.at s t);
      place = rw (second.place, first.place, length-append s t) (omega arith);
      same_page = second.same_page ∙ first.same_page;
    }

-- a text that fits stands at the front of the page
pub wrote_front : {old new : Pen} {t : List ℕ} → length t ≤ length old.page.now → Wrote old new t → old.at ≡ 0 → new.page.now ≡ written t old.page.now
wrote_front {old} {new} {t} fits wrote front =
    rw (le-leb (length t) (length old.page.now) fits) (wrote.laid ∙ ap (λ (k : ℕ). overlay old.page.now k t) front ∙ overlay_front old.page.now t fits)

-- bytes one behind another are a text
pub joined_bytes : (place : ℕ) (bytes : List ℕ) → joined (λ place b. b ∷ []) place bytes ≡ bytes
joined_bytes place [] = refl
joined_bytes place (b ∷ bytes) = ap (λ (t : List ℕ). b ∷ t) (joined_bytes (suc place) bytes)

module _ {A : Type 0} (text : ℕ → A → List ℕ) where
  joined_more : (place i : ℕ) (xs : List A) (x d : A) → i < length xs → x ≡ get_or xs i d → joined text place (take (suc i) xs) ≡ joined text place (take i xs) ++ text (place + i) x
  joined_more place i [] x d h e = absurd (omega arith)
  joined_more place zero (y ∷ ys) x d h e = append-nil (text place y) ∙ rw (add-zero place, e) refl
  joined_more place (suc i) (y ∷ ys) x d h e =
      rw (joined_more (suc place) i ys x d (omega arith) e, add-suc place i, suc-add place i) (sym (append_assoc (text place y) _ _))

  -- the text of the item at i, behind those of the items before it
  pub wrote_more : {old mid new : Pen} (xs : List A) (i : ℕ) (x d : A) → x ≡ get_or xs i d → i < length xs → Wrote old mid (joined text 0 (take i xs)) → Wrote mid new (text i x) → Wrote old new (joined text 0 (take (i + 1) xs))
  wrote_more xs i x d e h first second =
      let one = joined_more 0 i xs x d h e in
      rw (add-one i, one, zero-add i) (wrote_then first second)

  joined_last : (place : ℕ) (xs : List A) (x : A) → joined text place (xs ++ (x ∷ [])) ≡ joined text place xs ++ text (place + length xs) x
  joined_last place [] x = rw (add-zero place) (append-nil (text place x))
  joined_last place (y ∷ ys) x = rw (joined_last (suc place) ys x, suc-add place (length ys), add-suc place (length ys)) (sym (append_assoc (text place y) _ _))

  -- the text of one item more, behind those of the items before it
  pub wrote_last : {old mid new : Pen} (place i : ℕ) (xs : List A) (x : A) → i ≡ place + length xs → Wrote old mid (joined text place xs) → Wrote mid new (text i x) → Wrote old new (joined text place (xs ++ (x ∷ [])))
  wrote_last place i xs x behind first second = rw (joined_last place xs x, sym behind) (wrote_then first second)
