-- Rows of which none sends, as they are opened one after another. Assumes nothing.
use Rattle.std.proofs.Common.{◌≡◌, ℕ, zero, suc, ◌<◌, ◌≤◌, Bool, true, false, ◌||◌, List, [], ◌∷◌, length, get_or, take, Some, None, Ok, Option, is_some, sym, refl, ap, ◌∙◌, arith}
use Rattle.std.specs.Prelude.{slice_get}
use Rattle.std.specs.List.{list_any}
use Rattle.std.proofs.lemmas.Bool.{and_parts}
use Rattle.std.proofs.lemmas.Option.{slice_get-get_or}
use Rattle.field.specs.declared.Message.{Message}
use Rattle.field.specs.declared.Row.{Row}
use Rattle.field.specs.declared.Stage.TheVariants.{Between}
use Rattle.field.specs.Rows.{outgoing_keeps}
use Rattle.flood.specs.Instants.{any_sends, changed}
use Rattle.vetting.specs.declared.Named.TheVariants.{Nothing}
use Rattle.history.specs.Checks.{checked}
use Rattle.history.specs.Worlds.{Field, World}
use Rattle.history.proofs.Checks.{check_gives}
use Rattle.run.proofs.Sending.{at_rest}
use Rattle.run.proofs.Whole.{no_message, none_first}

-- past the end nothing more is changed
pub none_past :
    {A : Type 0} (change : ℕ → A → A) (place count n : ℕ) (xs : List A) → count ≤ n → (count < n → length xs ≤ count)
    → changed change place count xs ≡ changed change place n xs
unfolding changed
none_past change place count n [] within past_end = refl
none_past change place zero zero (x ∷ xs) within past_end = refl
none_past change place zero (suc n) (x ∷ xs) within past_end = absurd (omega (arith, past_end (omega arith)))
none_past change place (suc count) zero (x ∷ xs) within past_end = absurd (omega (arith, within))
none_past change place (suc count) (suc n) (x ∷ xs) within past_end =
    ap (λ (ys : List _). change place x ∷ ys) (none_past change (suc place) count n xs (omega (arith, within)) (λ less. omega (arith, past_end (omega (arith, less)))))

-- what is told once a sensor that sends has been met, and else
pub one_sends : (before one after : Bool) → one ≡ true → after ≡ true → after ≡ before || one
one_sends true one after sends told = rw told refl
one_sends false one after sends told = rw (told, sends) refl

pub none_sends : (before one after : Bool) → one ≡ false → after ≡ before → after ≡ before || one
none_sends true one after silent told = rw told refl
none_sends false one after silent told = rw (told, silent) refl

-- where no item of the first passes a test, none of them does
none_of_first : {A : Type 0} (test : A → Bool) (n : ℕ) (xs : List A) → ((k : ℕ) (x : A) → k < n → slice_get xs k ≡ Some x → test x ≡ false) → list_any test (take n xs) ≡ false
none_of_first test zero xs none = refl
none_of_first test (suc n) [] none = refl
none_of_first test (suc n) (x ∷ xs) none = rw (none 0 x (omega arith) refl) (none_of_first test n xs (λ k y h there. none (suc k) y (omega arith) there))

module _ {Num : Type 0} where
  -- a row that is not open yet has nothing to send
  pub still_silent :
      (change : ℕ → Row Num → Row Num) (n : ℕ) (before : List (Row Num)) → any_sends n before ≡ false → (at : ℕ) → at < n
      → (rows : List (Row Num)) → rows ≡ changed change 0 at before → (row : Row Num) → at < length rows → row ≡ get_or rows at row → row.outgoing ≡ None
  still_silent change n before silent at within rows so row there is =
      let found : slice_get before at ≡ Some row = sym (at_rest change 0 at at before (omega arith)) ∙ ap (λ (xs : List (Row Num)). slice_get xs at) (sym so) ∙ slice_get-get_or rows at row there ∙ ap Some (sym is) in
      no_message row.outgoing (none_first (λ (r : Row Num). is_some r.outgoing) n before silent at row within found)

  -- between two instants no row has something to send
  pub silent_between : (field : Field Num) (world : World Num) → world.position ≡ None → checked field Nothing Between world.rows world.senders ≡ Ok tt → any_sends field.settings.n world.rows ≡ false
  silent_between field world here passes =
      let told = check_gives field Nothing world None here passes in
      none_of_first (λ (r : Row Num). is_some r.outgoing) field.settings.n world.rows (λ k row h there.
      let keeps = rw here at told.1.rows_keep k row h there in
      silent row.outgoing (and_parts _ _ (and_parts _ _ keeps).1).1)
    where
      silent : (o : Option (Message Num)) → outgoing_keeps field.numbering field.settings Between o ≡ true → is_some o ≡ false
      silent None e = refl
      silent (Some message) e = absurd cc
