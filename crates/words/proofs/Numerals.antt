-- What `parse` reads is the number in the word. Assumes nothing.
use Rattle.std.proofs.Common.{◌≡◌, ℕ, ◌^◌, Bool, true, false, List, length, Some, Ok, Err, Decides, Result, sym, refl, ap, ◌∙◌}
use Rattle.std.specs.Result.{OkIff, result_ok}
use Rattle.std.specs.Str.Parse.{digits_value, without_leading_plus, ParsesUnsigned}
use Rattle.std.specs.Str.{all_ascii_digits}
use Rattle.std.proofs.lemmas.Str.Parse.{IsNumeralModel, numerals_by_value, tells_all_ascii_digits}
use Rattle.std.proofs.lemmas.Bool.Decides.{Decides-and, Decides-ltb}
use Rattle.std.specs.Bool.{then_some}
use Rattle.words.specs.Numbers.{number_in}

own : IsNumeralModel (λ ds. all_ascii_digits ds ≡ true) (digits_value 10)
own = numerals_by_value _ tells_all_ascii_digits

-- a conversion that succeeds just where a test holds
converted : {E P : Type 0} (r : Result ℕ E) (v : ℕ) (b : Bool) → Decides b P → OkIff r P v → result_ok r ≡ then_some b v
converted (Ok x) v b d (p, e) = ap Some e ∙ ap (λ (t : Bool). then_some t v) (sym (d.1 p))
converted (Err x) v true d none = absurd (none (d.0 refl))
converted (Err x) v false d none = refl

pub reads_number : {E : Type 0} (word : List ℕ) (r : Result ℕ E) → ParsesUnsigned 32 10 word r → result_ok r ≡ number_in word
reads_number word r =
    let digits = without_leading_plus word in
    let numeral = Decides-and _ _ (Decides-ltb 0 (length digits)) (own.to digits, own.from digits) in
    converted r (digits_value 10 digits) _ (Decides-and _ _ numeral (Decides-ltb (digits_value 10 digits) (2 ^ 32)))
