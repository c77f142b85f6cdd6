-- Texts cut at a byte. Assumes nothing.
use Rattle.std.proofs.Common.{◌≡◌, ◌≢◌, ℕ, ◌^◌, ◌<◌, ◌≤◌, ◌==◌, false, List, [], ◌∷◌, ◌++◌, refl, ap, ◌∙◌, ne_eqb, eq-eqb, arith, decimal}
use Rattle.std.specs.List.{slice_split, onto_first}
use Rattle.std.specs.Str.Parse.{AllDigits}
use Rattle.std.proofs.lemmas.Fmt.{decimal_is_IsNumeral}
use Rattle.std.proofs.lemmas.List.Splits.{slice_split-cons_yes, slice_split-cons_no}
use Rattle.std.proofs.lemmas.Str.Parse.{digit_from_value}

-- each byte is above one
abbrev pub Above : ℕ → List ℕ → Type 0
Above least [] = Unit {0}
Above least (b ∷ bs) = (least < b) × Above least bs

pub above_less : (less least : ℕ) (bs : List ℕ) → less ≤ least → Above least bs → Above less bs
above_less less least [] h above = tt
above_less less least (b ∷ bs) h above = (omega (arith, above.0), above_less less least bs h above.1)

pub above_append : (least : ℕ) (cs bs : List ℕ) → Above least cs → Above least bs → Above least (cs ++ bs)
above_append least [] bs first second = second
above_append least (c ∷ cs) bs first second = (first.0, above_append least cs bs first.1 second)

above_digits : (ds : List ℕ) → AllDigits 10 ds → Above 32 ds
above_digits [] digits = tt
above_digits (d ∷ ds) digits = (omega (arith, digit_from_value d digits.0), above_digits ds digits.1)

pub above_decimal : (n : ℕ) → n < 2 ^ 64 → Above 32 (decimal n)
above_decimal n h = above_digits (decimal n) (decimal_is_IsNumeral n h).0.1

module _ (byte : ℕ) where
  other : (b : ℕ) → byte < b → (b == byte) ≡ false
  other b h = let differs : b ≢ byte = λ e. omega arith in ne_eqb b byte differs

  pub cut_none : (word : List ℕ) → Above byte word → slice_split (λ b. b == byte) word ≡ word ∷ []
  cut_none [] above = refl
  cut_none (b ∷ word) above = slice_split-cons_no (λ c. c == byte) b word (other b above.0) ∙ ap (onto_first b) (cut_none word above.1)

  pub cut_first : (word rest : List ℕ) → Above byte word → slice_split (λ b. b == byte) (word ++ (byte ∷ rest)) ≡ word ∷ slice_split (λ b. b == byte) rest
  cut_first [] rest above = slice_split-cons_yes (λ c. c == byte) byte rest (eq-eqb byte byte refl)
  cut_first (b ∷ word) rest above = slice_split-cons_no (λ c. c == byte) b (word ++ (byte ∷ rest)) (other b above.0) ∙ ap (onto_first b) (cut_first word rest above.1)
