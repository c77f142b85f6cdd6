-- Lines built byte after byte. Assumes nothing.
use Rattle.std.proofs.Common.{◌≡◌, ℕ, zero, suc, ◌+◌, ◌/◌, ◌%◌, ◌^◌, ◌<◌, ◌≤◌, List, [], ◌∷◌, ◌++◌, length, take, drop, set, refl, sym, ap, ◌∙◌, append_assoc, length-append, mod-eq_of_lt, arith, decimal}
use Rattle.std.proofs.lemmas.Fmt.{decimal_digit, decimal_step}
use Rattle.std.proofs.lemmas.List.{take_more_set}
use Rattle.page.specs.Pages.{overlay}

pub one_digit : (n : ℕ) → n < 10 → decimal n ≡ (48 + n % 10) ∷ []
one_digit n h = decimal_digit n h ∙ ap (λ (d : ℕ). (48 + d) ∷ []) (sym (mod-eq_of_lt h))

pub one_long : (n : ℕ) → n < 10 → length (decimal n) ≡ 1
one_long n h = ap length (one_digit n h)

pub one_longer : (n : ℕ) → 10 ≤ n → n < 2 ^ 64 → length (decimal n) ≡ length (decimal (n / 10)) + 1
one_longer n h small = ap length (decimal_step n h small) ∙ length-append (decimal (n / 10)) ((48 + n % 10) ∷ [])

pub first_digit : (line : List ℕ) (at n : ℕ) → n < 10 → at < length line → take (at + 1) (set line at (48 + n % 10)) ≡ take at line ++ decimal n
first_digit line at n h room = rw (one_digit n h) (take_more_set line at (48 + n % 10) room)

pub last_digit : (old line : List ℕ) (at last n : ℕ) → 10 ≤ n → n < 2 ^ 64 → last < length line → take last line ≡ take at old ++ decimal (n / 10) → take (last + 1) (set line last (48 + n % 10)) ≡ take at old ++ decimal n
last_digit old line at last n h small room told =
    rw (decimal_step n h small) (take_more_set line last (48 + n % 10) room ∙ ap (λ (front : List ℕ). front ++ ((48 + n % 10) ∷ [])) told ∙ append_assoc (take at old) (decimal (n / 10)) _)

-- a text that fits leaves what is before it and behind it
pub overlay_within : (page : List ℕ) (at : ℕ) (text : List ℕ) → at + length text ≤ length page → overlay page at text ≡ take at page ++ (text ++ drop (length text) (drop at page))
unfolding overlay
overlay_within [] zero [] h = refl
overlay_within [] zero (b ∷ text) h = absurd (omega arith)
overlay_within [] (suc at) text h = absurd (omega arith)
overlay_within (x ∷ page) zero [] h = refl
overlay_within (x ∷ page) zero (b ∷ text) h = ap (λ (p : List ℕ). b ∷ p) (overlay_within page zero text (omega arith))
overlay_within (x ∷ page) (suc at) text h = ap (λ (p : List ℕ). x ∷ p) (overlay_within page at text (omega arith))
