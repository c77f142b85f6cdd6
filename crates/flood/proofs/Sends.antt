-- Whether one of the first sensors sends, with one sensor more. Assumes nothing.
use Rattle.std.proofs.Common.{◌≡◌, ℕ, ◌+◌, ◌<◌, ◌≤◌, Bool, true, false, ◌||◌, List, [], ◌∷◌, length, set, take, is_some, sym, ap, ◌∙◌, refl, arith}
use Rattle.std.specs.List.{list_any}
use Rattle.std.proofs.lemmas.List.{take_all, take_more_set}
use Rattle.std.proofs.lemmas.List.Folds.{list_any-append}
use Rattle.field.specs.declared.Row.{Row}
use Rattle.flood.specs.Instants.{any_sends}

module _ {Num : Type 0} where
  abbrev sends : Row Num → Bool
  sends row = is_some row.outgoing

  more_set : (rows : List (Row Num)) (i : ℕ) (row : Row Num) → i < length rows → any_sends (i + 1) (set rows i row) ≡ any_sends i rows || sends row
  more_set rows i row within =
      ap (list_any sends) (take_more_set rows i row within) ∙ list_any-append sends (take i rows) (row ∷ []) ∙ by (any_sends i rows) (sends row)
    where
      by : (a b : Bool) → a || (b || false) ≡ a || b
      by true true = refl
      by true false = refl
      by false true = refl
      by false false = refl

  -- a turn of a loop over the first sensors: of a row that is overwritten, and past the end
  pub one_more :
      (i at : ℕ) → at ≡ i → (rows new : List (Row Num)) (row : Row Num) (before one after : Bool) → before ≡ any_sends i rows → at < length rows
      → one ≡ sends row → new ≡ set rows at row → after ≡ before || one → after ≡ any_sends (i + 1) new
  one_more i at same rows new row before one after known within this wrote told = rw (told, known, this, wrote, same) (sym (more_set rows i row (rw same at within)))

  pub none_more : (i : ℕ) (rows : List (Row Num)) (known : Bool) → known ≡ any_sends i rows → length rows ≤ i → known ≡ any_sends (i + 1) rows
  none_more i rows known is past = is ∙ ap (list_any sends) (take_all i rows past ∙ sym (take_all (i + 1) rows (omega arith)))
