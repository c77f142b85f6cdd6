-- Which copies the next instant has. Assumes nothing.
use Rattle.std.proofs.Common.{◌≡◌, ℕ, zero, suc, ◌+◌, ◌<◌, ◌≤◌, Bool, true, false, ◌&&◌, List, [], ◌∷◌, length, get_or, is_some, Some, None, sym, refl, ap, ◌∙◌, arith, add-one, ltb}
use Rattle.std.specs.Prelude.{slice_get}
use Rattle.std.proofs.lemmas.Bool.{ltb-false, le-ltb}
use Rattle.std.proofs.lemmas.List.Sums.{count_by-le-length}
use Rattle.std.proofs.lemmas.Option.{slice_get-get_or, slice_get_past}
use Rattle.field.specs.declared.Row.{Row}
use Rattle.flood.specs.Copies.{message_on, outgoing_of}
use Rattle.flood.specs.Instants.{changed, row_opened}
use Rattle.history.specs.Calls.{rows_opened}
use Rattle.history.specs.Plays.{copies_to_come}
use Rattle.history.specs.Worlds.{Lent, World, told_links}
use Rattle.history.proofs.Places.{at_changed}

module _ {A : Type 0} (change : ℕ → A → A) where
  -- what lies past the first n stays, and where nothing is, nothing comes
  pub at_rest : (place n k : ℕ) (xs : List A) → n ≤ k → slice_get (changed change place n xs) k ≡ slice_get xs k
  unfolding changed
  at_rest place n k [] h = refl
  at_rest place zero k (x ∷ xs) h = refl
  at_rest place (suc n) zero (x ∷ xs) h = absurd (omega arith)
  at_rest place (suc n) (suc k) (x ∷ xs) h = at_rest (suc place) n k xs (omega arith)

  none_there : (place n k : ℕ) (xs : List A) → slice_get xs k ≡ None → slice_get (changed change place n xs) k ≡ None
  unfolding changed
  none_there place n k [] none = none
  none_there place zero k (x ∷ xs) none = none
  none_there place (suc n) zero (x ∷ xs) none = absurd cc
  none_there place (suc n) (suc k) (x ∷ xs) none = none_there (suc place) n k xs none

module _ {Num : Type 0} (lent : Lent Num) (world : World Num) where
  abbrev opens : ℕ → Row Num → Row Num
  opens = row_opened lent.field.numbering lent.field.settings lent.period (suc world.instant)

  -- the sensor, as the code finds its row
  module _ (sensor at : ℕ) (same : at ≡ sensor) where
    found : (row : Row Num) → at < length world.rows → row ≡ get_or world.rows at row → slice_get world.rows sensor ≡ Some row
    found row within is = rw (sym same) (slice_get-get_or world.rows at row within ∙ ap Some (sym is))

    abbrev Sends : Bool → Type 0
    Sends b = b ≡ is_some (outgoing_of (rows_opened lent world) sensor)

    pub sends_within :
        (row opened : Row Num) → at < length world.rows → row ≡ get_or world.rows at row → sensor < lent.field.settings.n
        → opened ≡ row_opened lent.field.numbering lent.field.settings lent.period (world.instant + 1) sensor row → Sends (is_some opened.outgoing)
    sends_within row opened h is within opens_so =
        let opens_as : opened ≡ opens sensor row = opens_so ∙ ap (λ (k : ℕ). row_opened lent.field.numbering lent.field.settings lent.period k sensor row) (add-one world.instant) in
        rw (at_changed opens lent.field.settings.n sensor world.rows row within (found row h is), is_some, outgoing_of) (rw opens_as refl)

    pub sends_past : (row : Row Num) → at < length world.rows → row ≡ get_or world.rows at row → lent.field.settings.n ≤ sensor → Sends (is_some row.outgoing)
    sends_past row h is past = rw (at_rest opens 0 lent.field.settings.n sensor world.rows past, found row h is, is_some, outgoing_of) refl

    pub sends_none : length world.rows ≤ at → Sends false
    sends_none past =
        let none : slice_get world.rows sensor ≡ None = rw (sym same) (slice_get_past world.rows at past) in
        rw (none_there opens 0 lent.field.settings.n sensor world.rows none, is_some, outgoing_of) refl

  -- more copies than there is room for are more links than that
  pub counted_seldom : (room : ℕ) → ltb room (length (told_links lent.field)) && ltb room (copies_to_come lent world) ≡ ltb room (copies_to_come lent world)
  counted_seldom room = by (ltb room (length (told_links lent.field))) refl
    where
      by : (b : Bool) → ltb room (length (told_links lent.field)) ≡ b → b && ltb room (copies_to_come lent world) ≡ ltb room (copies_to_come lent world)
      by true e = refl
      by false e =
          let few : copies_to_come lent world ≤ length (told_links lent.field) = count_by-le-length (λ link. is_some (message_on (rows_opened lent world) link)) (told_links lent.field) in
          sym (le-ltb room (copies_to_come lent world) (omega (arith, ltb-false room _ e, few)))
