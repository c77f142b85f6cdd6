-- A field that could be written begins, and is written then as it was lent. Assumes nothing.
use Rattle.std.proofs.Common.{◌≡◌, ℕ, zero, suc, ◌<◌, ◌≤◌, true, not, ◌||◌, eqb, ltb, List, [], ◌∷◌, ◌++◌, length, take, Some, None, Ok, Option, sym, refl, ap, arith}
use Rattle.std.specs.List.{slice_get}
use Rattle.std.proofs.lemmas.Bool.{and_from, and_parts, and_right, le-ltb, not_from_true, or_from}
use Rattle.std.proofs.lemmas.List.{length-take-le}
use Rattle.checking.proofs.Passes.{false_true}
use Rattle.field.specs.declared.Loss.{Loss}
use Rattle.field.specs.declared.Message.{Message}
use Rattle.field.specs.declared.Row.{Row}
use Rattle.field.specs.declared.Stage.TheVariants.{Beginning, Between}
use Rattle.field.specs.Rows.{clock_keeps, ends_within, link_keeps, outgoing_keeps, row_keeps, sender_byte}
use Rattle.flood.specs.Instants.{changed, closed, row_closed, silent}
use Rattle.history.specs.Calls.{beginning, begun}
use Rattle.history.specs.Checks.{checked_first, seen_at}
use Rattle.history.specs.Worlds.{Field, World, told_links}
use Rattle.history.proofs.Kept.{granted_first, granted_ok, ok_is}
use Rattle.loading.proofs.Loaded.{none_of}
use Rattle.page.specs.Pages.{joined}
use Rattle.recording.specs.Bytes.{field_bytes}
use Rattle.recording.specs.Records.{row_record}
use Rattle.refusal.specs.Carried.{in_field}
use Rattle.vetting.specs.Cases.{Seen, fault_in, first_fault, holds_at, linked}
use Rattle.vetting.specs.Vetted.{drafted, of_drafts, vetted}
use Rattle.vetting.specs.declared.MemoryCase.TheVariants.{Sensors, Links, Count, Rows}
use Rattle.vetting.specs.declared.Named.TheVariants.{Nothing}
use Rattle.vetting.proofs.Vets.{Vets, case_passes, is_vetted}
use Rattle.run.specs.Returning.{WritesAsBegun}
use Rattle.run.specs.Writing.{Filing, write_checked}

module _ {A : Type 0} where
  -- changes that leave each text leave the text of the first items
  joined_changed :
      (text : ℕ → A → List ℕ) (change : ℕ → A → A) → ((place : ℕ) (x : A) → text place (change place x) ≡ text place x)
      → (place n : ℕ) (xs : List A) → joined text place (take n (changed change place n xs)) ≡ joined text place (take n xs)
  unfolding changed
  joined_changed text change same place n [] = refl
  joined_changed text change same place zero (x ∷ xs) = refl
  joined_changed text change same place (suc n) (x ∷ xs) = rw (same place x) (ap (λ (rest : List ℕ). text place x ++ rest) (joined_changed text change same (suc place) n xs))

  -- and those that alter none of them leave all
  changed_none : (change : A → A) (place n : ℕ) (xs : List A) → ((k : ℕ) (x : A) → k < n → slice_get xs k ≡ Some x → change x ≡ x) → changed (λ at. change) place n xs ≡ xs
  unfolding changed
  changed_none change place n [] same = refl
  changed_none change place zero (x ∷ xs) same = refl
  changed_none change place (suc n) (x ∷ xs) same = rw (same 0 x (omega arith) refl, changed_none change (suc place) n xs (λ k y h e. same (suc k) y (omega arith) e)) refl

module _ {Num : Type 0} (field : Field Num) (rows : List (Row Num)) (senders : List ℕ) (world : World Num) (begins : begun field rows senders ≡ Ok world) where
  -- the rows of a run that begins are the lent ones, closed
  begun_rows : world.rows ≡ closed field.settings.n rows
  begun_rows = ap (λ (w : World Num). w.rows) (sym (ok_is _ world (granted_ok (checked_first field rows senders) _ world begins)))

pub writes_as_begun : {Num : Type 0} (filing : Filing Num) → WritesAsBegun filing
unfolding field_bytes
writes_as_begun filing field rows senders losses world begins =
    let n = field.settings.n in
    let same = joined_changed (row_record filing.worth) (λ sensor. row_closed) (λ place row. refl) 0 n rows in
    rw (begun_rows field rows senders world begins, same) refl

module _
    {Num : Type 0} (field : Field Num) (rows : List (Row Num)) (senders : List ℕ) (losses : List Loss)
    (vets : vetted field.numbering field.settings rows (told_links field) losses ≡ Ok tt)
    (links_there : field.count ≤ length field.links) (bytes_there : field.settings.n ≤ length senders) where
  known : Vets field.numbering field.settings rows (told_links field) losses
  known = is_vetted field.numbering field.settings rows (told_links field) losses vets

  quiet : (o : Option (Message Num)) → outgoing_keeps field.numbering field.settings Between o ≡ true → o ≡ None
  quiet None e = refl
  quiet (Some message) e = false_true e

  -- closing leaves its rows
  rows_stay : closed field.settings.n rows ≡ rows
  rows_stay = changed_none row_closed 0 field.settings.n rows (λ k row h there.
      let keeps = and_parts (clock_keeps field.settings.hmax field.settings.tmax field.settings.f k row.timer row.mark) _ (known.rows_right k row h there) in
      let none = quiet row.outgoing (and_parts (field.numbering.lawful row.held) _ keeps.1).1 in
      ap (λ (o : Option (Message Num)). record row { outgoing = o }) (sym none))

  abbrev seen : Seen Num
  seen = seen_at field Nothing Beginning rows []

  sensors_pass : fault_in seen Sensors ≡ Ok tt
  sensors_pass = case_passes seen Sensors λ k h.
      or_from _ _ (none_of (λ link. not (ends_within field.settings.n link.from link.to)) (told_links field) k (λ x there. not_from_true _ (known.link_ends k x there))) refl

  links_pass : fault_in seen (Links true) ≡ Ok tt
  links_pass = case_passes seen (Links true) λ k h.
      none_of (λ link. not (link_keeps link) || linked (told_links field) k link.from link.to) (told_links field) k (λ x there.
      let right = known.links_right k x there in
      or_from (not (link_keeps x)) (linked (told_links field) k x.from x.to) right.0 right.1)

  count_passes : fault_in seen Count ≡ Ok tt
  count_passes = case_passes seen Count λ k h.
      let all = length-take-le field.count field.links links_there in
      let few = known.few_links in
      or_from _ _ (and_right (eqb k 1024) (ltb 1024 field.count) (le-ltb 1024 field.count (omega arith))) (and_right (eqb k 256) (ltb 256 0) refl)

  rows_pass : fault_in seen Rows ≡ Ok tt
  rows_pass = case_passes seen Rows λ k h.
      or_from _ _ (none_of (λ row. not (row_keeps field.numbering field.settings Beginning k row)) rows k (λ row there.
      let keeps = and_parts (clock_keeps field.settings.hmax field.settings.tmax field.settings.f k row.timer row.mark) _ (known.rows_right k row h there) in
      not_from_true _ (and_from _ _ keeps.0 (and_from _ _ (and_parts (field.numbering.lawful row.held) _ keeps.1).0 refl))))
      (or_from _ _ (none_of (λ row. holds_at (λ byte. not (eqb byte (sender_byte row))) [] k) rows k (λ row there. refl)) refl)

  first_passes : checked_first field rows senders ≡ Ok tt
  unfolding checked_first
  first_passes =
      rw (sensors_pass, links_pass, count_passes, rows_pass)
      (rw (le-ltb (length rows) field.settings.n known.many, le-ltb (length senders) field.settings.n bytes_there, le-ltb (length field.links) field.count links_there) refl)

  -- where the run stands as it begins
  abbrev pub start : World Num
  start = beginning field rows senders

  pub begins_there : begun field rows senders ≡ Ok start
  begins_there = rw first_passes refl

  pub written_there : write_checked field start losses ≡ Ok tt
  written_there =
      let cases = granted_first (in_field (first_fault (drafted field.numbering field.settings rows (told_links field) losses) of_drafts)) _ tt vets in
      rw rows_stay (rw (cases, le-ltb (length rows) field.settings.n known.many, le-ltb (length field.links) field.count links_there) refl)
