-- Where a file passes, no case holds at any of its places. Assumes nothing.
use Rattle.std.proofs.Common.{◌≡◌, ℕ, ◌+◌, ◌<◌, true, false, List, is_ok, Ok, Err, Result, refl, arith}
use Rattle.std.proofs.lemmas.Bool.{and_parts, not-false}
use Rattle.std.specs.Result.{result_and}
use Rattle.refusal.specs.Carried.{in_field}
use Rattle.refusal.specs.declared.FieldFault.{FieldFault}
use Rattle.refusal.specs.declared.RecordFault.{RecordFault}
use Rattle.records.specs.Records.{records}
use Rattle.search.proofs.Places.{nowhere, none_found}
use Rattle.field.specs.SettingLimits.{settings_keep}
use Rattle.filed.specs.Codes.{code_keeps}
use Rattle.checking.specs.declared.cases.FieldCase.{FieldCase}
use Rattle.checking.specs.declared.cases.FieldCase.TheVariants.{Order, Setting, Ends, Links, Count, Rows, Losses}
use Rattle.checking.specs.declared.cases.RecordCase.{RecordCase}
use Rattle.checking.specs.declared.cases.RecordCase.TheVariants.{Length, Kind, Zero}
use Rattle.checking.specs.Cases.{unknown_kind, no_sensor, bad_link, too_many, no_link, record_places, record_at, record_fault, record_case, field_places, field_at, field_fault, field_case, records_checked, in_record, file_checked, file_code, file_n, file_hmax, file_tmax, file_smax, file_f, bad_length, not_zero, out_of_order, bad_setting, bad_row}

pub false_true : {P : Type 0} → false ≡ true → P
false_true e = absurd cc

-- of two checks that pass one after the other, each passes
pub first_passes : {A F : Type 0} (a : Result (Unit {0}) F) (b : Result A F) → is_ok (result_and a b) ≡ true → is_ok a ≡ true
first_passes (Ok t) b e = refl
first_passes (Err fault) b e = e

pub second_passes : {A F : Type 0} (a : Result (Unit {0}) F) (b : Result A F) → is_ok (result_and a b) ≡ true → is_ok b ≡ true
second_passes (Ok t) b e = e
second_passes (Err fault) b e = false_true e

in_record_passes : (a : Result (Unit {0}) RecordFault) → is_ok (in_record a) ≡ true → is_ok a ≡ true
in_record_passes (Ok t) e = e
in_record_passes (Err fault) e = e

pub in_field_passes : (a : Result (Unit {0}) FieldFault) → is_ok (in_field a) ≡ true → is_ok a ≡ true
in_field_passes (Ok t) e = e
in_field_passes (Err fault) e = e

module _ (file : List ℕ) where
  -- a case that passes holds at none of its places
  record_nowhere : (case : RecordCase) → is_ok (record_case file case) ≡ true → (k : ℕ) → k < record_places file case → record_at file case k ≡ false
  unfolding record_case
  record_nowhere case = nowhere (record_fault case) (record_places file case) (record_at file case)

  field_nowhere : (case : FieldCase) → is_ok (field_case file case) ≡ true → (k : ℕ) → k < field_places file case → field_at file case k ≡ false
  unfolding field_case
  field_nowhere case = nowhere (field_fault case) (field_places file case) (field_at file case)

  -- no case holds anywhere
  pub record Passed : Type 0 where
    pub length_right : bad_length file ≡ false
    pub known : (k : ℕ) → k < records file → unknown_kind file k ≡ false
    pub zeroed : (k : ℕ) → k < records file → not_zero file k ≡ false
    pub ordered : (k : ℕ) → k < records file + 1 → out_of_order file k ≡ false
    pub set : bad_setting file ≡ false
    pub within : (k : ℕ) → k < records file → no_sensor file k ≡ false
    pub links_keep : (k : ℕ) → k < records file → bad_link file k ≡ false
    pub few : (k : ℕ) → k < records file → too_many file k ≡ false
    pub rows_keep : (k : ℕ) → k < records file → bad_row file k ≡ false
    pub linked_losses : (k : ℕ) → k < records file → no_link file k ≡ false

  pub passed : is_ok (file_checked file) ≡ true → Passed
  passed ok =
      let records_pass = in_record_passes (records_checked file) (first_passes (in_record (records_checked file)) _ ok) in
      let after_length = second_passes (record_case file Length) _ records_pass in
      let fields_pass = second_passes (in_record (records_checked file)) _ ok in
      let after_order = second_passes (field_case file Order) _ fields_pass in
      let after_setting = second_passes (field_case file Setting) _ after_order in
      let after_ends = second_passes (field_case file Ends) _ after_setting in
      let after_links = second_passes (field_case file Links) _ after_ends in
      let after_count = second_passes (field_case file Count) _ after_links in
      record {
        length_right = record_nowhere Length (first_passes (record_case file Length) _ records_pass) 0 (omega arith);
        known = record_nowhere Kind (first_passes (record_case file Kind) _ after_length);
        zeroed = record_nowhere Zero (second_passes (record_case file Kind) _ after_length);
        ordered = field_nowhere Order (first_passes (field_case file Order) _ fields_pass);
        set = field_nowhere Setting (first_passes (field_case file Setting) _ after_order) 0 (omega arith);
        within = field_nowhere Ends (first_passes (field_case file Ends) _ after_setting);
        links_keep = field_nowhere Links (first_passes (field_case file Links) _ after_ends);
        few = field_nowhere Count (first_passes (field_case file Count) _ after_links);
        rows_keep = field_nowhere Rows (first_passes (field_case file Rows) _ after_count);
        linked_losses = field_nowhere Losses (second_passes (field_case file Rows) _ after_count);
      }

  -- and where no case holds anywhere, a file passes
  record_passes : (case : RecordCase) → ((k : ℕ) → k < record_places file case → record_at file case k ≡ false) → record_case file case ≡ Ok tt
  unfolding record_case
  record_passes case = none_found (record_fault case) (record_places file case) (record_at file case)

  field_passes : (case : FieldCase) → ((k : ℕ) → k < field_places file case → field_at file case k ≡ false) → field_case file case ≡ Ok tt
  unfolding field_case
  field_passes case = none_found (field_fault case) (field_places file case) (field_at file case)

  pub passing : Passed → file_checked file ≡ Ok tt
  passing p =
      rw (record_passes Length (λ k h. p.length_right), record_passes Kind p.known, record_passes Zero p.zeroed)
      (rw (field_passes Order p.ordered, field_passes Setting (λ k h. p.set), field_passes Ends p.within, field_passes Links p.links_keep, field_passes Count p.few, field_passes Rows p.rows_keep, field_passes Losses p.linked_losses) refl)

  -- so the settings keep their limits
  pub settings_kept : is_ok (file_checked file) ≡ true → (settings_keep (file_n file) (file_hmax file) (file_tmax file) (file_f file) ≡ true) × (code_keeps (file_code file) (file_smax file) ≡ true)
  settings_kept ok = and_parts _ _ (not-false _ (passed ok).set)
