-- What is known of a field, and of acts, that are vetted. Assumes nothing.
use Rattle.std.proofs.Common.{◌≡◌, ℕ, ◌<◌, ◌≤◌, Bool, true, false, cond, not, ◌||◌, ltb, List, length, Some, Ok, Err, Result, is_ok, Option, None, refl, ap, arith}
use Rattle.std.specs.List.{slice_get}
use Rattle.std.specs.Result.{result_and}
use Rattle.std.proofs.lemmas.Bool.{not-false, or_parts, ltb-false}
use Rattle.std.proofs.lemmas.Option.{slice_get_within}
use Rattle.refusal.specs.Carried.{in_field}
use Rattle.search.proofs.Places.{nowhere, none_found, found_at, found_nowhere}
use Rattle.numbering.specs.Meaning.{Meaning}
use Rattle.field.specs.declared.Act.{Act}
use Rattle.field.specs.declared.Link.{Link}
use Rattle.field.specs.declared.Loss.{Loss}
use Rattle.field.specs.declared.Row.{Row}
use Rattle.field.specs.declared.Settings.{Settings}
use Rattle.field.specs.declared.Stage.TheVariants.{Between}
use Rattle.field.specs.Rows.{row_keeps, ends_within, link_keeps, joins}
use Rattle.checking.proofs.Passes.{false_true, first_passes, second_passes, in_field_passes}
use Rattle.vetting.specs.declared.cases.ActCase.{ActCase}
use Rattle.vetting.specs.declared.cases.ActCase.TheVariants.{Sensors as Named, Limits}
use Rattle.vetting.specs.declared.cases.MemoryCase.{MemoryCase}
use Rattle.vetting.specs.declared.cases.MemoryCase.TheVariants.{Sensors, Links, Count, Rows, Losses}
use Rattle.vetting.specs.Cases.{Seen, case_at, case_fault, case_places, fault_in, first_fault, holds_at, linked}
use Rattle.vetting.specs.Acts.{damages_none, breaks_limits, act_test, act_fault, act_case, acts_vetted}
use Rattle.vetting.specs.Vetted.{drafted, of_drafts, vetted}

-- a test that does not hold at a place does not hold of the item there
pub not_of : {A : Type 0} (test : A → Bool) (items : List A) (k : ℕ) (x : A) → slice_get items k ≡ Some x → holds_at test items k ≡ false → test x ≡ false
not_of test items k x there none = rw (there, holds_at) at none

-- and where it holds there is one of which it does
holding : {A : Type 0} (test : A → Bool) (items : List A) (k : ℕ) → holds_at test items k ≡ true → (i : ℕ) × (x : A) × (slice_get items i ≡ Some x) × (test x ≡ true)
holding {A} test items k = by (slice_get items k) refl
  where
    by : (o : Option A) → slice_get items k ≡ o → elim o [ None ↦ false | Some x ↦ test x ] ≡ true → (i : ℕ) × (x : A) × (slice_get items i ≡ Some x) × (test x ≡ true)
    by None there e = false_true e
    by (Some x) there e = (k, x, there, e)

-- a case with one place does not hold where what comes of it is no fault
pub enough : {Fault : Type 0} (b : Bool) (fault : Fault) → is_ok {T = Unit {0}} (cond {A = Result (Unit {0}) Fault} b (Err fault) (Ok tt)) ≡ true → b ≡ false
enough true fault e = false_true e
enough false fault e = refl

-- a case that passes holds at none of its places, and one that holds nowhere passes
pub case_nowhere : {Num : Type 0} (seen : Seen Num) (case : MemoryCase) → is_ok (fault_in seen case) ≡ true → (k : ℕ) → k < case_places seen case → case_at seen case k ≡ false
unfolding fault_in
case_nowhere seen case = nowhere (case_fault case) (case_places seen case) (case_at seen case)

pub case_passes : {Num : Type 0} (seen : Seen Num) (case : MemoryCase) → ((k : ℕ) → k < case_places seen case → case_at seen case k ≡ false) → fault_in seen case ≡ Ok tt
unfolding fault_in
case_passes seen case = none_found (case_fault case) (case_places seen case) (case_at seen case)

module _ {Num : Type 0} (m : Meaning Num) (s : Settings) where
  module _ (rows : List (Row Num)) (links : List Link) (losses : List Loss) where
    pub record Vets : Type 0 where
      pub many : s.n ≤ length rows
      pub link_ends : (i : ℕ) (x : Link) → slice_get links i ≡ Some x → ends_within s.n x.from x.to ≡ true
      pub loss_ends : (i : ℕ) (x : Loss) → slice_get losses i ≡ Some x → ends_within s.n x.from x.to ≡ true
      pub links_right : (i : ℕ) (x : Link) → slice_get links i ≡ Some x → (not (link_keeps x) ≡ false) × (linked links i x.from x.to ≡ false)
      pub few_links : length links ≤ 1024
      pub few_losses : length losses ≤ 256
      pub rows_right : (i : ℕ) (x : Row Num) → i < s.n → slice_get rows i ≡ Some x → row_keeps m s Between i x ≡ true
      pub losses_right : (i : ℕ) (x : Loss) → slice_get losses i ≡ Some x → linked links (length links) x.from x.to ≡ true

    pub is_vetted : vetted m s rows links losses ≡ Ok tt → Vets
    is_vetted e =
        let seen = drafted m s rows links losses in
        let case = fault_in seen in
        let first = in_field (first_fault seen of_drafts) in
        let ok = ap is_ok e in
        let room = enough (ltb (length rows) s.n) _ (second_passes first _ ok) in
        let all = in_field_passes (first_fault seen of_drafts) (first_passes first _ ok) in
        let after_ends = second_passes (case Sensors) _ all in
        let after_links = second_passes (case (Links true)) _ after_ends in
        let after_count = second_passes (case Count) _ after_links in
        let after_rows = second_passes (case Rows) _ after_count in
        let ends = case_nowhere seen Sensors (first_passes (case Sensors) _ all) in
        let right = case_nowhere seen (Links true) (first_passes (case (Links true)) _ after_ends) in
        let few = case_nowhere seen Count (first_passes (case Count) _ after_links) in
        let kept = case_nowhere seen Rows (first_passes (case Rows) _ after_count) in
        let joined = case_nowhere seen Losses (first_passes (case Losses) _ after_rows) in
        record {
          many = ltb-false (length rows) s.n room;
          link_ends = λ i x there. let h = slice_get_within links i x there in not-false _ (not_of (λ (link : Link). not (ends_within s.n link.from link.to)) links i x there ((or_parts _ _ (ends i (omega arith))).0));
          loss_ends = λ i x there. let h = slice_get_within losses i x there in not-false _ (not_of (λ (loss : Loss). not (ends_within s.n loss.from loss.to)) losses i x there (or_parts _ _ (or_parts _ _ (ends i (omega arith))).1).0);
          links_right = λ i x there. or_parts _ _ (not_of (λ (link : Link). not (link_keeps link) || linked links i link.from link.to) links i x there (right i (slice_get_within links i x there)));
          few_links = ltb-false 1024 (length links) ((or_parts _ _ (few 1024 (omega arith))).0);
          few_losses = ltb-false 256 (length losses) (few 256 (omega arith));
          rows_right = λ i x h there. not-false _ (not_of (λ (row : Row Num). not (row_keeps m s Between i row)) rows i x there (or_parts _ _ (kept i h)).0);
          losses_right = λ i x there. not-false _ (not_of (λ (loss : Loss). not (linked links (length links) loss.from loss.to)) losses i x there (joined i (slice_get_within losses i x there)));
        }

  module _ (acts : List (Act Num)) where
    act_nowhere : (case : ActCase) → is_ok (act_case m s acts case) ≡ true → (k : ℕ) → k < length acts → holds_at (act_test m s case) acts k ≡ false
    unfolding act_case
    act_nowhere case = nowhere (act_fault case) (length acts) (holds_at (act_test m s case) acts)

    pub acts_are_vetted : acts_vetted m s acts ≡ Ok tt → (i : ℕ) (x : Act Num) → slice_get acts i ≡ Some x → (damages_none s x ≡ false) × (breaks_limits m s x ≡ false)
    acts_are_vetted e i x there =
        let h = slice_get_within acts i x there in
        let both = result_and (act_case m s acts Named) (act_case m s acts Limits) in
        let ok = in_field_passes both (ap is_ok e) in
        (not_of (damages_none s) acts i x there (act_nowhere Named (first_passes (act_case m s acts Named) _ ok) i h), not_of (breaks_limits m s) acts i x there (act_nowhere Limits (second_passes (act_case m s acts Named) _ ok) i h))

-- one of the links joins two ends, or none does
pub joined_at : (links : List Link) (n from to : ℕ) → linked links n from to ≡ true → (i : ℕ) × (x : Link) × (slice_get links i ≡ Some x) × (joins x from to ≡ true)
joined_at links n from to e =
    let found = found_at (holds_at (λ (link : Link). joins link from to) links) n e in
    holding (λ (link : Link). joins link from to) links found.0 found.2

pub joined_nowhere : (links : List Link) (n from to : ℕ) → linked links n from to ≡ false → (i : ℕ) (x : Link) → i < n → slice_get links i ≡ Some x → joins x from to ≡ false
joined_nowhere links n from to e i x h there = not_of (λ (link : Link). joins link from to) links i x there (found_nowhere (holds_at (λ (link : Link). joins link from to) links) n e i h)
