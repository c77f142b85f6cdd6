-- A field that is filled from a file that passes can be written. Assumes nothing.
use Rattle.std.proofs.Common.{◌≡◌, ℕ, zero, suc, ◌+◌, ◌-◌, ◌*◌, ◌<◌, ◌≤◌, ◌⊎◌, inl, inr, Bool, true, false, not, ◌&&◌, ◌||◌, eqb, ltb, List, [], ◌∷◌, ◌++◌, length, take, Some, None, Ok, Option, sym, refl, ap, ◌∙◌, arith, le-leb, length-append, length-take}
use Rattle.std.specs.List.{slice_get}
use Rattle.std.proofs.Math.Seq.{take-append_seam}
use Rattle.std.proofs.lemmas.Bool.{and_from, and_parts, and_right, cases_order, eqb-true, le-ltb, not-false, not_from_true, or_from, or_parts}
use Rattle.std.proofs.lemmas.List.{length-take-le}
use Rattle.std.proofs.lemmas.Option.{same_Some, slice_get_within}
use Rattle.numbering.specs.Meaning.{Meaning}
use Rattle.field.specs.declared.Link.{Link as Linked}
use Rattle.field.specs.declared.Loss.{Loss as Lost}
use Rattle.field.specs.declared.Row.{Row}
use Rattle.field.specs.declared.Settings.{Settings}
use Rattle.field.specs.declared.Stage.TheVariants.{Between}
use Rattle.field.specs.Rows.{clock_keeps, ends_within, link_keeps, joins, row_keeps, sender_byte}
use Rattle.filed.specs.Codes.{lawful_value}
use Rattle.filed.specs.Values.{lawful_of}
use Rattle.filling.specs.Filled.{filled}
use Rattle.records.specs.declared.Kind.TheVariants.{Sensor, Link, Loss}
use Rattle.records.specs.Records.{records, byte, two_bytes, four_bytes, is_kind}
use Rattle.recording.specs.Bytes.{field_bytes}
use Rattle.search.proofs.Places.{found, found_at, found_nowhere, none_lowest}
use Rattle.sections.specs.Parts.{first_records, past_rows, past_links, row_records, link_records, loss_records, act_records}
use Rattle.reading.specs.Items.{row_at, loss_at}
use Rattle.checking.specs.Cases.{file_n, file_code, file_smax, link_at, mark_at, links as joining, clock_at, number_at}
use Rattle.checking.specs.Cases.{linked as linked_in}
use Rattle.checking.proofs.Passes.{Passed, false_true}
use Rattle.vetting.specs.Cases.{Seen, fault_in, holds_at, linked}
use Rattle.vetting.specs.Vetted.{drafted, vetted}
use Rattle.vetting.specs.declared.cases.MemoryCase.TheVariants.{Sensors, Links, Count, Rows, Losses}
use Rattle.vetting.proofs.Vets.{case_passes}
use Rattle.loading.specs.Loads.{rows_filled, links_filled, losses_filled}
use Rattle.loading.specs.Kept.{Bytes, FilesSettings}
use Rattle.loading.proofs.Acts.{no_link}
use Rattle.loading.proofs.Cuts.{head_is, row_is, rows_there, whole}
use Rattle.loading.proofs.Parted.{n, L, X, counted, kind_same, value_same, row_section, link_section, loss_section, lead_is}
use Rattle.loading.proofs.Passing.{first_of}
use Rattle.loading.proofs.Returns.{before_back, parts_are}

module _ {A : Type 0} where
  -- a buffer that is filled is as long as before, and has the items that there are
  filled_long : (item : ℕ → Option A) (count : ℕ) (buffer : List A) → length (filled item count buffer) ≡ length buffer
  unfolding filled
  filled_long item count [] = refl
  filled_long item zero (y ∷ buffer) = refl
  filled_long item (suc count) (y ∷ buffer) = ap suc (filled_long (λ k. item (suc k)) count buffer)

  filled_at : (item : ℕ → Option A) (count : ℕ) (buffer : List A) (i : ℕ) (x : A) → i < count → count ≤ length buffer → item i ≡ Some x → slice_get (filled item count buffer) i ≡ Some x
  unfolding filled
  filled_at item zero buffer i x h room there = absurd (omega arith)
  filled_at item (suc count) [] i x h room there = absurd (omega arith)
  filled_at item (suc count) (y ∷ buffer) zero x h room there = rw there refl
  filled_at item (suc count) (y ∷ buffer) (suc i) x h room there = filled_at (λ k. item (suc k)) count buffer i x (omega arith) (omega arith) there

  first_at : (count : ℕ) (items : List A) (i : ℕ) → i < count → slice_get (take count items) i ≡ slice_get items i
  first_at zero items i h = absurd (omega arith)
  first_at (suc count) [] i h = refl
  first_at (suc count) (y ∷ items) zero h = refl
  first_at (suc count) (y ∷ items) (suc i) h = first_at count items i (omega arith)

  -- a test that holds of no item holds at no place
  pub none_of : (test : A → Bool) (items : List A) (k : ℕ) → ((x : A) → slice_get items k ≡ Some x → test x ≡ false) → holds_at test items k ≡ false
  none_of test items k fails = by (slice_get items k) refl
    where
      by : (o : Option A) → slice_get items k ≡ o → elim o [ None ↦ false | Some x ↦ test x ] ≡ false
      by None there = refl
      by (Some x) there = fails x there

  -- and one that holds of an item holds at its place
  holds_of : (test : A → Bool) (items : List A) (k : ℕ) (x : A) → slice_get items k ≡ Some x → test x ≡ true → holds_at test items k ≡ true
  holds_of test items k x there e = rw (there, holds_at) e

-- so the links that are filled in are as many as the buffer has
pub links_long : (file : List ℕ) (links : List Linked) → length (links_filled (link_records file) links) ≡ length links
links_long file links = filled_long (λ k. Some (link_at (link_records file) k)) (records (link_records file)) links

-- what a test says of the records of a kind, of one of them
of_kind : (kind right : Bool) → (kind && not right) ≡ false → kind ≡ true → right ≡ true
of_kind true right e is = not-false right e
of_kind false right e is = false_true is

fails_of : (kind wrong : Bool) → (kind && wrong) ≡ false → kind ≡ true → wrong ≡ false
fails_of true wrong e is = e
fails_of false wrong e is = false_true is

either_of : (link loss right : Bool) → ((link || loss) && not right) ≡ false → (link ≡ true) ⊎ (loss ≡ true) → right ≡ true
either_of true loss right e is = not-false right e
either_of false true right e is = not-false right e
either_of false false right e (inl is) = false_true is
either_of false false right e (inr is) = false_true is

module _ (file : List ℕ) (ok : Passed file) (fits : Bytes file) where
  abbrev first_link : ℕ
  first_link = 1 + n file

  abbrev first_loss : ℕ
  first_loss = 1 + n file + L file

  -- link i of the file, as its record tells
  module _ (i : ℕ) (h : i < L file) where
    link_is : is_kind file (first_link + i) Link ≡ true
    link_is = sym (kind_same file (link_section file ok fits) i h Link) ∙ lead_is (past_rows file) Link i h

    link_same : link_at (link_records file) i ≡ link_at file (first_link + i)
    link_same =
        let s = link_section file ok fits in
        λ j. record { from = s.bytes i 1 h (omega arith) j; to = s.bytes i 2 h (omega arith) j; label = s.bytes i 3 h (omega arith) j }

    link_here : first_link + i < records file
    link_here = let within = (link_section file ok fits).within in omega arith

    ends_right : ends_within (file_n file) (byte file (first_link + i) 1) (byte file (first_link + i) 2) ≡ true
    ends_right = either_of (is_kind file (first_link + i) Link) (is_kind file (first_link + i) Loss) _ (or_parts _ _ (ok.within (first_link + i) link_here)).0 (inl link_is)

    link_right : (not (link_keeps (link_at file (first_link + i))) ≡ false) × (linked_in file (first_link + i) (byte file (first_link + i) 1) (byte file (first_link + i) 2) ≡ false)
    link_right = or_parts _ _ (fails_of (is_kind file (first_link + i) Link) _ (ok.links_keep (first_link + i) link_here) link_is)

  -- and loss i
  module _ (i : ℕ) (h : i < X file) where
    loss_is : is_kind file (first_loss + i) Loss ≡ true
    loss_is = sym (kind_same file (loss_section file ok fits) i h Loss) ∙ lead_is (past_links file) Loss i h

    loss_here : first_loss + i < records file
    loss_here = let within = (loss_section file ok fits).within in omega arith

    loss_ends : ends_within (file_n file) (byte file (first_loss + i) 1) (byte file (first_loss + i) 2) ≡ true
    loss_ends = either_of (is_kind file (first_loss + i) Link) (is_kind file (first_loss + i) Loss) _ (or_parts _ _ (ok.within (first_loss + i) loss_here)).0 (inr loss_is)

    loss_linked : linked_in file (records file) (byte file (first_loss + i) 1) (byte file (first_loss + i) 2) ≡ true
    loss_linked = of_kind (is_kind file (first_loss + i) Loss) _ (ok.linked_losses (first_loss + i) loss_here) loss_is

  -- a record that is a link is one of the links
  link_place : (k : ℕ) → k < records file → is_kind file k Link ≡ true → (i : ℕ) × (i < L file) × (first_link + i ≡ k)
  link_place k h is = (k - first_link, omega (arith, low, high), omega (arith, low))
    where
      low : first_link ≤ k
      low = elim (cases_order k 0) [
        | inl first ↦ (let f = ap (λ (j : ℕ). byte file j 0) first ∙ head_is file ok in let e = eqb-true (byte file k 0) 76 is in absurd (omega arith))
        | inr (inl less) ↦ absurd (omega arith)
        | inr (inr later) ↦ elim (cases_order k first_link) [
          | inl e ↦ omega arith
          | inr (inl row) ↦ (let e = eqb-true (byte file k 0) 83 (row_is file ok k (omega arith) (omega arith)).0 in let f = eqb-true (byte file k 0) 76 is in absurd (omega arith))
          | inr (inr past) ↦ omega arith
        ]
      ]

      high : k < first_link + L file
      high = elim (cases_order k (first_link + L file)) [
        | inl e ↦ (let none = no_link file ok fits k (omega arith) h in absurd cc)
        | inr (inl less) ↦ less
        | inr (inr past) ↦ (let none = no_link file ok fits k (omega arith) h in absurd cc)
      ]

  -- there are no more links and losses than a field may have
  outnumbered : (a b c : Bool) → (a && (b && c)) ≡ false → a ≡ true → b ≡ true → c ≡ true → ⊥
  outnumbered true true true e a b c = absurd cc
  outnumbered true true false e a b c = absurd cc
  outnumbered true false c e a b f = absurd cc
  outnumbered false b c e a f g = absurd cc

  few_links : L file ≤ 1024
  few_links = elim (cases_order (L file) 1024) [
    | inl e ↦ omega arith
    | inr (inl less) ↦ omega arith
    | inr (inr many) ↦
        let back : first_link + 1024 - 1024 ≡ first_link + 0 = omega arith in
        let first = ap (λ (k : ℕ). is_kind file k Link) back ∙ link_is 0 (omega arith) in
        absurd (outnumbered _ _ _ (or_parts _ _ (ok.few (first_link + 1024) (link_here 1024 many))).0 (link_is 1024 many) (le-leb 1024 (first_link + 1024) (omega arith)) first)
  ]

  few_losses : X file ≤ 256
  few_losses = elim (cases_order (X file) 256) [
    | inl e ↦ omega arith
    | inr (inl less) ↦ omega arith
    | inr (inr many) ↦
        let back : first_loss + 256 - 256 ≡ first_loss + 0 = omega arith in
        let first = ap (λ (k : ℕ). is_kind file k Loss) back ∙ loss_is 0 (omega arith) in
        absurd (outnumbered _ _ _ (or_parts _ _ (ok.few (first_loss + 256) (loss_here 256 many))).1 (loss_is 256 many) (le-leb 256 (first_loss + 256) (omega arith)) first)
  ]

  module _ {Num : Type 0} (m : Meaning Num) (of : ℕ → Option Num)
      (lawful : (v : ℕ) → lawful_value (file_code file) (file_smax file) v ≡ lawful_of m of v)
      (s : Settings) (has : FilesSettings file s) (rows : List (Row Num)) (links : List Linked) (losses : List Lost)
      (row_room : records (row_records file) ≤ length rows) (link_room : records (link_records file) ≤ length links) (loss_room : records (loss_records file) ≤ length losses) where
    abbrev all_rows : List (Row Num)
    all_rows = rows_filled of (row_records file) rows

    abbrev all_links : List Linked
    all_links = take (records (link_records file)) (links_filled (link_records file) links)

    abbrev all_losses : List Lost
    all_losses = take (records (loss_records file)) (losses_filled (loss_records file) losses)

    abbrev seen : Seen Num
    seen = drafted m s all_rows all_links all_losses

    link_count : records (link_records file) ≡ L file
    link_count = counted file (link_section file ok fits)

    loss_count : records (loss_records file) ≡ X file
    loss_count = counted file (loss_section file ok fits)

    -- each link there is one of the file, and each of the file is there
    link_there : (i : ℕ) → i < L file → slice_get all_links i ≡ Some (link_at file (first_link + i))
    link_there i h =
        let many = link_count in
        first_at (records (link_records file)) _ i (omega arith)
        ∙ filled_at (λ k. Some (link_at (link_records file) k)) (records (link_records file)) links i _ (omega arith) link_room refl
        ∙ ap Some (link_same i h)

    link_one : (i : ℕ) (x : Linked) → slice_get all_links i ≡ Some x → (i < L file) × (link_at file (first_link + i) ≡ x)
    link_one i x there =
        let many = link_count in
        let within = slice_get_within all_links i x there in
        let h : i < L file = omega (arith, length-take (records (link_records file)) (links_filled (link_records file) links)) in
        (h, same_Some _ _ (sym (link_there i h) ∙ there))

    loss_one : (i : ℕ) (x : Lost) → slice_get all_losses i ≡ Some x → (i < X file) × (byte file (first_loss + i) 1 ≡ x.from) × (byte file (first_loss + i) 2 ≡ x.to)
    loss_one i x there =
        let many = loss_count in
        let section = loss_section file ok fits in
        let within = slice_get_within all_losses i x there in
        let h : i < X file = omega (arith, length-take (records (loss_records file)) (losses_filled (loss_records file) losses)) in
        let own = filled_at (λ k. Some (loss_at (loss_records file) k)) (records (loss_records file)) losses i _ (omega arith) loss_room refl in
        let same = same_Some _ _ (sym own ∙ first_of (records (loss_records file)) _ i x there) in
        (h, sym (section.bytes i 1 h (omega arith)) ∙ ap (λ (loss : Lost). loss.from) same, sym (section.bytes i 2 h (omega arith)) ∙ ap (λ (loss : Lost). loss.to) same)

    sensors_pass : fault_in seen Sensors ≡ Ok tt
    sensors_pass = case_passes seen Sensors λ k h.
        or_from _ _ (none_of (λ link. not (ends_within s.n link.from link.to)) all_links k (λ x there.
        let one = link_one k x there in
        not_from_true _ (rw (has.n_is, ← one.1) (ends_right k one.0))))
        (or_from _ _ (none_of (λ loss. not (ends_within s.n loss.from loss.to)) all_losses k (λ x there.
        let one = loss_one k x there in
        not_from_true _ (rw (has.n_is, ← one.1, ← one.2) (loss_ends k one.0)))) refl)

    -- an earlier link has other ends
    not_before : (k : ℕ) → k < L file → linked all_links k (byte file (first_link + k) 1) (byte file (first_link + k) 2) ≡ false
    not_before k h =
        let from = byte file (first_link + k) 1 in
        let to = byte file (first_link + k) 2 in
        rw (none_lowest (holds_at (λ link. joins link from to) all_links) k (λ j before. none_of (λ link. joins link from to) all_links j (λ x there.
        let one = link_one j x there in
        let none = found_nowhere (joining file from to) (first_link + k) (link_right k h).1 (first_link + j) (omega arith) in
        rw (← one.1) (fails_of (is_kind file (first_link + j) Link) _ none (link_is j one.0))))) refl

    links_pass : fault_in seen (Links true) ≡ Ok tt
    links_pass = case_passes seen (Links true) λ k h.
        none_of (λ link. not (link_keeps link) || linked all_links k link.from link.to) all_links k (λ x there.
        let one = link_one k x there in
        or_from (not (link_keeps x)) (linked all_links k x.from x.to) (rw (← one.1) (link_right k one.0).0) (rw (← one.1) (not_before k one.0)))

    count_passes : fault_in seen Count ≡ Ok tt
    count_passes = case_passes seen Count λ k h.
        let links_most = few_links in
        let losses_most = few_losses in
        let links_many = link_count in
        let losses_many = loss_count in
        or_from _ _
        (and_right (eqb k 1024) (ltb 1024 (length all_links)) (le-ltb 1024 (length all_links) (omega (arith, length-take (records (link_records file)) (links_filled (link_records file) links)))))
        (and_right (eqb k 256) (ltb 256 (length all_losses)) (le-ltb 256 (length all_losses) (omega (arith, length-take (records (loss_records file)) (losses_filled (loss_records file) losses)))))

    -- a lawful number is there for each value of a row
    number_there : (v : ℕ) → lawful_of m of v ≡ true → (x : Num) × (of v ≡ Some x) × (m.lawful x ≡ true)
    number_there v = by (of v) refl
      where
        by : (o : Option Num) → of v ≡ o → elim o [ None ↦ false | Some x ↦ m.lawful x ] ≡ true → (x : Num) × (of v ≡ Some x) × (m.lawful x ≡ true)
        by None e h = false_true h
        by (Some x) e h = (x, e, h)

    row_right : (k : ℕ) → k < s.n → (x : Row Num) → slice_get all_rows k ≡ Some x → row_keeps m s Between k x ≡ true
    row_right k h x there =
        let section = row_section file ok fits in
        let many = counted file section in
        let n_is = has.n_is in
        let inside : k < n file = omega arith in
        let file_rows = rows_there file ok in
        let sec = row_records file in
        let is = row_is file ok (1 + k) (omega arith) (omega arith) in
        let place : byte file (1 + k) 1 ≡ k = is.1 ∙ omega arith in
        let both = and_parts (clock_at file (1 + k)) (number_at file (1 + k)) (of_kind (is_kind file (1 + k) Sensor) _ (ok.rows_keep (1 + k) (omega arith)) is.0) in
        let value = value_same file section k inside in
        let number = number_there (four_bytes sec k 8) (sym (lawful (four_bytes sec k 8)) ∙ ap (lawful_value (file_code file) (file_smax file)) value ∙ both.1) in
        let row : Row Num = record { timer = two_bytes sec k 4; held = number.0; mark = mark_at sec k; outgoing = None } in
        let read : row_at of sec k ≡ Some row = rw (number.1, row_at) refl in
        let own = filled_at (row_at of sec) (records sec) rows k row (omega arith) (omega arith) read in
        let same = same_Some _ _ (sym own ∙ there) in
        let b : (at : ℕ) → at < 12 → byte sec k at ≡ byte file (1 + k) at = λ at. section.bytes k at inside in
        let clock : clock_keeps s.hmax s.tmax s.f k (two_bytes sec k 4) (mark_at sec k) ≡ true =
        rw (has.hmax_is, has.tmax_is, has.f_is, b 2 (omega arith), b 4 (omega arith), b 5 (omega arith)) (rw place at both.0) in
        rw (← same) (and_from (clock_keeps s.hmax s.tmax s.f k (two_bytes sec k 4) (mark_at sec k)) (m.lawful number.0 && true) clock (and_from (m.lawful number.0) true number.2 refl))

    rows_pass : fault_in seen Rows ≡ Ok tt
    rows_pass = case_passes seen Rows λ k h.
        or_from _ _ (none_of (λ row. not (row_keeps m s Between k row)) all_rows k (λ x there. not_from_true _ (row_right k h x there)))
        (or_from _ _ (none_of (λ row. holds_at (λ byte. not (eqb byte (sender_byte row))) [] k) all_rows k (λ x there. refl)) refl)

    -- a pair that one of the file's records links is linked
    linked_here : (from to : ℕ) → linked_in file (records file) from to ≡ true → linked all_links (length all_links) from to ≡ true
    linked_here from to e =
        let link = found_at (joining file from to) (records file) e in
        let parts = and_parts (is_kind file link.0 Link) _ link.2 in
        let place = link_place link.0 link.1 parts.0 in
        let here = link_there place.0 place.1 in
        let joined : joins (link_at file (first_link + place.0)) from to ≡ true = rw place.2 parts.1 in
        found (holds_at (λ link. joins link from to) all_links) (length all_links) place.0 (slice_get_within all_links place.0 _ here) (holds_of (λ link. joins link from to) all_links place.0 _ here joined)

    losses_pass : fault_in seen Losses ≡ Ok tt
    losses_pass = case_passes seen Losses λ k h.
        none_of (λ loss. not (linked all_links (length all_links) loss.from loss.to)) all_losses k (λ x there.
        let one = loss_one k x there in
        not_from_true _ (linked_here x.from x.to (rw (one.1, one.2) at (loss_linked k one.0))))

    -- so it is a field
    pub loaded_vets : vetted m s all_rows all_links all_losses ≡ Ok tt
    loaded_vets =
        let many = counted file (row_section file ok fits) in
        let n_is = has.n_is in
        let long = filled_long (row_at of (row_records file)) (records (row_records file)) rows in
        rw (sensors_pass, links_pass, count_passes, rows_pass, losses_pass, le-ltb (length all_rows) s.n (omega arith)) refl

    -- and its bytes are those of the records before the acts
    abbrev front : List ℕ
    front = take 12 file ++ (row_records file ++ (link_records file ++ loss_records file))

    abbrev front_count : ℕ
    front_count = 1 + records (row_records file) + records (link_records file) + records (loss_records file)

    front_long : 12 * front_count ≡ length front
    front_long =
        let all = whole file ok in
        let some = rows_there file ok in
        let head = length-take-le 12 file (omega arith) in
        let row_long = (row_section file ok fits).long in
        let link_long = (link_section file ok fits).long in
        let loss_long = (loss_section file ok fits).long in
        let row_many = counted file (row_section file ok fits) in
        let link_many = link_count in
        let loss_many = loss_count in
        omega (arith, length-append (take 12 file) (row_records file ++ (link_records file ++ loss_records file)), length-append (row_records file) (link_records file ++ loss_records file), length-append (link_records file) (loss_records file))

    pub loaded_bytes : (worth : Num → ℕ) → ((v : ℕ) (x : Num) → of v ≡ Some x → worth x ≡ v) → field_bytes worth (file_code file) (file_smax file) s all_rows all_links all_losses ≡ first_records front_count file
    loaded_bytes worth undone =
        before_back file ok fits m of worth undone lawful s rows links losses row_room link_room loss_room has
        ∙ sym (ap (first_records front_count) (sym (parts_are file)) ∙ ap (λ (k : ℕ). take k (front ++ act_records file)) front_long ∙ take-append_seam front (act_records file))
