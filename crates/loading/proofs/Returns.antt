-- A file that passes, read and written, is itself. Assumes nothing.
use Rattle.std.proofs.Common.{◌≡◌, ℕ, ◌+◌, ◌*◌, ◌<◌, ◌≤◌, Bool, true, false, List, ◌++◌, length, take, Some, None, Option, sym, refl, ap, ◌∙◌, append_assoc, arith, take-append-drop}
use Rattle.records.specs.declared.Kind.TheVariants.{Sensor, Link, Loss, Play}
use Rattle.records.specs.Records.{records, byte, two_bytes, four_bytes, is_kind}
use Rattle.page.specs.Pages.{joined}
use Rattle.reading.specs.Items.{row_at, loss_at, act_at}
use Rattle.recording.specs.Bytes.{field_bytes, act_bytes}
use Rattle.recording.specs.Records.{head_record, sensor_record, row_record, link_record, loss_record, act_record}
use Rattle.field.specs.declared.Act.{Act}
use Rattle.field.specs.declared.Act.TheVariants.{Play as Plays, Damage as Damages}
use Rattle.field.specs.declared.Link.{Link as Linked}
use Rattle.field.specs.declared.Loss.{Loss as Lost}
use Rattle.field.specs.declared.Row.{Row}
use Rattle.field.specs.declared.Settings.{Settings}
use Rattle.sections.specs.Parts.{past_rows, past_links, row_records, link_records, loss_records, act_records}
use Rattle.checking.specs.Cases.{link_at, mark_at, file_code, file_smax, not_zero}
use Rattle.checking.proofs.Passes.{false_true, Passed}
use Rattle.filed.specs.Codes.{lawful_value}
use Rattle.filed.specs.Values.{lawful_of}
use Rattle.filling.specs.Filled.{filled}
use Rattle.numbering.specs.Meaning.{Meaning}
use Rattle.loading.specs.Loads.{rows_filled, links_filled, losses_filled, acts_filled}
use Rattle.loading.specs.Kept.{Bytes, FilesSettings}
use Rattle.loading.proofs.Acts.{damage_is}
use Rattle.loading.proofs.Chunks.{chunk, head_back, sensor_back, link_back, loss_back, play_back}
use Rattle.loading.proofs.Cuts.{head_is, whole, rows_there, row_is, number_lawful}
use Rattle.loading.proofs.Parted.{Section, n, L, X, A, lead_is, counted, kind_same, value_same, zeros_same, row_section, link_section, loss_section, act_section}
use Rattle.loading.proofs.Sections.{Back, items_back}

-- the parts together are the file
pub parts_are : (file : List ℕ) → (take 12 file ++ (row_records file ++ (link_records file ++ loss_records file))) ++ act_records file ≡ file
parts_are file = simp (append_assoc, take-append-drop)

together : {h k r s l m x y : List ℕ} → h ≡ k → r ≡ s → l ≡ m → x ≡ y → h ++ (r ++ (l ++ x)) ≡ k ++ (s ++ (m ++ y))
together head rows links losses = rw (head, rows, links, losses)

both : {a b c d : List ℕ} → a ≡ b → c ≡ d → a ++ c ≡ b ++ d
both first second = rw (first, second)

module _ (file : List ℕ) (ok : Passed file) (fits : Bytes file) where
  module _ {section : List ℕ} {start count : ℕ} (s : Section file section start count) where
    -- items that are a section's records, filled in and written, are the section
    section_back :
        {A : Type 0} (item : ℕ → Option A) (written : ℕ → A → List ℕ) → ((i : ℕ) → i < count → Back item written section 0 i)
        → (buffer : List A) → records section ≤ length buffer → joined written 0 (take (records section) (filled item (records section) buffer)) ≡ section
    section_back item written back buffer room =
        let many = counted file s in
        let long = s.long in
        items_back (records section) 0 item written section buffer (omega arith) room (λ i h. back i (omega arith))

    -- each record lies in its section, and the bytes are zero in it that must be
    module _ (i : ℕ) (h : i < count) where
      inside : 12 * i + 12 ≤ length section
      inside = let long = s.long in omega arith

      right : not_zero section i ≡ false
      right = let within = s.within in zeros_same file s i h ∙ ok.zeroed (start + i) (omega arith)

  link_there : (i : ℕ) → i < L file → Back (λ k. Some (link_at (link_records file) k)) (λ place. link_record) (link_records file) 0 i
  link_there i h =
      let s = link_section file ok fits in
      let sec = link_records file in
      record { x = link_at sec i; there = refl; same = link_back sec i s.small (inside s i h) (right s i h) (lead_is (past_rows file) Link i h) }

  loss_there : (i : ℕ) → i < X file → Back (λ k. Some (loss_at (loss_records file) k)) (λ place. loss_record) (loss_records file) 0 i
  loss_there i h =
      let s = loss_section file ok fits in
      let sec = loss_records file in
      record { x = loss_at sec i; there = refl; same = loss_back sec i s.small (inside s i h) (right s i h) (lead_is (past_links file) Loss i h) }

  head_same : (s : Settings) → FilesSettings file s → head_record (file_code file) (file_smax file) s ≡ take 12 file
  head_same s has =
      let rows = rows_there file ok in
      let all = whole file ok in
      head_back file 0 fits (omega arith) s has (head_is file ok)

  -- Rows and acts, in a kind whose values undo its numbers, under the numbering whose lawful values the file was checked for.
  module _ {Num : Type 0} (m : Meaning Num) (of : ℕ → Option Num) (worth : Num → ℕ)
      (undone : (v : ℕ) (x : Num) → of v ≡ Some x → worth x ≡ v)
      (lawful : (v : ℕ) → lawful_value (file_code file) (file_smax file) v ≡ lawful_of m of v) where
    number_there : (v : ℕ) → lawful_of m of v ≡ true → (x : Num) × (of v ≡ Some x)
    number_there v = by (of v) refl
      where
        by : (o : Option Num) → of v ≡ o → elim o [ None ↦ false | Some x ↦ m.lawful x ] ≡ true → (x : Num) × (of v ≡ Some x)
        by None e h = false_true h
        by (Some x) e h = (x, e)

    -- a sensor's record has a number of the kind, and is written again from it
    record Sensed (section : List ℕ) (i : ℕ) : Type 0 where
      x : Num
      found : of (four_bytes section i 8) ≡ Some x
      same : sensor_record (byte section i 1) (mark_at section i) (two_bytes section i 4) (worth x) ≡ chunk i section

    sensed : {section : List ℕ} {start count : ℕ} (s : Section file section start count) (i : ℕ) → i < count → is_kind section i Sensor ≡ true → Sensed section i
    sensed {section} {start} s i h is =
        let within = s.within in
        let v = four_bytes section i 8 in
        let file_is = sym (kind_same file s i h Sensor) ∙ is in
        let number = number_there v (sym (lawful v) ∙ ap (lawful_value (file_code file) (file_smax file)) (value_same file s i h) ∙ number_lawful file ok (start + i) (omega arith) file_is) in
        let same = sensor_back section i s.small (inside s i h) (right s i h) is in
        record { x = number.0; found = number.1; same = rw (undone v number.0 number.1) same }

    row_there : (i : ℕ) → i < n file → Back (row_at of (row_records file)) (row_record worth) (row_records file) 0 i
    row_there i h =
        let s = row_section file ok fits in
        let sec = row_records file in
        let row = row_is file ok (1 + i) (omega arith) (omega arith) in
        let one = sensed s i h (kind_same file s i h Sensor ∙ row.0) in
        let place : 0 + i ≡ byte sec i 1 = sym (s.bytes i 1 h (omega arith) ∙ row.1 ∙ omega arith) in
        record {
          x = record { timer = two_bytes sec i 4; held = one.x; mark = mark_at sec i; outgoing = None };
          there = rw (one.found, row_at);
          same = rw place one.same;
        }

    act_there : (i : ℕ) → i < A file → Back (act_at of (act_records file)) (λ place. act_record worth) (act_records file) 0 i
    act_there i h = by (is_kind sec i Play) refl
      where
        sec : List ℕ
        sec = act_records file

        s : Section file sec (1 + n file + L file + X file) (A file)
        s = act_section file ok fits

        by : (b : Bool) → is_kind sec i Play ≡ b → Back (act_at of sec) (λ place. act_record worth) sec 0 i
        by true e = record { x = Plays (four_bytes sec i 4); there = rw e refl; same = play_back sec i s.small (inside s i h) (right s i h) e }
        by false e =
            let one = sensed s i h (damage_is file ok fits i h e) in
            record {
              x = Damages (record { sensor = byte sec i 1; timer = two_bytes sec i 4; mark = mark_at sec i; held = one.x });
              there = rw (e, one.found, act_at);
              same = one.same;
            }

    module _ (s : Settings) (rows : List (Row Num)) (links : List Linked) (losses : List Lost)
        (row_room : records (row_records file) ≤ length rows) (link_room : records (link_records file) ≤ length links) (loss_room : records (loss_records file) ≤ length losses) (has : FilesSettings file s) where
      -- what stands before the acts
      abbrev before_bytes : List ℕ
      before_bytes =
          field_bytes worth (file_code file) (file_smax file) s (rows_filled of (row_records file) rows) (take (records (link_records file)) (links_filled (link_records file) links)) (take (records (loss_records file)) (losses_filled (loss_records file) losses))

      pub before_back : before_bytes ≡ take 12 file ++ (row_records file ++ (link_records file ++ loss_records file))
      unfolding field_bytes
      before_back =
          let sec = row_section file ok fits in
          let every = ap (λ (k : ℕ). joined (row_record worth) 0 (take k (rows_filled of (row_records file) rows))) (has.n_is ∙ sym (counted file sec)) in
          let rows_same = section_back sec (row_at of (row_records file)) (row_record worth) row_there rows row_room in
          let links_same = section_back (link_section file ok fits) (λ k. Some (link_at (link_records file) k)) (λ place. link_record) link_there links link_room in
          let losses_same = section_back (loss_section file ok fits) (λ k. Some (loss_at (loss_records file) k)) (λ place. loss_record) loss_there losses loss_room in
          together (head_same s has) (every ∙ rows_same) links_same losses_same

      pub field_back : (acts : List (Act Num)) → records (act_records file) ≤ length acts → before_bytes ++ act_bytes worth (take (records (act_records file)) (acts_filled of (act_records file) acts)) ≡ file
      unfolding act_bytes
      field_back acts act_room =
          let acts_same = section_back (act_section file ok fits) (act_at of (act_records file)) (λ place. act_record worth) act_there acts act_room in
          both before_back acts_same ∙ parts_are file
