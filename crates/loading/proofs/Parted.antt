-- Some records of a file as a file of their own, and the parts of a file that passes. Assumes nothing.
use Rattle.std.proofs.Common.{◌≡◌, ℕ, ◌+◌, ◌-◌, ◌*◌, ◌<◌, ◌≤◌, Bool, true, false, eqb, leb, List, length, get_or, take, drop, Some, None, Option, unwrap_or, sym, refl, ap, ◌∙◌, subst, inl, inr, arith, length-drop, length-take, zero-add, leb-false, leb-true}
use Rattle.std.proofs.lemmas.List.{get_or-drop, get_or-take, get_or_past, length-take-le}
use Rattle.std.proofs.lemmas.Bool.{cases_eq, not-false, not-true, not_from_false, not_from_true}
use Rattle.records.specs.declared.Kind.{Kind}
use Rattle.records.specs.declared.Kind.TheVariants.{Link, Loss}
use Rattle.records.specs.Kinds.{letter}
use Rattle.records.specs.Records.{records, byte, four_bytes, is_kind}
use Rattle.search.specs.Lowest.{lowest, IsLowest}
use Rattle.search.proofs.Places.{is_lowest, lowest_of}
use Rattle.sections.specs.Parts.{leading, other_kind, past_rows, past_links, row_records, link_records, loss_records, act_records}
use Rattle.checking.specs.Cases.{file_n, not_zero}
use Rattle.checking.proofs.Passes.{Passed}
use Rattle.loading.specs.Kept.{Bytes}
use Rattle.loading.proofs.Cuts.{whole, rows_there}

drop_fits : (n : ℕ) (bytes : List ℕ) → Bytes bytes → Bytes (drop n bytes)
drop_fits n bytes fits i = subst (λ (x : ℕ). x < 256) (sym (get_or-drop n bytes i 0)) (fits (n + i))

take_fits : (n : ℕ) (bytes : List ℕ) → Bytes bytes → Bytes (take n bytes)
take_fits n bytes fits i = by (leb (length (take n bytes)) i) refl
  where
    by : (b : Bool) → leb (length (take n bytes)) i ≡ b → get_or (take n bytes) i 0 < 256
    by true e = subst (λ (x : ℕ). x < 256) (sym (get_or_past (take n bytes) i 0 (leb-true _ _ e))) (omega arith)
    by false e =
        let inside : i < n = omega (arith, leb-false (length (take n bytes)) i e, length-take n bytes) in
        subst (λ (x : ℕ). x < 256) (sym (get_or-take n bytes i 0 inside)) (fits i)

take_byte : (count i at : ℕ) (bytes : List ℕ) → i < count → at < 12 → byte (take (12 * count) bytes) i at ≡ byte bytes i at
take_byte count i at bytes h small =
    let inside : 12 * i + at < 12 * count = omega arith in
    get_or-take (12 * count) bytes (12 * i + at) 0 inside

module _ (section : List ℕ) (kind : Kind) where
  leads : (o : Option ℕ) → IsLowest (other_kind section kind) (records section) o → (unwrap_or o (records section) ≤ records section) × ((i : ℕ) → i < unwrap_or o (records section) → is_kind section i kind ≡ true) × (unwrap_or o (records section) < records section → is_kind section (unwrap_or o (records section)) kind ≡ false)
  leads None all = (omega arith, λ i h. not-false (is_kind section i kind) (all i h), λ h. absurd (omega arith))
  leads (Some place) first = (omega (arith, first.0), λ i h. not-false (is_kind section i kind) (first.2 i h), λ h. not-true (is_kind section place kind) first.1)

  pub record Leads (count : ℕ) : Type 0 where
    pub within : count ≤ records section
    are : (i : ℕ) → i < count → is_kind section i kind ≡ true
    pub ends : count < records section → is_kind section count kind ≡ false

  -- the records of a kind that lead are of that kind, and the record behind them is not
  pub leading_is : Leads (leading section kind)
  unfolding leading
  leading_is =
      let all = leads (lowest (other_kind section kind) (records section)) (is_lowest (other_kind section kind) (records section) _ refl) in
      record { within = all.0; are = all.1; ends = all.2 }

  pub lead_is : (i : ℕ) → i < leading section kind → is_kind (take (12 * leading section kind) section) i kind ≡ true
  lead_is i h = ap (λ (b : ℕ). eqb b (letter kind)) (take_byte (leading section kind) i 0 section h (omega arith)) ∙ leading_is.are i h

module _ (file : List ℕ) where
  -- `section` has `count` records of the file, from record `start` on
  pub record Section (section : List ℕ) (start count : ℕ) : Type 0 where
    pub bytes : (i at : ℕ) → i < count → at < 12 → byte section i at ≡ byte file (start + i) at
    pub long : length section ≡ 12 * count
    pub within : start + count ≤ records file
    pub small : Bytes section

  module _ {section : List ℕ} {start count : ℕ} (s : Section section start count) where
    pub counted : records section ≡ count
    counted = let long = s.long in omega arith

    front : (a : ℕ) → a ≤ count → Section (take (12 * a) section) start a
    front a h =
        let long = s.long in
        let within = s.within in
        record {
          bytes = λ i at inside small. take_byte a i at section inside small ∙ s.bytes i at (omega arith) small;
          long = length-take-le (12 * a) section (omega arith);
          within = omega arith;
          small = take_fits (12 * a) section s.small;
        }

    rest : (a : ℕ) → a ≤ count → Section (drop (12 * a) section) (start + a) (count - a)
    rest a h =
        let long = s.long in
        let within = s.within in
        record {
          bytes = λ i at inside small. get_or-drop (12 * a) section (12 * i + at) 0 ∙ ap (λ (k : ℕ). get_or section k 0) (place i at) ∙ s.bytes (a + i) at (omega arith) small ∙ ap (λ (k : ℕ). byte file k at) (start_on i);
          long = length-drop (12 * a) section ∙ omega arith;
          within = omega arith;
          small = drop_fits (12 * a) section s.small;
        }
      where
        place : (i at : ℕ) → 12 * a + (12 * i + at) ≡ 12 * (a + i) + at
        place i at = omega arith

        start_on : (i : ℕ) → start + (a + i) ≡ start + a + i
        start_on i = omega arith

    -- what a record of the section has, the file's has
    module _ (i : ℕ) (h : i < count) where
      pub kind_same : (kind : Kind) → is_kind section i kind ≡ is_kind file (start + i) kind
      kind_same kind = ap (λ (b : ℕ). eqb b (letter kind)) (s.bytes i 0 h (omega arith))

      pub value_same : four_bytes section i 8 ≡ four_bytes file (start + i) 8
      value_same = rw (s.bytes i 8 h (omega arith), s.bytes i 9 h (omega arith), s.bytes i 10 h (omega arith), s.bytes i 11 h (omega arith))

      pub zeros_same : not_zero section i ≡ not_zero file (start + i)
      zeros_same =
          let b : (at : ℕ) → at < 12 → byte section i at ≡ byte file (start + i) at = λ at. s.bytes i at h in
          rw (b 0 (omega arith), b 1 (omega arith), b 2 (omega arith), b 3 (omega arith), b 4 (omega arith), b 5 (omega arith), b 6 (omega arith), b 7 (omega arith), b 8 (omega arith), b 9 (omega arith), b 10 (omega arith), b 11 (omega arith))

  -- how many rows, links, losses and acts there are
  abbrev pub n : ℕ
  n = file_n file

  abbrev pub L : ℕ
  L = leading (past_rows file) Link

  abbrev pub X : ℕ
  X = leading (past_links file) Loss

  abbrev pub A : ℕ
  A = records file - 1 - n - L - X

  module _ (ok : Passed file) (fits : Bytes file) where
    all : Section file 0 (records file)
    all = record { bytes = λ i at h small. ap (λ (k : ℕ). byte file k at) (sym (zero-add i)); long = whole file ok; within = omega arith; small = fits }

    after_head : Section (drop 12 file) 1 (records file - 1)
    after_head = let there = rows_there file ok in rest all 1 (omega arith)

    room : n ≤ records file - 1
    room = let there = rows_there file ok in omega arith

    pub row_section : Section (row_records file) 1 n
    row_section = front after_head n room

    pub after_rows : Section (past_rows file) (1 + n) (records file - 1 - n)
    after_rows = rest after_head n room

    links_room : L ≤ records file - 1 - n
    links_room = let lead = (leading_is (past_rows file) Link).within in let many = counted after_rows in omega arith

    pub link_section : Section (link_records file) (1 + n) L
    link_section = front after_rows L links_room

    pub after_links : Section (past_links file) (1 + n + L) (records file - 1 - n - L)
    after_links = rest after_rows L links_room

    losses_room : X ≤ records file - 1 - n - L
    losses_room = let lead = (leading_is (past_links file) Loss).within in let many = counted after_links in omega arith

    pub loss_section : Section (loss_records file) (1 + n + L) X
    loss_section = front after_links X losses_room

    pub act_section : Section (act_records file) (1 + n + L + X) A
    act_section = rest after_links X losses_room

-- the records at the front of a file that are of a kind, where the next one is of another
pub leading_all : (file : List ℕ) (kind : Kind) (count : ℕ) → count ≤ records file → ((i : ℕ) → i < count → is_kind file i kind ≡ true) → is_kind file count kind ≡ false → leading file kind ≡ count
unfolding leading
leading_all file kind count within front next =
    let before : (i : ℕ) → i < count → other_kind file kind i ≡ false = λ i h. not_from_true _ (front i h) in
    elim (cases_eq count (records file)) [
      | inl all ↦ ap (λ (o : Option ℕ). unwrap_or o (records file)) (sym (lowest_of (other_kind file kind) (records file) None (λ i h. before i (omega arith)))) ∙ sym all
      | inr some ↦ ap (λ (o : Option ℕ). unwrap_or o (records file)) (sym (lowest_of (other_kind file kind) (records file) (Some count) (omega arith, not_from_false _ next, before)))
    ]
