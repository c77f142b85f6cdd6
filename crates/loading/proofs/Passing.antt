-- A field that is written, with its acts behind it, passes the check of a file. Assumes nothing.
use Rattle.std.proofs.Common.{◌≡◌, ℕ, zero, suc, ◌+◌, ◌-◌, ◌*◌, ◌%◌, ◌<◌, ◌≤◌, Bool, true, false, not, ◌&&◌, ◌||◌, eqb, ltb, leb, List, [], ◌∷◌, length, take, Some, Ok, Option, sym, refl, ap, ◌∙◌, subst, inl, inr, arith, eq-eqb, le-leb}
use Rattle.std.specs.List.{slice_get}
use Rattle.std.proofs.lemmas.Bool.{and_from, and_parts, cases_eq, cond_both, eqb-false, eqb-true, false_from_ne_true, leb-false, leb-true, le-ltb, lt-leb, lt-ltb, not-false, not_from_true, or_cases, or_from, or_left, or_right}
use Rattle.std.proofs.lemmas.List.{length-take-le}
use Rattle.std.proofs.lemmas.Option.{slice_get_cases, slice_get_within}
use Rattle.numbering.specs.Meaning.{Meaning}
use Rattle.field.specs.declared.Act.{Act}
use Rattle.field.specs.declared.Act.TheVariants.{Play as Plays, Damage as Damages}
use Rattle.field.specs.declared.Link.{Link as Linked}
use Rattle.field.specs.declared.Loss.{Loss as Lost}
use Rattle.field.specs.declared.Row.{Row}
use Rattle.field.specs.declared.Settings.{Settings}
use Rattle.field.specs.declared.Stage.TheVariants.{Between}
use Rattle.field.specs.Making.{HasSettings}
use Rattle.field.specs.Rows.{clock_keeps, ends_within, link_keeps, joins, outgoing_keeps}
use Rattle.field.specs.SettingLimits.{settings_keep, within}
use Rattle.filed.specs.Codes.{lawful_value}
use Rattle.filed.specs.Values.{lawful_of}
use Rattle.records.specs.declared.Kind.{Kind}
use Rattle.records.specs.declared.Kind.TheVariants.{Field, Sensor, Link, Loss, Play}
use Rattle.records.specs.Kinds.{letter, kind_of}
use Rattle.records.specs.Records.{records, byte, four_bytes, is_kind}
use Rattle.recording.specs.Records.{sensor_record, row_record, link_record, loss_record, play_record, act_record}
use Rattle.search.proofs.Places.{found, none_lowest}
use Rattle.checking.specs.Cases.{file_n, file_hmax, file_tmax, file_f, file_code, file_smax, bad_length, unknown_kind, not_zero, misplaced, out_of_order, bad_setting, no_sensor, link_at, links as joining, linked, bad_link, outnumbers, too_many, clock_at, number_at, bad_row, no_link}
use Rattle.checking.proofs.Passes.{Passed}
use Rattle.vetting.specs.Acts.{damages_none, breaks_limits}
use Rattle.vetting.proofs.Vets.{Vets, joined_at, joined_nowhere}
use Rattle.loading.specs.Same.{FiledBy}
use Rattle.loading.proofs.Decodes.{sensor_read, link_read, head_read}
use Rattle.loading.proofs.Joins.{Stands}
use Rattle.loading.proofs.Laid.{Laid}

and_when : (a b : Bool) → (a ≡ true → b ≡ false) → (a && b) ≡ false
and_when true b none = none refl
and_when false b none = refl

and_unless : (a b : Bool) → (a ≡ true → b ≡ true) → (a && not b) ≡ false
and_unless a b holds = and_when a (not b) (λ e. rw (holds e) refl)

-- a byte that is a letter is that of one of the five kinds
letter_known : (kind : Kind) (b : ℕ) → b ≡ letter kind → (not (eqb b 70) && (not (eqb b 83) && (not (eqb b 76) && (not (eqb b 88) && not (eqb b 80))))) ≡ false
letter_known Field b e = rw e refl
letter_known Sensor b e = rw e refl
letter_known Link b e = rw e refl
letter_known Loss b e = rw e refl
letter_known Play b e = rw e refl

one_letter : (a b : Kind) → letter a ≡ letter b → a ≡ b
one_letter a b e = cc (read a, read b, ap kind_of e)
  where
    read : (kind : Kind) → kind_of (letter kind) ≡ Ok kind
    read Field = refl
    read Sensor = refl
    read Link = refl
    read Loss = refl
    read Play = refl

-- the settings of a field keep their limits
settings_right : (s : Settings) → settings_keep s.n s.hmax s.tmax s.f ≡ true
settings_right s =
    let inside : (low high x : ℕ) → low ≤ x → x ≤ high → within low high x ≡ true = λ low high x l h. and_from (leb low x) (leb x high) (le-leb low x l) (le-leb x high h) in
    and_from _ _ (and_from _ _ (inside 1 200 s.n s.n_least s.n_most) (inside 1 15 s.hmax s.hmax_least s.hmax_most)) (and_from _ _ (inside 1 60 s.tmax s.tmax_least s.tmax_most) (inside (s.hmax * s.tmax + 1) 65535 s.f s.f_least s.f_most))

-- the first n of more items
pub first_of : {A : Type 0} (n : ℕ) (items : List A) (i : ℕ) (x : A) → slice_get (take n items) i ≡ Some x → slice_get items i ≡ Some x
first_of zero items i x there = absurd cc
first_of (suc n) [] i x there = there
first_of (suc n) (y ∷ items) zero x there = there
first_of (suc n) (y ∷ items) (suc i) x there = first_of n items i x there

module _ {Num : Type 0} (m : Meaning Num) (of : ℕ → Option Num) (worth : Num → ℕ) (known : (x : Num) → m.lawful x ≡ true → of (worth x) ≡ Some x)
    (code smax : ℕ) (filed : FiledBy m of code smax) (s : Settings) (rows : List (Row Num)) (links : List Linked) (losses : List Lost) (acts : List (Act Num))
    (field : Vets m s rows links losses) (planned : (i : ℕ) (x : Act Num) → slice_get acts i ≡ Some x → (damages_none s x ≡ false) × (breaks_limits m s x ≡ false))
    (file : List ℕ) (laid : Laid worth (take s.n rows) links losses acts code smax s file) (short : length file ≤ 48000) where
  abbrev n : ℕ
  n = s.n

  abbrev L : ℕ
  L = length links

  abbrev X : ℕ
  X = length losses

  abbrev firsts : List (Row Num)
  firsts = take s.n rows

  all_first : length firsts ≡ n
  all_first = length-take-le s.n rows field.many

  count : records file ≡ 1 + (n + (L + (X + length acts)))
  count = let long = laid.long in let first = all_first in omega arith

  n_is : file_n file ≡ n
  n_is = laid.head.bytes 2 (omega arith)

  -- what a record of a kind says
  record Sensing (k : ℕ) : Type 0 where
    sensor : ℕ
    mark : Option ℕ
    timer : ℕ
    held : Num
    there : ltb sensor n ≡ true
    clock : clock_keeps s.hmax s.tmax s.f sensor timer mark ≡ true
    lawful : m.lawful held ≡ true
    text : Stands file k (sensor_record sensor mark timer (worth held))

  record Linking (k : ℕ) : Type 0 where
    i : ℕ
    x : Linked
    there : slice_get links i ≡ Some x
    place : k ≡ 1 + (n + i)
    text : Stands file k (link_record x)

  record Losing (k : ℕ) : Type 0 where
    i : ℕ
    x : Lost
    there : slice_get losses i ≡ Some x
    place : k ≡ 1 + (n + (L + i))
    text : Stands file k (loss_record x)

  abbrev Says : ℕ → Kind → Type 0
  Says k Field = k ≡ 0
  Says k Sensor = Sensing k
  Says k Link = Linking k
  Says k Loss = Losing k
  Says k Play = (budget : ℕ) × Stands file k (play_record budget)

  record Is (k : ℕ) : Type 0 where
    kind : Kind
    first : byte file k 0 ≡ letter kind
    says : Says k kind

  stands : {k j : ℕ} {text : List ℕ} → k ≡ j → Stands file j text → Stands file k text
  stands {text = text} place there = subst (λ (i : ℕ). Stands file i text) (sym place) there

  link_text : (i : ℕ) (x : Linked) → slice_get links i ≡ Some x → Stands file (1 + (n + i)) (link_record x)
  link_text i x there = rw all_first at laid.link i x there

  loss_text : (i : ℕ) (x : Lost) → slice_get losses i ≡ Some x → Stands file (1 + (n + (L + i))) (loss_record x)
  loss_text i x there = rw all_first at laid.loss i x there

  act_text : (i : ℕ) (x : Act Num) → slice_get acts i ≡ Some x → Stands file (1 + (n + (L + (X + i)))) (act_record worth x)
  act_text i x there = rw all_first at laid.act i x there

  a_row : (k i : ℕ) (x : Row Num) → slice_get firsts i ≡ Some x → k ≡ 1 + i → Is k
  a_row k i x there place =
      let h = slice_get_within firsts i x there in
      let first = all_first in
      let text : Stands file k (row_record worth i x) = stands place (laid.row i x there) in
      let all = and_parts (clock_keeps s.hmax s.tmax s.f i x.timer x.mark) (m.lawful x.held && outgoing_keeps m s Between x.outgoing) (field.rows_right i x (omega arith) (first_of s.n rows i x there)) in
      let lawful = (and_parts (m.lawful x.held) (outgoing_keeps m s Between x.outgoing) all.1).0 in
      record { kind = Sensor; first = text.bytes 0 (omega arith); says = record { sensor = i; mark = x.mark; timer = x.timer; held = x.held; there = lt-ltb i n (omega arith); clock = all.0; lawful = lawful; text = text } }

  a_link : (k i : ℕ) (x : Linked) → slice_get links i ≡ Some x → k ≡ 1 + (n + i) → Is k
  a_link k i x there place =
      let text : Stands file k (link_record x) = stands place (link_text i x there) in
      record { kind = Link; first = text.bytes 0 (omega arith); says = record { i = i; x = x; there = there; place = place; text = text } }

  a_loss : (k i : ℕ) (x : Lost) → slice_get losses i ≡ Some x → k ≡ 1 + (n + (L + i)) → Is k
  a_loss k i x there place =
      let text : Stands file k (loss_record x) = stands place (loss_text i x there) in
      record { kind = Loss; first = text.bytes 0 (omega arith); says = record { i = i; x = x; there = there; place = place; text = text } }

  an_act : (k i : ℕ) (x : Act Num) → slice_get acts i ≡ Some x → k ≡ 1 + (n + (L + (X + i))) → Is k
  an_act k i (Plays budget) there place =
      let text : Stands file k (play_record budget) = stands place (act_text i (Plays budget) there) in
      record { kind = Play; first = text.bytes 0 (omega arith); says = (budget, text) }
  an_act k i (Damages x) there place =
      let text : Stands file k (sensor_record x.sensor x.mark x.timer (worth x.held)) = stands place (act_text i (Damages x) there) in
      let right = planned i (Damages x) there in
      let keeps = and_parts (clock_keeps s.hmax s.tmax s.f x.sensor x.timer x.mark) (m.lawful x.held) (not-false _ right.1) in
      record { kind = Sensor; first = text.bytes 0 (omega arith); says = record { sensor = x.sensor; mark = x.mark; timer = x.timer; held = x.held; there = not-false _ right.0; clock = keeps.0; lawful = keeps.1; text = text } }

  is : (k : ℕ) → k < records file → Is k
  is zero h = record { kind = Field; first = laid.head.bytes 0 (omega arith); says = refl }
  is (suc k) h =
      let many = count in
      let first = all_first in
      elim (slice_get_cases firsts k).1 [
        | inl r ↦ a_row (suc k) k r.0 r.2 (omega arith)
        | inr past_rows ↦ elim (slice_get_cases links (k - n)).1 [
          | inl r ↦ a_link (suc k) (k - n) r.0 r.2 (omega arith)
          | inr past_links ↦ elim (slice_get_cases losses (k - n - L)).1 [
            | inl r ↦ a_loss (suc k) (k - n - L) r.0 r.2 (omega arith)
            | inr past_losses ↦ elim (slice_get_cases acts (k - n - L - X)).1 [
              | inl r ↦ an_act (suc k) (k - n - L - X) r.0 r.2 (omega arith)
              | inr past ↦ absurd (omega arith)
            ]
          ]
        ]
      ]

  -- so a record of a kind says what records of that kind say
  says : (k : ℕ) → k < records file → (kind : Kind) → is_kind file k kind ≡ true → Says k kind
  says k h kind e =
      let r = is k h in
      subst (Says k) (one_letter r.kind kind (sym r.first ∙ eqb-true (byte file k 0) (letter kind) e)) r.says

  -- 1 to 3
  length_right : bad_length file ≡ false
  length_right =
      let long = laid.long in
      let whole : length file % 12 ≡ 0 = omega arith in
      or_from _ _ (le-ltb 48000 (length file) short) (not_from_true _ (eq-eqb _ _ whole))

  kind_known : (k : ℕ) → k < records file → unknown_kind file k ≡ false
  kind_known k h = let r = is k h in letter_known r.kind (byte file k 0) r.first

  zeroed : (k : ℕ) → k < records file → not_zero file k ≡ false
  zeroed k h =
      or_from _ _ (and_unless _ _ (λ e. let b = (says k h Sensor e).text.bytes in rw (b 3 (omega arith), b 6 (omega arith), b 7 (omega arith)) refl))
      (or_from _ _ (and_unless _ _ (λ e. let b = (says k h Link e).text.bytes in rw (b 4 (omega arith), b 5 (omega arith), b 6 (omega arith), b 7 (omega arith)) (rw (b 8 (omega arith), b 9 (omega arith), b 10 (omega arith), b 11 (omega arith)) refl)))
      (or_from _ _ (and_unless _ _ (λ e. let b = (says k h Loss e).text.bytes in rw (b 3 (omega arith), b 8 (omega arith), b 9 (omega arith), b 10 (omega arith), b 11 (omega arith)) refl))
      (and_unless _ _ (λ e. let b = (says k h Play e).1.bytes in rw (b 1 (omega arith), b 2 (omega arith), b 3 (omega arith)) (rw (b 8 (omega arith), b 9 (omega arith), b 10 (omega arith), b 11 (omega arith)) refl)))))

  -- 4
  link_there : (i : ℕ) → i < L → is_kind file (1 + (n + i)) Link ≡ true
  link_there i h = elim (slice_get_cases links i).1 [
    | inl r ↦ eq-eqb _ _ ((link_text i r.0 r.2).bytes 0 (omega arith))
    | inr past ↦ absurd (omega arith)
  ]

  loss_there : (i : ℕ) → i < X → is_kind file (1 + (n + (L + i))) Loss ≡ true
  loss_there i h = elim (slice_get_cases losses i).1 [
    | inl r ↦ eq-eqb _ _ ((loss_text i r.0 r.2).bytes 0 (omega arith))
    | inr past ↦ absurd (omega arith)
  ]

  moved : {k j : ℕ} (kind : Kind) → k ≡ j → is_kind file j kind ≡ true → is_kind file k kind ≡ true
  moved kind place there = rw place there

  -- what stands before a link or a loss
  before_link : (k i : ℕ) → k ≡ 1 + (n + i) → i < L → (eqb k (file_n file + 1) || is_kind file (k - 1) Link) ≡ true
  before_link k zero place h = or_left _ _ (eq-eqb k (file_n file + 1) (rw n_is (omega arith)))
  before_link k (suc i) place h =
      let last : k - 1 ≡ 1 + (n + i) = omega arith in
      or_right _ _ (moved Link last (link_there i (omega arith)))

  before_loss : (k i : ℕ) → k ≡ 1 + (n + (L + i)) → i < X → (eqb k (file_n file + 1) || (is_kind file (k - 1) Link || is_kind file (k - 1) Loss)) ≡ true
  before_loss k zero place h = elim (cases_eq L 0) [
    | inl none ↦ or_left _ _ (eq-eqb k (file_n file + 1) (rw n_is (omega arith)))
    | inr some ↦ let last : k - 1 ≡ 1 + (n + (L - 1)) = omega arith in or_right _ _ (or_left _ _ (moved Link last (link_there (L - 1) (omega arith))))
  ]
  before_loss k (suc i) place h =
      let last : k - 1 ≡ 1 + (n + (L + i)) = omega arith in
      or_right _ _ (or_right _ _ (moved Loss last (loss_there i (omega arith))))

  placed : (k : ℕ) → k < records file → n < k → misplaced file k ≡ false
  placed k h past =
      or_from _ _ (false_from_ne_true _ (λ e. let first : k ≡ 0 = says k h Field e in omega arith))
      (or_from _ _ (and_unless _ _ (λ e. let l = says k h Link e in before_link k l.i l.place (slice_get_within links l.i l.x l.there)))
      (and_unless _ _ (λ e. let l = says k h Loss e in before_loss k l.i l.place (slice_get_within losses l.i l.x l.there))))

  row_there : (k : ℕ) → 0 < k → k ≤ n → (is_kind file k Sensor && eqb (byte file k 1) (k - 1)) ≡ true
  row_there k low high =
      let first = all_first in
      elim (slice_get_cases firsts (k - 1)).1 [
        | inl r ↦ let text : Stands file k (row_record worth (k - 1) r.0) = stands (omega arith) (laid.row (k - 1) r.0 r.2) in and_from _ _ (eq-eqb _ _ (text.bytes 0 (omega arith))) (eq-eqb _ _ (text.bytes 1 (omega arith)))
        | inr past ↦ absurd (omega arith)
      ]

  ordered : (k : ℕ) → k < records file + 1 → out_of_order file k ≡ false
  ordered k most =
      let many = count in
      let n_same = n_is in
      cond_both (leb (records file) k) _ _ (λ b. b ≡ false)
      (λ e. let end = leb-true (records file) k e in lt-leb k (file_n file) (omega arith))
      (λ e. let h = leb-false (records file) k e in cond_both (eqb k 0) _ _ (λ b. b ≡ false)
      (λ e. not_from_true _ (eq-eqb _ _ ((stands (eqb-true k 0 e) laid.head).bytes 0 (omega arith))))
      (λ later. cond_both (leb k (file_n file)) _ _ (λ b. b ≡ false)
      (λ e. let ne = eqb-false k 0 later in let low = leb-true k (file_n file) e in not_from_true _ (row_there k (omega arith) (omega arith)))
      (λ e. let high = leb-false k (file_n file) e in placed k h (omega arith))))

  -- 5
  settings_same : HasSettings (file_n file) (file_hmax file) (file_tmax file) (file_f file) (four_bytes file 0 8) s
  settings_same = head_read file 0 code smax s laid.head

  code_same : file_code file ≡ code
  code_same = laid.head.bytes 1 (omega arith)

  smax_same : file_smax file ≡ smax
  smax_same = laid.head.bytes 5 (omega arith)

  settings_kept : bad_setting file ≡ false
  settings_kept =
      let h = settings_same in
      rw (sym h.n_is, sym h.hmax_is, sym h.tmax_is, sym h.f_is, code_same, smax_same) (rw (settings_right s, filed.keeps) refl)

  -- 6
  sensors_there : (k : ℕ) → k < records file → no_sensor file k ≡ false
  sensors_there k h =
      or_from _ _
      (and_unless (is_kind file k Link || is_kind file k Loss) (ends_within (file_n file) (byte file k 1) (byte file k 2)) (λ e. elim (or_cases _ _ e) [
        | inl e ↦ let l = says k h Link e in let b = l.text.bytes in rw (n_is, b 1 (omega arith), b 2 (omega arith)) (field.link_ends l.i l.x l.there)
        | inr e ↦ let l = says k h Loss e in let b = l.text.bytes in rw (n_is, b 1 (omega arith), b 2 (omega arith)) (field.loss_ends l.i l.x l.there)
      ]))
      (and_unless (is_kind file k Sensor) (ltb (byte file k 1) (file_n file)) (λ e. let r = says k h Sensor e in rw (n_is, r.text.bytes 1 (omega arith)) r.there))

  -- 7
  first_joining : (k i : ℕ) (x : Linked) → slice_get links i ≡ Some x → k ≡ 1 + (n + i) → k ≤ records file → linked file k x.from x.to ≡ false
  first_joining k i x there place most =
      let none : (j : ℕ) → j < k → joining file x.from x.to j ≡ false = λ j h. and_when (is_kind file j Link) (joins (link_at file j) x.from x.to) (λ e.
      let l = says j (omega arith) Link e in
      let here = l.place in
      ap (λ (link : Linked). joins link x.from x.to) (link_read file j l.x l.text) ∙ joined_nowhere links i x.from x.to ((field.links_right i x there).1) l.i l.x (omega arith) l.there) in
      rw (none_lowest (joining file x.from x.to) k none) refl

  links_kept : (k : ℕ) → k < records file → bad_link file k ≡ false
  links_kept k h = and_when (is_kind file k Link) (not (link_keeps (link_at file k)) || linked file k (byte file k 1) (byte file k 2)) (λ e.
      let l = says k h Link e in
      let b = l.text.bytes in
      or_from (not (link_keeps (link_at file k))) (linked file k (byte file k 1) (byte file k 2))
      (ap (λ (link : Linked). not (link_keeps link)) (link_read file k l.x l.text) ∙ (field.links_right l.i l.x l.there).0)
      (rw (b 1 (omega arith), b 2 (omega arith)) (first_joining k l.i l.x l.there l.place (omega arith))))

  -- 8
  -- so many of a kind in a row are no more than so many
  few_of : (kind : Kind) (most first many : ℕ) → many ≤ most → ((k : ℕ) → k < records file → is_kind file k kind ≡ true → (first ≤ k) × (k < first + many)) → (k : ℕ) → k < records file → outnumbers file k kind most ≡ false
  few_of kind most first many few stand k h = and_when (is_kind file k kind) (leb most k && is_kind file (k - most) kind) (λ e.
      let here = stand k h e in
      and_when (leb most k) (is_kind file (k - most) kind) (λ least. false_from_ne_true (is_kind file (k - most) kind) (λ e.
      let low = leb-true most k least in
      let there = stand (k - most) (omega arith) e in omega arith)))

  few : (k : ℕ) → k < records file → too_many file k ≡ false
  few k h = or_from _ _
      (few_of Link 1024 (1 + n) L field.few_links (λ k h e. let l = says k h Link e in let place = l.place in let within = slice_get_within links l.i l.x l.there in (omega arith, omega arith)) k h)
      (few_of Loss 256 (1 + n + L) X field.few_losses (λ k h e. let l = says k h Loss e in let place = l.place in let within = slice_get_within losses l.i l.x l.there in (omega arith, omega arith)) k h)

  -- 9
  lawful_same : (x : Num) → m.lawful x ≡ true → lawful_value code smax (worth x) ≡ true
  lawful_same x lawful = filed.values (worth x) ∙ rw (known x lawful, lawful_of) lawful

  rows_kept : (k : ℕ) → k < records file → bad_row file k ≡ false
  rows_kept k h = and_unless (is_kind file k Sensor) (clock_at file k && number_at file k) (λ e.
      let r = says k h Sensor e in
      let all = settings_same in
      let read = sensor_read file k s r.sensor r.mark r.timer (worth r.held) r.clock r.text in
      and_from (clock_at file k) (number_at file k)
      (rw (sym all.hmax_is, sym all.tmax_is, sym all.f_is, r.text.bytes 1 (omega arith), read.timer_is, read.mark_is) r.clock)
      (rw (code_same, smax_same, read.value_is) (lawful_same r.held r.lawful)))

  -- 10
  losses_linked : (k : ℕ) → k < records file → no_link file k ≡ false
  losses_linked k h = and_unless (is_kind file k Loss) (linked file (records file) (byte file k 1) (byte file k 2)) (λ e.
      let l = says k h Loss e in
      let b = l.text.bytes in
      let link = joined_at links L l.x.from l.x.to (field.losses_right l.i l.x l.there) in
      let many = count in
      let at : ℕ = 1 + (n + link.0) in
      let within = slice_get_within links link.0 link.1 link.2 in
      rw (b 1 (omega arith), b 2 (omega arith)) (found (joining file l.x.from l.x.to) (records file) at (omega arith) (and_from _ _ (link_there link.0 within) (ap (λ (x : Linked). joins x l.x.from l.x.to) (link_read file at link.1 (link_text link.0 link.1 link.2)) ∙ link.3))))

  pub written_passes : Passed file
  written_passes = record {
    length_right = length_right;
    known = kind_known;
    zeroed = zeroed;
    ordered = ordered;
    set = settings_kept;
    within = sensors_there;
    links_keep = links_kept;
    few = few;
    rows_keep = rows_kept;
    linked_losses = losses_linked;
  }
