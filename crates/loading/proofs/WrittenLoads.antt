-- A field that is written, with its acts behind it, loads as the same field. Assumes nothing.
use Rattle.std.proofs.Common.{◌≡◌, ℕ, ◌+◌, ◌≤◌, true, false, ◌&&◌, List, [], ◌∷◌, ◌++◌, length, eqb, get_or, take, Some, None, Ok, Option, sym, refl, ap, ◌∙◌, subst, inl, inr, arith, append_assoc, append-nil, eq-eqb, length-append}
use Rattle.std.specs.List.{slice_get}
use Rattle.std.proofs.lemmas.Bool.{and_parts, not-false}
use Rattle.std.proofs.lemmas.List.{length-take-le}
use Rattle.std.proofs.lemmas.Option.{slice_get_cases, slice_get_within}
use Rattle.numbering.specs.Meaning.{Meaning}
use Rattle.field.specs.declared.Act.{Act}
use Rattle.field.specs.declared.Act.TheVariants.{Play as Plays, Damage as Damages}
use Rattle.field.specs.declared.Link.{Link as Linked}
use Rattle.field.specs.declared.Loss.{Loss as Lost}
use Rattle.field.specs.declared.Message.{Message}
use Rattle.field.specs.declared.Row.{Row}
use Rattle.field.specs.declared.Settings.{Settings}
use Rattle.field.specs.declared.Stage.TheVariants.{Between}
use Rattle.field.specs.Rows.{clock_keeps, outgoing_keeps, row_keeps}
use Rattle.filling.specs.Filled.{filled}
use Rattle.page.specs.Pages.{joined}
use Rattle.records.specs.declared.Kind.{Kind}
use Rattle.records.specs.declared.Kind.TheVariants.{Link, Loss}
use Rattle.records.specs.Kinds.{letter}
use Rattle.records.specs.Records.{records, two_bytes, four_bytes, is_kind}
use Rattle.reading.specs.Items.{row_at, loss_at, act_at, damage_at}
use Rattle.recording.specs.Bytes.{field_bytes, act_bytes}
use Rattle.recording.specs.Records.{head_record, row_record, link_record, loss_record, act_record}
use Rattle.sections.specs.Parts.{leading, past_rows, past_links, row_records, link_records, loss_records, act_records}
use Rattle.checking.specs.Cases.{link_at, mark_at}
use Rattle.checking.proofs.Passes.{false_true, passing}
use Rattle.vetting.specs.Acts.{damages_none, breaks_limits, acts_vetted}
use Rattle.vetting.specs.Vetted.{vetted}
use Rattle.vetting.proofs.Vets.{Vets, is_vetted, acts_are_vetted}
use Rattle.loading.specs.Same.{FiledBy, Fills, LoadBehind, LoadsAs}
use Rattle.loading.proofs.Decodes.{sensor_read, link_read, loss_read, play_read, head_read}
use Rattle.loading.proofs.Joins.{Stands, alone, fills}
use Rattle.loading.proofs.Laid.{Laid, Records, rows_records, links_records, losses_records, acts_records, acts_on, losses_on, links_on, laid, is_laid}
use Rattle.loading.proofs.Parted.{leading_all}
use Rattle.loading.proofs.Passing.{first_of, written_passes}

-- records of a kind, and behind them one of another
leads : {A : Type 0} (text : ℕ → A → List ℕ) (kind : Kind) → ((place : ℕ) (x : A) → get_or (text place x) 0 0 ≡ letter kind) → (items : List A) (back : List ℕ) → Records text items back → is_kind back 0 kind ≡ false → leading (joined text 0 items ++ back) kind ≡ length items
leads text kind begins items back are other =
    let file = joined text 0 items ++ back in
    let long = are.long in
    let next = (are.past 0 back (alone back)).bytes 0 (omega arith) in
    let last : length items + 0 ≡ length items = omega arith in
    leading_all file kind (length items) (omega arith)
    (λ i h. elim (slice_get_cases items i).1 [
      | inl r ↦ eq-eqb _ _ ((are.item i r.0 r.2).bytes 0 (omega arith) ∙ begins i r.0)
      | inr past ↦ absurd (omega arith)
    ])
    (ap (λ (k : ℕ). is_kind file k kind) (sym last) ∙ ap (λ (b : ℕ). eqb b (letter kind)) next ∙ other)

-- a section that is these items' texts: how many records it has, and what they are read as
module _ {A : Type 0} (text : ℕ → A → List ℕ) (items : List A) (back : List ℕ) (are : Records text items back) (section : List ℕ) (is : section ≡ joined text 0 items) where
  counted_from : records section ≡ length items
  counted_from = let all = ap length is in let long = are.alone_long in omega arith

  filled_from : (item : List ℕ → ℕ → Option A) → ((file : List ℕ) (i : ℕ) (x : A) → slice_get items i ≡ Some x → Stands file i (text i x) → item file i ≡ Some x) → Fills (filled (item section) (records section)) items
  filled_from item read buffer room =
      ap (λ (count : ℕ). filled (item section) count buffer) counted_from
      ∙ fills (item section) items buffer (λ i x there. read section i x there (subst (λ (file : List ℕ). Stands file i (text i x)) (sym is) (are.alone_item i x there))) room

-- no link is first past the links, and no loss past the losses
no_link : {Num : Type 0} (worth : Num → ℕ) (losses : List Lost) (acts : List (Act Num)) → is_kind (joined (λ place. loss_record) 0 losses ++ (joined (λ place. act_record worth) 0 acts ++ [])) 0 Link ≡ false
no_link worth [] [] = refl
no_link worth [] (Plays budget ∷ acts) = refl
no_link worth [] (Damages damage ∷ acts) = refl
no_link worth (loss ∷ losses) acts = refl

no_loss : {Num : Type 0} (worth : Num → ℕ) (acts : List (Act Num)) → is_kind (joined (λ place. act_record worth) 0 acts ++ []) 0 Loss ≡ false
no_loss worth [] = refl
no_loss worth (Plays budget ∷ acts) = refl
no_loss worth (Damages damage ∷ acts) = refl

row_found : {Num : Type 0} (of : ℕ → Option Num) (section : List ℕ) (i : ℕ) (x : Num) → of (four_bytes section i 8) ≡ Some x → row_at of section i ≡ Some (record { timer = two_bytes section i 4; held = x; mark = mark_at section i; outgoing = None })
row_found of section i x e = rw (e, row_at)

-- what a row and an act are read as
module _ {Num : Type 0} (m : Meaning Num) (of : ℕ → Option Num) (worth : Num → ℕ) (known : (x : Num) → m.lawful x ≡ true → of (worth x) ≡ Some x) (s : Settings) (file : List ℕ) (k : ℕ) where
  row_read : (x : Row Num) → row_keeps m s Between k x ≡ true → Stands file k (row_record worth k x) → row_at of file k ≡ Some x
  row_read x keeps there =
      let all = and_parts (clock_keeps s.hmax s.tmax s.f k x.timer x.mark) (m.lawful x.held && outgoing_keeps m s Between x.outgoing) keeps in
      let rest = and_parts (m.lawful x.held) (outgoing_keeps m s Between x.outgoing) all.1 in
      let read = sensor_read file k s k x.mark x.timer (worth x.held) all.0 there in
      let none = quiet x.outgoing rest.1 in
      row_found of file k x.held (ap of read.value_is ∙ known x.held rest.0) ∙ (λ i. Some (record { timer = read.timer_is i; held = x.held; mark = read.mark_is i; outgoing = none i }))
    where
      quiet : (o : Option (Message Num)) → outgoing_keeps m s Between o ≡ true → None ≡ o
      quiet None e = refl
      quiet (Some message) e = false_true e

  act_read : (x : Act Num) → breaks_limits m s x ≡ false → Stands file k (act_record worth x) → act_at of file k ≡ Some x
  act_read (Plays budget) right there = rw (there.bytes 0 (omega arith)) (ap (λ (n : ℕ). Some (Plays n)) (play_read file k budget there))
  act_read (Damages x) right there =
      let all = and_parts (clock_keeps s.hmax s.tmax s.f x.sensor x.timer x.mark) (m.lawful x.held) (not-false _ right) in
      let read = sensor_read file k s x.sensor x.mark x.timer (worth x.held) all.0 there in
      let number : of (four_bytes file k 8) ≡ Some x.held = ap of read.value_is ∙ known x.held all.1 in
      rw (there.bytes 0 (omega arith)) (rw (number, damage_at) (λ i. Some (Damages (record { sensor = there.bytes 1 (omega arith) i; timer = read.timer_is i; mark = read.mark_is i; held = x.held }))))

in_turn : (head row link loss act : List ℕ) → (head ++ (row ++ (link ++ loss))) ++ act ≡ head ++ (row ++ (link ++ (loss ++ (act ++ []))))
in_turn head row link loss act = simp (append_assoc, append-nil)

module _ {Num : Type 0} (m : Meaning Num) (of : ℕ → Option Num) (worth : Num → ℕ) (known : (x : Num) → m.lawful x ≡ true → of (worth x) ≡ Some x)
    (code smax : ℕ) (filed : FiledBy m of code smax) (s : Settings) (rows : List (Row Num)) (links : List Linked) (losses : List Lost) where
  abbrev firsts : List (Row Num)
  firsts = take s.n rows

  abbrev field_text : List ℕ
  field_text = field_bytes worth code smax s rows links losses

  module _ (acts : List (Act Num)) where
    abbrev file : List ℕ
    file = laid worth firsts links losses acts code smax s

    stand : Laid worth firsts links losses acts code smax s file
    stand = is_laid worth firsts links losses acts code smax s

    written : field_text ++ act_bytes worth acts ≡ file
    unfolding field_bytes act_bytes
    written = in_turn (head_record code smax s) (joined (row_record worth) 0 firsts) (joined (λ place. link_record) 0 links) (joined (λ place. loss_record) 0 losses) (joined (λ place. act_record worth) 0 acts)

    -- the parts of the file, each with all that follows it
    abbrev on_acts : List ℕ
    on_acts = acts_on worth firsts links losses acts

    abbrev on_losses : List ℕ
    on_losses = losses_on worth firsts links losses acts

    abbrev on_links : List ℕ
    on_links = links_on worth firsts links losses acts

    row_part : Records (row_record worth) firsts on_links
    row_part = rows_records worth firsts links losses acts

    link_part : Records (λ place. link_record) links on_losses
    link_part = links_records worth firsts links losses acts

    loss_part : Records (λ place. loss_record) losses on_acts
    loss_part = losses_records worth firsts links losses acts

    act_part : Records (λ place. act_record worth) acts []
    act_part = acts_records worth firsts links losses acts

    module _ (field : Vets m s rows links losses) where
      all : length firsts ≡ s.n
      all = length-take-le s.n rows field.many

      rows_are : row_records file ≡ joined (row_record worth) 0 firsts
      rows_are = rw all at row_part.front

      past_rows_are : past_rows file ≡ on_links
      past_rows_are = rw all at row_part.rest

      links_lead : leading (past_rows file) Link ≡ length links
      links_lead = ap (λ (part : List ℕ). leading part Link) past_rows_are ∙ leads (λ place. link_record) Link (λ place x. refl) links on_losses link_part (no_link worth losses acts)

      links_are : link_records file ≡ joined (λ place. link_record) 0 links
      links_are = rw (links_lead, past_rows_are) link_part.front

      past_links_are : past_links file ≡ on_losses
      past_links_are = rw (links_lead, past_rows_are) link_part.rest

      losses_lead : leading (past_links file) Loss ≡ length losses
      losses_lead = ap (λ (part : List ℕ). leading part Loss) past_links_are ∙ leads (λ place. loss_record) Loss (λ place x. refl) losses on_acts loss_part (no_loss worth acts)

      losses_are : loss_records file ≡ joined (λ place. loss_record) 0 losses
      losses_are = rw (losses_lead, past_links_are) loss_part.front

      acts_are : act_records file ≡ joined (λ place. act_record worth) 0 acts
      acts_are = rw (losses_lead, past_links_are) (loss_part.rest ∙ append-nil _)

      laid_loads : ((i : ℕ) (x : Act Num) → slice_get acts i ≡ Some x → (damages_none s x ≡ false) × (breaks_limits m s x ≡ false)) → length file ≤ 48000 → LoadsAs of code smax s rows links losses acts file
      laid_loads planned short = record {
        passes = passing file (written_passes m of worth known code smax filed s rows links losses acts field planned file stand short);
        code_is = stand.head.bytes 1 (omega arith);
        smax_is = stand.head.bytes 5 (omega arith);
        settings = head_read file 0 code smax s stand.head;
        counts = λ i. record {
          rows = (counted_from (row_record worth) firsts on_links row_part (row_records file) rows_are ∙ all) i;
          links = counted_from (λ place. link_record) links on_losses link_part (link_records file) links_are i;
          losses = counted_from (λ place. loss_record) losses on_acts loss_part (loss_records file) losses_are i;
          acts = counted_from (λ place. act_record worth) acts [] act_part (act_records file) acts_are i;
        };
        rows_fill = filled_from (row_record worth) firsts on_links row_part (row_records file) rows_are (row_at of) (λ part i x there. row_read m of worth known s part i x (field.rows_right i x (omega (arith, all, slice_get_within firsts i x there)) (first_of s.n rows i x there)));
        links_fill = filled_from (λ place. link_record) links on_losses link_part (link_records file) links_are (λ part k. Some (link_at part k)) (λ part i x there text. ap Some (link_read part i x text));
        losses_fill = filled_from (λ place. loss_record) losses on_acts loss_part (loss_records file) losses_are (λ part k. Some (loss_at part k)) (λ part i x there text. ap Some (loss_read part i x text));
        acts_fill = filled_from (λ place. act_record worth) acts [] act_part (act_records file) acts_are (act_at of) (λ part i x there. act_read m of worth known s part i x ((planned i x there).1));
      }

  -- a field alone is never too long
  pub field_loads : vetted m s rows links losses ≡ Ok tt → LoadsAs of code smax s rows links losses [] field_text
  unfolding act_bytes
  field_loads vets =
      let field = is_vetted m s rows links losses vets in
      let same = sym (append-nil field_text) ∙ written [] in
      let many = all [] field in
      let long = (stand []).long in
      let most = s.n_most in
      let few_links = field.few_links in
      let few_losses = field.few_losses in
      subst (LoadsAs of code smax s rows links losses []) (sym same) (laid_loads [] field (λ i x there. absurd cc) (omega arith))

  written_loads : (acts : List (Act Num)) → vetted m s rows links losses ≡ Ok tt → acts_vetted m s acts ≡ Ok tt → length field_text + length (act_bytes worth acts) ≤ 48000 → LoadsAs of code smax s rows links losses acts (field_text ++ act_bytes worth acts)
  written_loads acts vets planned short =
      let long = ap length (sym (written acts)) ∙ length-append field_text (act_bytes worth acts) in
      subst (LoadsAs of code smax s rows links losses acts) (sym (written acts)) (laid_loads acts (is_vetted m s rows links losses vets) (acts_are_vetted m s acts planned) (omega arith))

pub acts_load : {Num : Type 0} (m : Meaning Num) (of : ℕ → Option Num) (worth : Num → ℕ) → ((x : Num) → m.lawful x ≡ true → of (worth x) ≡ Some x) → (s : Settings) (acts : List (Act Num)) → acts_vetted m s acts ≡ Ok tt → LoadBehind m of worth s acts (act_bytes worth acts)
acts_load m of worth known s acts planned code smax rows links losses filed vets short = written_loads m of worth known code smax filed s rows links losses acts vets planned short
