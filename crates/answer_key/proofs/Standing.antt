-- What a key's run is given, as it begins and from call to call. Assumes nothing.
use Rattle.std.proofs.Common.{◌≡◌, ℕ, List, [], ◌∷◌, None, Some, Ok, Err, Option, Result, sym, refl, ap, ◌∙◌, subst, arith, replicate}
use Rattle.std.proofs.Math.Nat.{sub-zero}
use Rattle.std.proofs.lemmas.List.{length-replicate}
use Rattle.air.specs.Airs.{Carrying}
use Rattle.air.specs.Delays.{KeepsPeriods}
use Rattle.field.specs.declared.Act.{Act}
use Rattle.field.specs.declared.Act.TheVariants.{Play as Plays, Damage as Damages}
use Rattle.field.specs.declared.Settings.{Settings}
use Rattle.numbering.specs.Meaning.{Meaning}
use Rattle.field.specs.declared.Damage.{Damage}
use Rattle.history.specs.Calls.{begun, beginning, damaging}
use Rattle.history.specs.Histories.{Outcome, moves_on}
use Rattle.history.specs.Histories.Call.{Damaging, Play}
use Rattle.history.specs.Plays.{playing}
use Rattle.history.specs.Plays.Event.{Damages as Damaged}
use Rattle.history.specs.Settled.{FloodsSettle}
use Rattle.loading.specs.Loads.{counted}
use Rattle.checking.specs.Cases.{file_checked}
use Rattle.filed.specs.Codes.{lawful_value}
use Rattle.filed.specs.Values.{lawful_of}
use Rattle.history.specs.declared.taking.TakenCopy.{TakenCopy}
use Rattle.std.specs.Prelude.{IfOk, IsOkAnd}
use Rattle.history.specs.Worlds.{Field, Lent as Given, World}
use Rattle.history.proofs.Kept.{granted_ok, ok_is}
use Rattle.history.proofs.PlayLaws.{call_laws}
use Rattle.field.specs.declared.Row.{Row}
use Rattle.refusal.specs.declared.FieldFault.{FieldFault}
use Rattle.refusal.specs.declared.RunFault.{RunFault}
use Rattle.run.proofs.Began.{began_from}
use Rattle.run.proofs.Loans.{given_same}
use Rattle.run.proofs.Returning.{write_laws}
use Rattle.run.specs.Returning.{IsFile}
use Rattle.run.specs.Writing.{Filing}
use Rattle.run.specs.Answers.{Beginning, began, begun_as}
use Rattle.run.specs.Standing.{SameLoans, between, field_given, field_told, given}
use Rattle.run.specs.declared.lending.Lent.{Lent}
use Rattle.run.specs.declared.states.Idle.{Idle}
use Rattle.answer_key.proofs.Acting.{between_call}
use Rattle.answer_key.specs.Keys.{acted, acts_end, key_of, refusal_in_file}
use Rattle.answer_key.specs.Files.{LendsFile, blank_link, blank_loss, blank_row, file_acts, file_field, file_key, file_rows, file_start, first_act}
use Rattle.answer_key.specs.Lines.{copy_lines, refusal_line}
use Rattle.answer_key.specs.Portions.{BeginsWhole, Settling, behind, run_of, standing, text_left}
use Rattle.answer_key.specs.declared.states.AnswerKey.{AnswerKey}
use Rattle.answer_key.specs.declared.states.Bookmark.{Bookmark}
use Rattle.answer_key.specs.declared.states.Ahead.TheVariants.{Acts}

module _ {N D A Num : Type 0} (meaning : N → Meaning Num) (settings : Settings) (count : ℕ) (before after : Lent N D A Num) (run : Idle) where
  abbrev told : Field Num
  told = field_told meaning settings count before

  -- a run that was granted holds what begin was told
  pub holds_told :
      begun_as after (Ok run) ≡ began before.rows.now before.senders.now (begun told before.rows.now before.senders.now) → SameLoans before after
      → (begun told before.rows.now before.senders.now ≡ Ok (between run after)) × (told ≡ field_given meaning run.progress after)
  holds_told is same =
      let granted = began_from before.rows.now before.senders.now _ (between run after) after.rows.now after.senders.now is in
      let stands : beginning told before.rows.now before.senders.now ≡ between run after = ok_is _ _ (granted_ok _ _ _ granted) in
      let settings_held : run.progress.settings ≡ settings = sym (ap (λ (w : World Num). w.settings) stands) in
      let count_held : run.progress.count ≡ count = sym (ap (λ (w : World Num). w.count) stands) in
      (granted, rw (same.numbering, same.links, settings_held, count_held) refl)

  -- so its floods settle in the history of each key
  pub key_settles :
      (period : D → ℕ → ℕ → ℕ → ℕ) (carries : A → Carrying) → KeepsPeriods (period after.delay.now)
      → begun_as after (Ok run) ≡ began before.rows.now before.senders.now (begun told before.rows.now before.senders.now) → SameLoans before after
      → FloodsSettle told (between run after) → (index : ℕ) → Settling index (given meaning period carries run.progress after) (between run after)
  unfolding FloodsSettle
  key_settles period carries keeps is same settle index acts =
      let lent = given meaning period carries run.progress after in
      let here : FloodsSettle lent.field (between run after) = subst (λ (f : Field Num). FloodsSettle f (between run after)) (holds_told is same).1 settle in
      here lent.period lent.carries keeps (acted lent index acts (between run after)).calls

-- A key that begins is whole.
pub begins_whole :
    {Num : Type 0} (worth : Num → ℕ) (index : ℕ) (lent : Given Num) (world : World Num)
    → BeginsWhole worth index lent (record { ahead = Acts; act = 0; index = index; played = 0; first = 0; lines = 0 }) world
unfolding copy_lines
begins_whole {Num} worth index lent world [] log page = (refl, refl)
begins_whole {Num} worth index lent world (Plays budget ∷ acts) log page =
    let unplayed : behind 0 (Plays budget ∷ acts) ≡ Plays budget ∷ acts = ap (λ (k : ℕ). Plays k ∷ acts) (sub-zero budget) in
    (ap (λ (left : List (Act Num)). key_of lent worth index left world) unplayed, ap (λ (left : List (Act Num)). (acts_end lent index left world)) unplayed)
begins_whole {Num} worth index lent world (Damages damage ∷ acts) log page = (refl, refl)

-- A play and a damage leave what a run holds.
module _ {Num : Type 0} (lent : Given Num) (world : World Num) (here : world.position ≡ None) where
  pub play_holds : (budget room : ℕ) → let p = playing lent budget room world in (p.world.settings ≡ world.settings) × (p.world.count ≡ world.count)
  play_holds budget room =
      let is = between_call lent (Play budget room) world here in (
        ap (λ (o : Outcome Num). o.world.settings) (sym is) ∙ (call_laws lent).holds_settings world (Play budget room),
        ap (λ (o : Outcome Num). o.world.count) (sym is) ∙ (call_laws lent).holds_count world (Play budget room),
      )

  pub damage_holds :
      (damage : Damage Num) → let after : World Num = elim (damaging lent.field damage world) [ Ok next ↦ next | Err fault ↦ world ] in
      (after.settings ≡ world.settings) × (after.count ≡ world.count)
  damage_holds damage =
      let is = between_call lent (Damaging damage) world here in
      by (damaging lent.field damage world)
      (ap (λ (o : Outcome Num). o.world.settings) (sym is) ∙ (call_laws lent).holds_settings world (Damaging damage))
      (ap (λ (o : Outcome Num). o.world.count) (sym is) ∙ (call_laws lent).holds_count world (Damaging damage))
    where
      by :
          (o : Result (World Num) RunFault) → (moves_on lent world (λ next. Damaged ∷ []) o).world.settings ≡ world.settings → (moves_on lent world (λ next. Damaged ∷ []) o).world.count ≡ world.count
          → let after : World Num = elim o [ Ok next ↦ next | Err fault ↦ world ] in (after.settings ≡ world.settings) × (after.count ≡ world.count)
      by (Ok next) settings count = (settings, count)
      by (Err fault) settings count = (refl, refl)

-- so what its run is given is the same
pub same_given :
    {N D A Num : Type 0} (meaning : N → Meaning Num) (period : D → ℕ → ℕ → ℕ → ℕ) (carries : A → Carrying) (old new : Idle) (before after : Lent N D A Num) (world : World Num)
    → SameLoans before after → between new after ≡ world → (world.settings ≡ (between old before).settings) × (world.count ≡ (between old before).count)
    → given meaning period carries new.progress after ≡ given meaning period carries old.progress before
same_given {Num = Num} meaning period carries old new before after world same stands holds =
    given_same meaning period carries old.progress new.progress before after same
    (ap (λ (w : World Num). w.settings) stands ∙ holds.0) (ap (λ (w : World Num). w.count) stands ∙ holds.1)

-- where a file is a field, its key is that of the field
of_field :
    (checked : Result (Unit {0}) FieldFault) → checked ≡ Ok tt → (text : List ℕ)
    → text ≡ elim checked [ Ok passed ↦ text | Err fault ↦ refusal_line (refusal_in_file fault) ]
of_field checked passes text = rw passes refl

-- The key of a file, as it begins.
module _
    {N D A Num : Type 0} (meaning : N → Meaning Num) (period : D → ℕ → ℕ → ℕ → ℕ) (carries : A → Carrying) (of : ℕ → Option Num) (worth : Num → ℕ)
    (file : List ℕ) (s : Settings) (before after : Lent N D A Num) (number : Num) (lends : LendsFile file s of number before.rows.now before.links.now before.senders.now) where
  abbrev of_file : Field Num
  of_file = field_told meaning s (counted file).links before

  -- what is lent is the field of the file
  same_field : of_file ≡ file_field file of number (meaning before.numbering.now) s
  same_field = rw lends.links_are refl

  module _ (run : Idle) (is : begun_as after (Ok run) ≡ began before.rows.now before.senders.now (begun of_file before.rows.now before.senders.now)) (same : SameLoans before after) where
    same_start : between run after ≡ file_start file of number (meaning before.numbering.now) s
    same_start =
        let granted = (holds_told meaning s (counted file).links before after run is same).0 in
        let stands : beginning of_file before.rows.now before.senders.now ≡ between run after = ok_is _ _ (granted_ok _ _ _ granted) in
        sym stands
        ∙ ap (λ (f : Field Num). beginning f before.rows.now before.senders.now) same_field
        ∙ ap (λ (rows : List (Row Num)). beginning (file_field file of number (meaning before.numbering.now) s) rows before.senders.now) lends.rows_are
        ∙ ap (λ (senders : List ℕ). beginning (file_field file of number (meaning before.numbering.now) s) (file_rows file of number) senders) lends.senders_are

    same_lent : given meaning period carries run.progress after ≡ record { field = file_field file of number (meaning before.numbering.now) s; period = period before.delay.now; carries = carries before.air.now }
    same_lent = rw (sym (holds_told meaning s (counted file).links before after run is same).1, same_field, same.delay, same.air) refl

    -- and so the whole key of the file is left
    file_left :
        (mark : Bookmark) → BeginsWhole worth (first_act file) (given meaning period carries run.progress after) mark (between run after) → file_checked file ≡ Ok tt
        → (log : List (TakenCopy Num)) (page : List ℕ)
        → text_left worth (file_acts file of number) (standing (given meaning period carries run.progress after) mark (between run after) log page)
        ≡ file_key file of number (meaning before.numbering.now) s worth (period before.delay.now) (carries before.air.now)
    file_left mark whole passes log page =
        (whole (file_acts file of number) log page).0
        ∙ ap (λ (l : Given Num). key_of l worth (first_act file) (file_acts file of number) (between run after)) same_lent
        ∙ ap (λ (w : World Num). key_of (record { field = file_field file of number (meaning before.numbering.now) s; period = period before.delay.now; carries = carries before.air.now }) worth (first_act file) (file_acts file of number) w) same_start
        ∙ of_field (file_checked file) passes _

  -- its begin is granted
  module _
      (code smax : ℕ) (undone : (v : ℕ) (x : Num) → of v ≡ Some x → worth x ≡ v)
      (values : (v : ℕ) → lawful_value code smax v ≡ lawful_of (meaning before.numbering.now) of v) where
    abbrev filing : Filing Num
    filing = record { code = code; smax = smax; of = of; worth = worth }

    pub file_granted : IsFile filing s file → (world : World Num) × (begun of_file before.rows.now before.senders.now ≡ Ok world)
    file_granted is_file =
        let counts = counted file in
        let back = (write_laws (meaning before.numbering.now) filing undone values).gives_back s file is_file
        (replicate counts.rows (blank_row number)) (replicate counts.links blank_link) (replicate counts.losses blank_loss) (replicate s.n 0) (record {
          of_rows = omega (arith, length-replicate counts.rows (blank_row number));
          of_links = omega (arith, length-replicate counts.links blank_link);
          of_losses = omega (arith, length-replicate counts.losses blank_loss);
          of_senders = omega (arith, length-replicate {A = ℕ} s.n 0);
        }) in (
          back.world,
          ap (λ (f : Field Num). begun f before.rows.now before.senders.now) same_field
              ∙ ap (λ (rows : List (Row Num)). begun (file_field file of number (meaning before.numbering.now) s) rows before.senders.now) lends.rows_are
              ∙ ap (λ (senders : List ℕ). begun (file_field file of number (meaning before.numbering.now) s) (file_rows file of number) senders) lends.senders_are
              ∙ back.begins,
        )

  pub key_of_file :
      (result : Result AnswerKey RunFault) → begun_as after (run_of result) ≡ began before.rows.now before.senders.now (begun of_file before.rows.now before.senders.now) → SameLoans before after
      → IfOk result (λ key. BeginsWhole worth (first_act file) (given meaning period carries key.run.progress after) key.mark (between key.run after))
      → file_checked file ≡ Ok tt → (world : World Num) → begun of_file before.rows.now before.senders.now ≡ Ok world
      → IsOkAnd result (λ key.
      (log : List (TakenCopy Num)) (page : List ℕ)
      → text_left worth (file_acts file of number) (standing (given meaning period carries key.run.progress after) key.mark (between key.run after) log page)
      ≡ file_key file of number (meaning before.numbering.now) s worth (period before.delay.now) (carries before.air.now))
  key_of_file (Ok key) is same whole passes world granted = file_left key.run is same key.mark whole passes
  key_of_file (Err fault) is same whole passes world granted =
      let f = is ∙ ap (began before.rows.now before.senders.now) granted in
      let clash : ◌≡◌ {A = Result (World Num) RunFault} (Err fault) (Ok world) = ap (λ (b : Beginning Num). b.answer) f in absurd cc
