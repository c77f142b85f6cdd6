-- A run within its limits passes each call's check, and what a check that passes tells. Assumes nothing.
use Rattle.std.proofs.Common.{◌≡◌, ℕ, ◌<◌, ◌≤◌, Bool, true, false, not, ◌&&◌, ◌||◌, List, [], length, Some, None, Ok, Result, Option, is_ok, sym, refl, ap, arith}
use Rattle.std.specs.List.{slice_get}
use Rattle.std.specs.Prelude.{◌==◌, max}
use Rattle.std.proofs.lemmas.Bool.{and_parts, and_from, not-false, not_from_true, or_parts, or_from, ltb-true, ltb-false, le-ltb, eq-eqb, eqb-true}
use Rattle.std.proofs.lemmas.Option.{slice_get_within}
use Rattle.std.specs.Result.{result_and}
use Rattle.checking.proofs.Passes.{first_passes, second_passes, in_field_passes}
use Rattle.field.specs.declared.Damage.{Damage}
use Rattle.field.specs.declared.Row.{Row}
use Rattle.field.specs.declared.Stage.{Stage}
use Rattle.field.specs.declared.Stage.TheVariants.{Beginning, Between}
use Rattle.field.specs.Rows.{ends_within, link_keeps, row_keeps}
use Rattle.field.specs.Rows.{sender_byte}
use Rattle.refusal.specs.Carried.{in_field}
use Rattle.refusal.specs.declared.FieldFault.{FieldFault}
use Rattle.refusal.specs.declared.RunFault.TheVariants.{ShortBuffer, LastInstant, NoNumber}
use Rattle.vetting.proofs.Vets.{case_nowhere, case_passes, enough, not_of}
use Rattle.vetting.specs.Cases.{Seen, bad_row, breaks_limits, declines_where, fault_in, holds_at, linked, named_places, no_sensor}
use Rattle.vetting.specs.declared.MemoryCase.TheVariants.{Sensors, Links, Count, Rows}
use Rattle.history.specs.Calls.{may_open, begun, no_number, world_opened, opening, damaged_row, world_damaged, damaging}
use Rattle.history.specs.Checks.{checked, checked_first, seen_at, short_case}
use Rattle.vetting.specs.declared.Named.{Named}
use Rattle.vetting.specs.declared.Named.TheVariants.{Nothing, Sensor, Damaged}
use Rattle.history.specs.Limits.{stage_of, LinksKeep, InLimits, Fits}
use Rattle.history.specs.Worlds.{Field, Lent, World, told_links}
use Rattle.history.proofs.Kept.{granted_ok, granted_first, opening_is, damaging_is}

-- a test that holds of no item there holds at no place
none_of : {A : Type 0} (test : A → Bool) (items : List A) (k : ℕ) → ((x : A) → slice_get items k ≡ Some x → test x ≡ false) → holds_at test items k ≡ false
none_of {A} test items k fails = by (slice_get items k) refl
  where
    by : (o : Option A) → slice_get items k ≡ o → elim o [ None ↦ false | Some x ↦ test x ] ≡ false
    by None there = refl
    by (Some x) there = fails x there

-- what a test says of a place, where it is asked of that place alone
itself : (k : ℕ) (b : Bool) → k == k && b ≡ false → b ≡ false
itself k b e = rw (eq-eqb k k refl) at e

-- a call that names nothing fits
pub names_nothing : {Num : Type 0} (field : Field Num) → Fits field Nothing
names_nothing field k = (refl, refl)

-- a link that keeps its limits is right, where repeats are not looked for
keeps_right : (b : Bool) → b ≡ true → not b || false ≡ false
keeps_right true e = refl
keeps_right false e = absurd cc

module _ {Num : Type 0} (field : Field Num) (links : LinksKeep field) (world : World Num) (limits : InLimits field world) (named : Named Num) (fits : Fits field named) where
  abbrev seen : Seen Num
  seen = seen_at field named (stage_of world.position) world.rows world.senders

  sensors_pass : fault_in seen Sensors ≡ Ok tt
  sensors_pass =
      case_passes seen Sensors λ k h.
      or_from _ _ (none_of (λ link. not (ends_within field.settings.n link.from link.to)) (told_links field) k (λ link e. not_from_true _ (links.keep k link e).0)) (fits k).0

  links_pass : fault_in seen (Links false) ≡ Ok tt
  links_pass =
      case_passes seen (Links false) λ k h.
      none_of (λ link. not (link_keeps link) || (false && linked (told_links field) k link.from link.to)) (told_links field) k (λ link e. keeps_right (link_keeps link) (links.keep k link e).1)

  rows_pass : fault_in seen Rows ≡ Ok tt
  rows_pass =
      case_passes seen Rows λ k h.
      or_from _ _ (none_of (λ row. not (row_keeps field.numbering field.settings (stage_of world.position) k row)) world.rows k (λ row e. not_from_true _ (limits.rows_keep k row h e)))
      (or_from _ _ (none_of (λ row. holds_at (λ byte. not (byte == sender_byte row)) world.senders k) world.rows k (λ row e.
      none_of (λ byte. not (byte == sender_byte row)) world.senders k (λ byte f. not_from_true _ (eq-eqb byte _ (limits.bytes_keep k row byte h e f))))) (fits k).1)

  short_pass : short_case field world.rows world.senders ≡ Ok tt
  short_pass = rw (le-ltb _ _ limits.rows_there, le-ltb _ _ limits.bytes_there, le-ltb _ _ links.there) refl

  pub check_passes : (position : Option ℕ) → world.position ≡ position → checked field named (stage_of position) world.rows world.senders ≡ Ok tt
  unfolding checked
  check_passes position here = rw (← here) (rw (sensors_pass, links_pass, rows_pass, short_pass) refl)

module _ {Num : Type 0} (field : Field Num) where
  -- what any check tells as it passes, where `next` is what it looks at after the links
  record Passed (seen : Seen Num) (rows : List (Row Num)) (senders : List ℕ) (next : Result (Unit {0}) FieldFault) : Type 0 where
    ends : (k : ℕ) → k < max (max (length (told_links field)) 0) (named_places seen.named) → no_sensor seen k ≡ false
    links : LinksKeep field
    rows_there : field.settings.n ≤ length rows
    bytes_there : field.settings.n ≤ length senders
    rest : is_ok next ≡ true

  passed :
      (named : Named Num) (stage : Stage) (seen_rows rows : List (Row Num)) (seen_senders senders : List ℕ) (repeats : Bool) (next : Result (Unit {0}) FieldFault)
      → let seen = seen_at field named stage seen_rows seen_senders in
      result_and (in_field (result_and (fault_in seen Sensors) (result_and (fault_in seen (Links repeats)) next))) (short_case field rows senders) ≡ Ok tt
      → Passed seen rows senders next
  passed named stage seen_rows rows seen_senders senders repeats next passes =
      let seen = seen_at field named stage seen_rows seen_senders in
      let ok = ap is_ok passes in
      let links = fault_in seen (Links repeats) in
      let before = result_and (fault_in seen Sensors) (result_and links next) in
      let all = in_field_passes before (first_passes (in_field before) _ ok) in
      let after_ends = second_passes (fault_in seen Sensors) _ all in
      let ends = case_nowhere seen Sensors (first_passes (fault_in seen Sensors) _ all) in
      let right = case_nowhere seen (Links repeats) (first_passes links _ after_ends) in
      let long = or_parts _ _ (enough _ ShortBuffer (second_passes (in_field before) (short_case field rows senders) ok)) in
      let longer = or_parts _ _ long.1 in
      record {
        ends = ends;
        links = record {
          there = ltb-false _ _ longer.1;
          keep = λ k link e. let h = slice_get_within (told_links field) k link e in (
            not-false _ (not_of (λ link. not (ends_within field.settings.n link.from link.to)) (told_links field) k link e (or_parts _ _ (ends k (omega arith))).0),
            not-false _ (or_parts _ _ (not_of (λ link. not (link_keeps link) || (repeats && linked (told_links field) k link.from link.to)) (told_links field) k link e (right k h))).0,
          );
        };
        rows_there = ltb-false _ _ long.0;
        bytes_there = ltb-false _ _ longer.0;
        rest = second_passes links next after_ends;
      }

  row_right :
      (stage : Stage) (rows : List (Row Num)) (k : ℕ) (row : Row Num) → slice_get rows k ≡ Some row → breaks_limits (seen_at field Nothing stage rows []) k ≡ false
      → row_keeps field.numbering field.settings stage k row ≡ true
  row_right stage rows k row e f = not-false _ (not_of (λ row. not (row_keeps field.numbering field.settings stage k row)) rows k row e f)

  module _ (named : Named Num) (stage : Stage) (world : World Num) (passes : checked field named stage world.rows world.senders ≡ Ok tt) where
    abbrev at_call : Seen Num
    at_call = seen_at field named stage world.rows world.senders

    check_passed : Passed at_call world.rows world.senders (result_and (fault_in at_call Rows) (Ok tt))
    unfolding checked
    check_passed = passed named stage world.rows world.rows world.senders world.senders false _ passes

    rows_right : (k : ℕ) → k < field.settings.n → bad_row at_call k ≡ false
    rows_right = case_nowhere at_call Rows (first_passes (fault_in at_call Rows) _ check_passed.rest)

  -- a check that passes says that the sensor that is looked at is there
  pub sensor_within : (sensor : ℕ) (stage : Stage) (world : World Num) → checked field (Sensor sensor) stage world.rows world.senders ≡ Ok tt → sensor < field.settings.n
  sensor_within sensor stage world passes =
      let ends = (check_passed (Sensor sensor) stage world passes).ends sensor (omega arith) in
      ltb-true _ _ (not-false _ (itself sensor _ (or_parts _ _ ends).1))

  -- and that the run is within its limits
  pub check_gives :
      (named : Named Num) (world : World Num) (position : Option ℕ) → world.position ≡ position → checked field named (stage_of position) world.rows world.senders ≡ Ok tt
      → LinksKeep field × InLimits field world
  check_gives named world position here passes =
      let p = check_passed named (stage_of position) world passes in
      let right = rows_right named (stage_of position) world passes in (
        p.links,
        record {
          rows_there = p.rows_there;
          bytes_there = p.bytes_there;
          rows_keep = λ sensor row h e. rw here (row_right (stage_of position) world.rows sensor row e (or_parts _ _ (right sensor h)).0);
          bytes_keep = λ sensor row byte h e f.
              let at_byte = λ (byte : ℕ). not (byte == sender_byte row) in
              let at_row = not_of (λ row. holds_at (λ byte. not (byte == sender_byte row)) world.senders sensor) world.rows sensor row e (or_parts _ _ (or_parts _ _ (right sensor h)).1).0 in
              eqb-true _ _ (not-false _ (not_of at_byte world.senders sensor byte f at_row));
        },
      )

  module _ (rows : List (Row Num)) (senders : List ℕ) where
    -- what is known once the first check passes
    pub record First : Type 0 where
      pub links : LinksKeep field
      pub rows_there : field.settings.n ≤ length rows
      pub bytes_there : field.settings.n ≤ length senders
      pub keep : (sensor : ℕ) (row : Row Num) → sensor < field.settings.n → slice_get rows sensor ≡ Some row → row_keeps field.numbering field.settings Beginning sensor row ≡ true

    pub first_gives : checked_first field rows senders ≡ Ok tt → First
    unfolding checked_first
    first_gives passes =
        let at_first = seen_at field Nothing Beginning rows [] in
        let p = passed Nothing Beginning rows rows [] senders true _ passes in
        let after_count = second_passes (fault_in at_first Count) _ p.rest in
        let right = case_nowhere at_first Rows (first_passes (fault_in at_first Rows) _ after_count) in
        let rows_right = λ (k : ℕ) (h : k < field.settings.n). (or_parts _ _ (right k h)).0 in
        record { links = p.links; rows_there = p.rows_there; bytes_there = p.bytes_there; keep = λ sensor row h e. row_right Beginning rows sensor row e (rows_right sensor h) }

    pub links_kept : (world : World Num) → begun field rows senders ≡ Ok world → LinksKeep field
    links_kept world e = (first_gives (granted_first (checked_first field rows senders) _ world e)).links

module _ {Num : Type 0} (lent : Lent Num) (world next : World Num) where
  -- an instant that opens
  pub opening_gives : opening lent world ≡ Ok next → (next ≡ world_opened lent world) × (no_number lent.field world ≡ false)
  opening_gives e =
      let passes = granted_ok (checked lent.field Nothing Between world.rows world.senders) _ tt (granted_first (may_open lent.field world) _ next e) in
      (sym (opening_is lent world next e), enough _ NoNumber (ap is_ok (granted_ok (declines_where (world.instant == 4294967295) LastInstant) _ tt passes)))

  -- a damage that is granted
  pub damaging_gives :
      (damage : Damage Num) → damaging lent.field damage world ≡ Ok next
      → (next ≡ world_damaged damage world) × (damage.sensor < lent.field.settings.n) × (row_keeps lent.field.numbering lent.field.settings Between damage.sensor (damaged_row damage) ≡ true)
  damaging_gives damage e =
      let field = lent.field in
      let passes = granted_first (checked field (Damaged damage) Between world.rows world.senders) (Ok (world_damaged damage world)) next e in
      let ends = (check_passed field (Damaged damage) Between world passes).ends damage.sensor (omega arith) in
      let within = ltb-true _ _ (not-false _ (itself damage.sensor _ (or_parts _ _ ends).1)) in
      let here = rows_right field (Damaged damage) Between world passes damage.sensor within in
      let right = and_parts _ _ (not-false _ (itself damage.sensor _ (or_parts _ _ (or_parts _ _ here).1).1)) in
      (sym (damaging_is lent damage world next e), within, and_from _ _ right.0 (and_from _ _ right.1 refl))
