-- Each call keeps a run within its limits. Assumes nothing.
use Rattle.std.proofs.Common.{◌≡◌, ℕ, suc, ◌<◌, ◌≤◌, true, false, not, ◌&&◌, ltb, List, length, set, is_some, Some, None, Ok, Option, sym, refl, ap, ◌∙◌, subst, arith, ◌⊎◌, inl, inr}
use Rattle.std.specs.List.{slice_get}
use Rattle.std.specs.Prelude.{◌==◌, nat_le}
use Rattle.std.proofs.lemmas.Bool.{and_parts, ltb-true, eqb-false, not-true}
use Rattle.std.proofs.lemmas.List.{length-set}
use Rattle.air.specs.Delays.{KeepsPeriods}
use Rattle.field.specs.declared.Damage.{Damage}
use Rattle.field.specs.declared.Link.{Link}
use Rattle.field.specs.declared.Message.{Message}
use Rattle.field.specs.declared.Row.{Row}
use Rattle.field.specs.declared.Stage.{Stage}
use Rattle.field.specs.declared.Stage.TheVariants.{Beginning, Between, Within}
use Rattle.field.specs.Rows.{message_keeps, row_keeps}
use Rattle.flood.specs.Copies.{copy_at, copy_here, message_on, next_copy}
use Rattle.flood.specs.Instants.{row_opened, row_closed, byte_of, closed, silent}
use Rattle.numbering.specs.Meaning.{Meaning, KeepsLawful}
use Rattle.history.specs.Calls.{AfterCopy, copy_left, copy_over, none_yet, begun, opening, world_opened, rows_opened, damaging, world_damaged, damaged_row, world_closed, next_taken, copy_taken, comes_through}
use Rattle.history.specs.Checks.{checked_first}
use Rattle.vetting.specs.declared.Named.TheVariants.{Nothing}
use Rattle.history.specs.Histories.{Call, history, OnceBegun}
use Rattle.history.specs.Limits.{stage_of, LinksKeep, InLimits, LimitsAreKept, ChecksStay}
use Rattle.history.specs.Plays.{copies_taken, instant_gone}
use Rattle.history.specs.Worlds.{Field, Lent, World, told_links}
use Rattle.history.specs.declared.taking.Counts.{Counts}
use Rattle.search.proofs.Places.{is_lowest}
use Rattle.history.proofs.Kept.{opening_passed, ok_is, granted_ok, granted_first, opening_is, carried_from, onward_from, taken_within, closed_between, Steps, copies_kept, instant_kept, kept}
use Rattle.history.proofs.Checks.{check_passes, names_nothing, check_gives, first_gives, links_kept, opening_gives, damaging_gives}
use Rattle.history.proofs.RowLimits.{Keeps, row_parts, row_from, closed_keeps, none_outgoing, opened_keeps, taken_keeps}
use Rattle.history.proofs.Places.{none_is_some, length_changed, changed_at, set_at, there_is}

-- what goes over a link is its sender's message
pub sent_by :
    {Num : Type 0} (rows : List (Row Num)) (link : Link) (message : Message Num) → message_on rows link ≡ Some message
    → (row : Row Num) × (slice_get rows link.from ≡ Some row) × (row.outgoing ≡ Some message)
sent_by {Num} rows link message = by (slice_get rows link.from) refl
  where
    by :
        (o : Option (Row Num)) → slice_get rows link.from ≡ o → elim o [ None ↦ None | Some row ↦ row.outgoing ] ≡ Some message
        → (row : Row Num) × (slice_get rows link.from ≡ Some row) × (row.outgoing ≡ Some message)
    by None there e = none_is_some message e
    by (Some row) there e = (row, there, e)

module _ {Num : Type 0} (field : Field Num) where
  abbrev n : ℕ
  n = field.settings.n

  -- a link of the field goes between two of its sensors, and not to the base
  pub link_gives : LinksKeep field → (k : ℕ) (link : Link) → slice_get (told_links field) k ≡ Some link → (link.from < n) × (link.to < n) × (link.to ≡ 0 → ⊥)
  link_gives links k link there =
      let right = links.keep k link there in
      let ends = and_parts (ltb link.from n) _ right.0 in
      let apart = and_parts (not (link.from == link.to)) _ (and_parts (not (link.from == link.to) && not (link.to == 0)) _ right.1).0 in
      (ltb-true _ _ ends.0, ltb-true _ _ ends.1, eqb-false link.to 0 (not-true _ apart.1))

  -- a row's limits where a run within its limits stands
  pub row_at :
      (world : World Num) (position : Option ℕ) → world.position ≡ position → InLimits field world
      → (sensor : ℕ) (row : Row Num) → sensor < n → slice_get world.rows sensor ≡ Some row → Keeps field (stage_of position) sensor row
  row_at world position stands limits sensor row h e = row_parts field (stage_of position) sensor row (rw stands at (limits.rows_keep sensor row h e))

  -- rows that keep their limits at any stage keep them between instants, once no message is outgoing and no byte sends
  quiet :
      (stage : Stage) (rows : List (Row Num)) (senders : List ℕ) → n ≤ length rows → n ≤ length senders
      → ((sensor : ℕ) (row : Row Num) → sensor < n → slice_get rows sensor ≡ Some row → row_keeps field.numbering field.settings stage sensor row ≡ true)
      → (world : World Num)
      → InLimits field (record world { rows = closed n rows; senders = silent n senders; position = None })
  quiet stage rows senders rows_there bytes_there keep world = record {
    rows_there = rw (length_changed (λ sensor. row_closed) 0 n rows) rows_there;
    bytes_there = rw (length_changed (λ sensor byte. 0) 0 n senders) bytes_there;
    rows_keep = λ sensor row h e.
        let c = changed_at (λ sensor. row_closed) n sensor rows row h e in
        let k = row_parts field stage sensor c.0 (keep sensor c.0 h c.1) in
        rw c.2 (row_from field Between sensor (row_closed c.0) (closed_keeps field stage sensor c.0 k));
    bytes_keep = λ sensor row byte h e f.
        let c = changed_at (λ sensor. row_closed) n sensor rows row h e in
        (changed_at (λ sensor byte. 0) n sensor senders byte h f).2 ∙ ap (λ (r : Row Num). byte_of (Some r)) (sym c.2);
  }

  -- one row that is set, at the same stage and with the same message
  one_set :
      (world : World Num) → InLimits field world
      → (place : ℕ) (old row : Row Num) → place < n → slice_get world.rows place ≡ Some old → row.outgoing ≡ old.outgoing
      → (position : Option ℕ) → stage_of world.position ≡ stage_of position → row_keeps field.numbering field.settings (stage_of position) place row ≡ true
      → (counts : Counts)
      → InLimits field (record world { rows = set world.rows place row; position = position; counts = counts })
  one_set world limits place old row within there same position stage keeps counts = record {
    rows_there = rw (length-set world.rows place row) limits.rows_there;
    bytes_there = limits.bytes_there;
    rows_keep = λ sensor r h e. row_keeps_at sensor r h (set_at world.rows place sensor row r e);
    bytes_keep = λ sensor r byte h e f. byte_keeps_at sensor r byte h f (set_at world.rows place sensor row r e);
  }
    where
      Set : ℕ → Row Num → Type 0
      Set sensor r = ((sensor ≡ place) × (r ≡ row)) ⊎ (slice_get world.rows sensor ≡ Some r)

      row_keeps_at : (sensor : ℕ) (r : Row Num) → sensor < n → Set sensor r → row_keeps field.numbering field.settings (stage_of position) sensor r ≡ true
      row_keeps_at sensor r h (inl here) = rw (here.0, here.1) keeps
      row_keeps_at sensor r h (inr stood) = rw stage at (limits.rows_keep sensor r h stood)

      byte_keeps_at : (sensor : ℕ) (r : Row Num) (byte : ℕ) → sensor < n → slice_get world.senders sensor ≡ Some byte → Set sensor r → byte ≡ byte_of (Some r)
      byte_keeps_at sensor r byte h f (inl here) = rw here.1 (rw same (limits.bytes_keep place old byte within there (rw here.0 at f)))
      byte_keeps_at sensor r byte h f (inr stood) = limits.bytes_keep sensor r byte h stood f

  pub begun_in_limits : (rows : List (Row Num)) (senders : List ℕ) (world : World Num) → begun field rows senders ≡ Ok world → InLimits field world
  begun_in_limits rows senders world e =
      let check = checked_first field rows senders in
      let first = first_gives field rows senders (granted_first check _ world e) in
      subst (InLimits field) (ok_is _ world (granted_ok check _ world e)) (quiet Beginning rows senders first.rows_there first.bytes_there first.keep (record { settings = field.settings; count = field.count; rows = rows; senders = senders; instant = 0; position = None; counts = none_yet }))

module _ {Num : Type 0} (lent : Lent Num) where
  abbrev field : Field Num
  field = lent.field

  pub closed_in_limits : (world : World Num) → InLimits field world → InLimits field (world_closed lent.field world)
  unfolding world_closed
  closed_in_limits world limits =
      quiet field (stage_of world.position) world.rows world.senders limits.rows_there limits.bytes_there limits.rows_keep world

  pub damaged_in_limits : (damage : Damage Num) (world next : World Num) → world.position ≡ None → damaging lent.field damage world ≡ Ok next → InLimits field world → InLimits field next
  unfolding world_damaged
  damaged_in_limits damage world next here granted limits =
      let gives = damaging_gives lent world next damage granted in
      let old = there_is world.rows damage.sensor (omega (arith, gives.1, limits.rows_there)) in
      let none = none_outgoing field old.0.outgoing (row_at field world None here limits damage.sensor old.0 gives.1 old.1).outgoing in
      subst (InLimits field) (sym gives.0)
      (one_set field world limits damage.sensor old.0 (damaged_row damage) gives.1 old.1 (sym none) None (ap stage_of here) gives.2 world.counts)

  pub taken_in_limits :
      LinksKeep field → (world : World Num) (position : ℕ) (next : AfterCopy Num) → world.position ≡ Some position → next_taken lent world ≡ Some next
      → InLimits field world → InLimits field next.world
  unfolding copy_taken
  taken_in_limits links world position next here some limits =
      let f = carried_from lent world position next here some in
      let ends = link_gives field links f.place f.link f.there in
      let own = row_at field world (Some position) here limits f.link.to f.row ends.1 f.comes in
      let sender = sent_by world.rows f.link f.message f.goes in
      let sends = (row_at field world (Some position) here limits f.link.from sender.0 ends.0 sender.1).outgoing in
      let right : message_keeps field.numbering field.settings f.message ≡ true = rw sender.2 at sends in
      let takes = taken_keeps field (comes_through lent world f.link) f.message right f.link.to ends.2 f.row own in
      subst (λ (c : AfterCopy Num). InLimits field c.world) f.taken
      (one_set field world limits f.link.to f.row _ ends.1 f.comes takes.1 (Some (suc f.place)) (ap stage_of here) (row_from field Within f.link.to _ takes.0) _)

  module _ (lawful : KeepsLawful field.numbering) (periods : KeepsPeriods lent.period) where
    pub opened_in_limits : (world next : World Num) → world.position ≡ None → opening lent world ≡ Ok next → InLimits field world → InLimits field next
    unfolding world_opened
    opened_in_limits world next here granted limits = subst (InLimits field) (sym (opening_gives lent world next granted).0) (record {
      rows_there = rw (length_changed opens 0 field.settings.n world.rows) limits.rows_there;
      bytes_there = rw (length_changed sends 0 field.settings.n world.senders) limits.bytes_there;
      rows_keep = λ sensor row h e.
          let c = changed_at opens field.settings.n sensor world.rows row h e in
          let k = row_at field world None here limits sensor c.0 h c.1 in
          rw c.2 (row_from field Within sensor (opens sensor c.0) (opened_keeps field lawful lent.period periods (suc world.instant) sensor c.0 k));
      bytes_keep = λ sensor row byte h e f. (changed_at sends field.settings.n sensor world.senders byte h f).2 ∙ ap byte_of e;
    })
      where
        opens : ℕ → Row Num → Row Num
        opens = row_opened field.numbering field.settings lent.period (suc world.instant)

        sends : ℕ → ℕ → ℕ
        sends sensor byte = byte_of (slice_get (rows_opened lent world) sensor)

    module _ (links : LinksKeep field) where
      abbrev In : World Num → Unit {0} → Type 0
      In world t = InLimits field world

      steps_in_limits : Steps lent (λ t event. t) In
      steps_in_limits = record {
        opens = λ world next t limits here granted. opened_in_limits world next here granted limits;
        takes = λ world position next t limits here some. taken_in_limits links world position next here some limits;
        closes = λ world position t limits here none. closed_in_limits world limits;
        damages = λ world next damage t limits here granted. damaged_in_limits damage world next here granted limits;
      }

      pub copies_in_limits :
          (most position : ℕ) (world : World Num) → world.position ≡ Some position → InLimits field world
          → (last : ℕ) × ((copies_taken lent most world).world.position ≡ Some last) × InLimits field (copies_taken lent most world).world
      copies_in_limits most position world here limits = copies_kept lent (λ t event. t) In steps_in_limits most world tt position limits here

      pub instant_in_limits :
          (world next : World Num) → world.position ≡ None → opening lent world ≡ Ok next → InLimits field world → InLimits field (instant_gone lent world).world
      instant_in_limits world next here granted limits = instant_kept lent (λ t event. t) In steps_in_limits world next tt limits here granted

      pub history_in_limits : (calls : List (Call Num)) (world : World Num) → InLimits field world → InLimits field (history lent calls world).world
      history_in_limits calls world limits = kept lent (λ t event. t) In steps_in_limits calls world tt limits

module _ {Num : Type 0} (lent : Lent Num) (links : LinksKeep lent.field) (world : World Num) (rows_there : lent.field.settings.n ≤ length world.rows) where
  -- a copy that goes over a link is taken: its receiver has a row
  pub taken_there : (place : ℕ) → copy_here world.rows (told_links lent.field) place ≡ true → is_some (copy_over lent world place) ≡ true
  taken_there place = by (slice_get (told_links lent.field) place) refl
    where
      with_row : (link : Link) → link.to < lent.field.settings.n → (o : Option (Message Num)) → is_some o ≡ true
          → is_some (elim o [ None ↦ None | Some message ↦ elim (slice_get world.rows link.to) [ None ↦ None | Some row ↦ Some (copy_taken lent world place link message row) ] ]) ≡ true
      with_row link within None e = absurd cc
      with_row link within (Some message) e = let row = there_is world.rows link.to (omega arith) in rw row.1 refl

      by :
          (o : Option Link) → slice_get (told_links lent.field) place ≡ o → elim o [ None ↦ false | Some link ↦ is_some (message_on world.rows link) ] ≡ true
          → is_some (elim o [
            | None ↦ None
            | Some link ↦ elim (message_on world.rows link) [
              | None ↦ None
              | Some message ↦ elim (slice_get world.rows link.to) [ None ↦ None | Some row ↦ Some (copy_taken lent world place link message row) ]
            ]
          ]) ≡ true
      by None there e = absurd cc
      by (Some link) there e = with_row link (link_gives lent.field links place link there).1 (message_on world.rows link) e

  -- That a copy is left, by the links alone, is that carry would answer one.
  pub left_is_taken : copy_left lent.field world ≡ is_some (next_taken lent world)
  unfolding next_taken
  left_is_taken = by world.position
    where
      next_is :
          (start : ℕ) (o : Option ℕ) → next_copy world.rows (told_links lent.field) start ≡ o
          → is_some o ≡ is_some (elim o [ None ↦ None | Some place ↦ copy_over lent world place ])
      next_is start None e = refl
      next_is start (Some place) e =
          let is = is_lowest (copy_at world.rows (told_links lent.field) start) (length (told_links lent.field)) (Some place) (sym e) in
          sym (taken_there place (and_parts (nat_le start place) _ is.1).1)

      by :
          (o : Option ℕ)
          → elim o [ None ↦ false | Some position ↦ is_some (next_copy world.rows (told_links lent.field) position) ]
          ≡ is_some (elim o [ None ↦ None | Some position ↦ elim (next_copy world.rows (told_links lent.field) position) [ None ↦ None | Some place ↦ copy_over lent world place ] ])
      by None = refl
      by (Some position) = next_is position (next_copy world.rows (told_links lent.field) position) refl

pub limits_are_kept : {Num : Type 0} (field : Field Num) → KeepsLawful field.numbering → OnceBegun field LimitsAreKept
unfolding LimitsAreKept
limits_are_kept {Num} field lawful rows senders start e period carries periods calls =
    let lent : Lent Num = record { field = field; period = period; carries = carries } in
    let links = links_kept field rows senders start e in
    let limits = history_in_limits lent lawful periods links calls start (begun_in_limits field rows senders start e) in
    (links, limits, (λ named fits. check_passes field links _ limits named fits _ refl), λ next here granted. instant_in_limits lent lawful periods links _ next here granted limits)

pub checks_stay : {Num : Type 0} (m : Meaning Num) → KeepsLawful m → (lent : Lent Num) → lent.field.numbering ≡ m → KeepsPeriods lent.period → ChecksStay lent
unfolding world_opened
checks_stay {Num} m numbers lent same periods = record {
  opens = λ world next here granted.
      let told = before world next here granted in
      let stands = ap (λ (w : World Num). w.position) (sym (opening_is lent world next granted)) in
      check_passes lent.field told.0 next (opened_in_limits lent lawful periods world next here granted told.1) Nothing (names_nothing lent.field) (Some 0) stands;
  takes = λ world next passed some.
      let at = taken_within lent world next some in
      let told = check_gives lent.field Nothing world (Some at.0) at.1 passed in
      let f = carried_from lent world at.0 next at.1 some in
      check_passes lent.field told.0 next.world (taken_in_limits lent told.0 world at.0 next at.1 some told.1) Nothing (names_nothing lent.field) (Some (suc f.place)) (onward_from lent world at.0 next f);
  left = λ world position here passed.
      let told = check_gives lent.field Nothing world (Some position) here passed in
      left_is_taken lent told.0 world told.1.rows_there;
  instants = λ world next here granted.
      let told = before world next here granted in
      check_passes lent.field told.0 _ (instant_in_limits lent lawful periods told.0 world next here granted told.1) Nothing (names_nothing lent.field) None (closed_between lent world);
}
  where
    lawful : KeepsLawful lent.field.numbering
    lawful = rw same numbers

    before : (world next : World Num) → world.position ≡ None → opening lent world ≡ Ok next → LinksKeep lent.field × InLimits lent.field world
    before world next here granted = check_gives lent.field Nothing world None here (opening_passed lent world next granted)
