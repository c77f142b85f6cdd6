-- What becomes of a row keeps its limits. Assumes nothing.
use Rattle.std.proofs.Common.{◌≡◌, ℕ, ◌-◌, ◌<◌, ◌≤◌, Bool, true, not, ◌&&◌, ltb, leb, is_some, Some, None, Option, refl, arith}
use Rattle.std.specs.Option.{unwrap_or}
use Rattle.std.specs.Prelude.{◌==◌}
use Rattle.std.proofs.lemmas.Bool.{and_parts, and_from, cond_both, ltb-true, leb-true, le-leb, eqb-true, eqb-false, ne_eqb}
use Rattle.air.specs.Delays.{KeepsPeriods}
use Rattle.field.specs.declared.Message.{Message}
use Rattle.field.specs.declared.Row.{Row}
use Rattle.field.specs.declared.Settings.{Settings}
use Rattle.field.specs.declared.Stage.{Stage}
use Rattle.field.specs.declared.Stage.TheVariants.{Between, Within}
use Rattle.field.specs.Rows.{longest, mark_keeps, message_keeps, outgoing_keeps, row_keeps}
use Rattle.flood.specs.Instants.{row_opened, row_closed}
use Rattle.flood.specs.Sensors.{waits, base_sends, base_opened, other_opened, sent, accepted, taken}
use Rattle.flood.specs.declared.hearing.Taken.{Taken}
use Rattle.numbering.specs.Meaning.{Meaning, KeepsLawful, Lawful}
use Rattle.history.specs.Worlds.{Field}

module _ {Num : Type 0} (field : Field Num) where
  abbrev m : Meaning Num
  m = field.numbering

  abbrev s : Settings
  s = field.settings

  -- a row's limits, one by one
  pub record Keeps (stage : Stage) (sensor : ℕ) (row : Row Num) : Type 0 where
    pub least : 1 ≤ row.timer
    pub most : row.timer ≤ longest s.tmax s.f sensor
    pub mark : mark_keeps s.hmax sensor row.mark ≡ true
    pub held : Lawful m row.held
    pub outgoing : outgoing_keeps m s stage row.outgoing ≡ true

  pub row_parts : (stage : Stage) (sensor : ℕ) (row : Row Num) → row_keeps m s stage sensor row ≡ true → Keeps stage sensor row
  row_parts stage sensor row e =
      let parts = and_parts _ _ e in
      let clock = and_parts _ _ parts.0 in
      let within = and_parts _ _ clock.0 in
      let rest = and_parts _ _ parts.1 in
      record { least = leb-true _ _ within.0; most = leb-true _ _ within.1; mark = clock.1; held = rest.0; outgoing = rest.1 }

  pub row_from : (stage : Stage) (sensor : ℕ) (row : Row Num) → Keeps stage sensor row → row_keeps m s stage sensor row ≡ true
  row_from stage sensor row k =
      and_from _ _ (and_from _ _ (and_from _ _ (le-leb _ _ k.least) (le-leb _ _ k.most)) k.mark) (and_from _ _ k.held k.outgoing)

  -- once no message is outgoing, whatever the stage was
  pub closed_keeps : (stage : Stage) (sensor : ℕ) (row : Row Num) → Keeps stage sensor row → Keeps Between sensor (row_closed row)
  closed_keeps stage sensor row k = record { least = k.least; most = k.most; mark = k.mark; held = k.held; outgoing = refl }

  pub none_outgoing : (o : Option (Message Num)) → outgoing_keeps m s Between o ≡ true → o ≡ None
  none_outgoing None e = refl
  none_outgoing (Some message) e = absurd cc

  -- As an instant opens: a sensor waits, or the base sends, or has no number to send, or another sensor sends what it marked.
  waits_keeps : (sensor : ℕ) (row : Row Num) → 1 < row.timer → Keeps Between sensor row → Keeps Within sensor (waits row)
  waits_keeps sensor row h k = record { least = omega (arith, h); most = omega (arith, k.most); mark = k.mark; held = k.held; outgoing = refl }

  base_keeps : KeepsLawful m → 1 ≤ s.f → (row : Row Num) → Keeps Between 0 row → Keeps Within 0 (unwrap_or (base_opened m s row) row)
  base_keeps lawful f row k =
      cond_both (ltb 1 row.timer) (Some (waits row)) _ (λ (o : Option (Row Num)). Keeps Within 0 (unwrap_or o row))
      (λ e. waits_keeps 0 row (ltb-true _ _ e) k)
      (λ e. sends (m.next row.held) refl)
    where
      sends : (o : Option Num) → m.next row.held ≡ o → Keeps Within 0 (unwrap_or (elim o [ None ↦ None | Some number ↦ Some (base_sends s row number) ]) row)
      sends None e = record { least = k.least; most = k.most; mark = k.mark; held = k.held; outgoing = rw (none_outgoing row.outgoing k.outgoing) refl }
      sends (Some number) e =
          let fine = lawful row.held number k.held e in
          record { least = f; most = omega arith; mark = k.mark; held = fine; outgoing = and_from _ _ (le-leb s.hmax s.hmax (omega arith)) fine }

  other_keeps :
      (period sensor : ℕ) → 1 ≤ period → period ≤ s.tmax → (sensor ≡ 0 → ⊥)
      → (row : Row Num) → Keeps Between sensor row → Keeps Within sensor (other_opened period row)
  other_keeps period sensor least most other row k =
      cond_both (ltb 1 row.timer) (waits row) _ (Keeps Within sensor) (λ e. waits_keeps sensor row (ltb-true _ _ e) k) λ e.
      record { least = least; most = rw (ne_eqb sensor 0 other) most; mark = refl; held = k.held; outgoing = sends row.mark k.mark }
    where
      sends : (mark : Option ℕ) → mark_keeps s.hmax sensor mark ≡ true → outgoing_keeps m s Within (sent mark row.held) ≡ true
      sends None e = refl
      sends (Some hop) e = and_from _ _ (and_parts _ _ e).1 k.held

  pub opened_keeps :
      KeepsLawful m → (period : ℕ → ℕ → ℕ → ℕ) → KeepsPeriods period
      → (instant sensor : ℕ) (row : Row Num) → Keeps Between sensor row → Keeps Within sensor (row_opened m s period instant sensor row)
  opened_keeps lawful period periods instant sensor row k =
      let p = periods s.tmax instant sensor s.tmax_least in
      cond_both (sensor == 0) _ _ (Keeps Within sensor)
      (λ e. base sensor (eqb-true sensor 0 e) k)
      (λ e. other_keeps (period s.tmax instant sensor) sensor p.0 p.1 (eqb-false sensor 0 e) row k)
    where
      base : (sensor : ℕ) → sensor ≡ 0 → Keeps Between sensor row → Keeps Within sensor (unwrap_or (base_opened m s row) row)
      base sensor e k = rw e (base_keeps lawful (omega (arith, s.f_least)) row (rw e at k))

  -- A receiver, which is not the base, with a copy: what it sends stays.
  pub taken_keeps :
      (carried : Bool) (message : Message Num) → message_keeps m s message ≡ true → (sensor : ℕ) → (sensor ≡ 0 → ⊥)
      → (row : Row Num) → Keeps Within sensor row
      → Keeps Within sensor (taken m carried message row).row × ((taken m carried message row).row.outgoing ≡ row.outgoing)
  taken_keeps carried message keeps sensor other row k =
      cond_both carried _ _ Fine (λ e. cond_both (m.fresh message.number row.held) _ _ Fine (λ e'. accepts) (λ e'. (k, refl))) (λ e. (k, refl))
    where
      Fine : Taken Num → Type 0
      Fine t = Keeps Within sensor t.row × (t.row.outgoing ≡ row.outgoing)

      parts : (message.hop ≤ s.hmax) × Lawful m message.number
      parts = let p = and_parts _ _ keeps in (leb-true _ _ p.0, p.1)

      marks : mark_keeps s.hmax sensor (Some (message.hop - 1)) ≡ true
      marks = and_from _ _ (rw (ne_eqb sensor 0 other) refl) (le-leb (message.hop - 1) s.hmax (omega (arith, parts.0)))

      accepts : Fine (accepted message row)
      accepts =
          cond_both (leb 2 message.hop && not (is_some row.mark)) _ _ Fine
          (λ e. (record { least = k.least; most = k.most; mark = marks; held = parts.1; outgoing = k.outgoing }, refl))
          (λ e. (record { least = k.least; most = k.most; mark = k.mark; held = parts.1; outgoing = k.outgoing }, refl))
