-- What one row becomes as an instant opens, and with a copy. Assumes nothing.
use Rattle.std.proofs.Common.{◌≡◌, ℕ, ◌-◌, ◌<◌, ◌≤◌, ◌⊎◌, inl, inr, Bool, true, false, cond, not, ◌&&◌, Some, None, Option, is_some, sym, refl, ap, leb, ltb, leb-true, ltb-true, ltb-false}
use Rattle.std.proofs.lemmas.Bool.{and_parts, cond_both, eqb-true}
use Rattle.std.specs.Option.{unwrap_or}
use Rattle.std.specs.Prelude.{◌==◌}
use Rattle.field.specs.declared.Message.{Message}
use Rattle.field.specs.declared.Row.{Row}
use Rattle.field.specs.declared.Settings.{Settings}
use Rattle.flood.specs.Instants.{row_opened}
use Rattle.flood.specs.Sensors.{base_opened, base_sends, sent, accepted, taken, waits}
use Rattle.flood.specs.declared.hearing.Taken.{Taken}
use Rattle.history.specs.Floods.{hears, accepts}
use Rattle.numbering.specs.Meaning.{Meaning}

module _ {Num : Type 0} where
  -- A receiver's row after a copy, by the row before.
  pub record Takes (m : Meaning Num) (message : Message Num) (row : Row Num) (t : Taken Num) : Type 0 where
    pub timer : t.row.timer ≡ row.timer
    pub outgoing : t.row.outgoing ≡ row.outgoing
    pub held : t.row.held ≡ cond (accepts t.verdict) message.number row.held
    pub judged : hears t.verdict ≡ true → accepts t.verdict ≡ m.fresh message.number row.held
    -- a mark stood before, or it is one hop less than that of a copy that was accepted
    pub marked : (hop : ℕ) → t.row.mark ≡ Some hop → (row.mark ≡ Some hop) ⊎ ((2 ≤ message.hop) × (hop ≡ message.hop - 1) × (accepts t.verdict ≡ true))

  module _ (m : Meaning Num) (message : Message Num) (row : Row Num) where
    accepted_takes : m.fresh message.number row.held ≡ true → Takes m message row (accepted message row)
    accepted_takes fresh =
        cond_both (leb 2 message.hop && not (is_some row.mark)) _ _ (Takes m message row)
        (λ may. record {
          timer = refl;
          outgoing = refl;
          held = refl;
          judged = λ h. sym fresh;
          marked = λ hop e. inr (leb-true 2 message.hop (and_parts _ _ may).0, cc, refl);
        })
        (λ e. record { timer = refl; outgoing = refl; held = refl; judged = λ h. sym fresh; marked = λ hop e. inl e })

    pub takes : (carried : Bool) → Takes m message row (taken m carried message row)
    takes carried =
        cond_both carried _ _ (Takes m message row)
        (λ e. cond_both (m.fresh message.number row.held) _ _ (Takes m message row) accepted_takes
        (λ stale. record { timer = refl; outgoing = refl; held = refl; judged = λ h. sym stale; marked = λ hop e. inl e }))
        (λ e. record { timer = refl; outgoing = refl; held = refl; judged = λ h. absurd cc; marked = λ hop e. inl e })

  -- A sensor other than the base as an instant opens: a timer above 1 falls by one, and else the mark is sent.
  pub record OtherOpens (row next : Row Num) : Type 0 where
    pub held : next.held ≡ row.held
    pub marked : (hop : ℕ) → next.mark ≡ Some hop → (row.mark ≡ Some hop) × (next.timer ≡ row.timer - 1) × (1 < row.timer)
    pub sends : (message : Message Num) → next.outgoing ≡ Some message → (row.mark ≡ Some message.hop) × (message.number ≡ row.held) × (row.timer ≤ 1)

  mark_sends : (mark : Option ℕ) (held : Num) (message : Message Num) → sent mark held ≡ Some message → (mark ≡ Some message.hop) × (message.number ≡ held)
  mark_sends None held message e = absurd cc
  mark_sends (Some hop) held message e =
      let same : message ≡ record { hop = hop; number = held } = cc in
      (ap (λ (x : Message Num). Some x.hop) (sym same), ap (λ (x : Message Num). x.number) same)

  module _ (m : Meaning Num) (s : Settings) where
    pub other_opens : (period : ℕ → ℕ → ℕ → ℕ) (instant sensor : ℕ) (row : Row Num) → (sensor ≡ 0 → ⊥) → OtherOpens row (row_opened m s period instant sensor row)
    other_opens period instant sensor row other =
        cond_both (sensor == 0) _ _ (OtherOpens row) (λ base. absurd (other (eqb-true sensor 0 base)))
        (λ e. cond_both (ltb 1 row.timer) _ _ (OtherOpens row)
        (λ late. record { held = refl; marked = λ hop f. (f, refl, ltb-true 1 row.timer late); sends = λ message f. absurd cc })
        (λ due. record {
          held = refl;
          marked = λ hop f. absurd cc;
          sends = λ message f. (let sends = mark_sends row.mark row.held message f in (sends.0, sends.1, ltb-false 1 row.timer due));
        }))

    -- The base as an instant opens, where it need not send or a number follows: it waits, or sends.
    pub data BaseOpens (row : Row Num) : Row Num → Type 0 where
      Waits : 1 < row.timer → BaseOpens row (waits row)
      Sends : (number : Num) → row.timer ≤ 1 → m.next row.held ≡ Some number → BaseOpens row (base_sends s row number)

    pub base_opens : (row : Row Num) → not (is_some (base_opened m s row)) ≡ false → BaseOpens row (unwrap_or (base_opened m s row) row)
    base_opens row =
        cond_both (ltb 1 row.timer) _ _ (λ (next : Option (Row Num)). not (is_some next) ≡ false → BaseOpens row (unwrap_or next row))
        (λ late some. Waits (ltb-true 1 row.timer late)) (λ due. by (m.next row.held) refl (ltb-false 1 row.timer due))
      where
        by :
            (next : Option Num) → m.next row.held ≡ next → row.timer ≤ 1
            → not (is_some (elim next [ None ↦ None | Some number ↦ Some (base_sends s row number) ])) ≡ false
            → BaseOpens row (unwrap_or (elim next [ None ↦ None | Some number ↦ Some (base_sends s row number) ]) row)
        by None none due some = absurd cc
        by (Some number) follows due some = Sends number due follows
