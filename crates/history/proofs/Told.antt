-- What the latest flood has made of the rows so far. Assumes nothing.
use Rattle.std.proofs.Common.{◌≡◌, ℕ, ◌+◌, ◌-◌, ◌*◌, ◌<◌, ◌≤◌, ◌⊎◌, inl, inr, ⊎_elim, Bool, true, false, cond, List, set, Some, sym, ap, ◌∙◌, subst, arith}
use Rattle.std.specs.List.{slice_get}
use Rattle.field.specs.declared.Message.{Message}
use Rattle.field.specs.declared.Row.{Row}
use Rattle.field.specs.declared.Settings.{Settings}
use Rattle.flood.specs.Instants.{row_closed}
use Rattle.flood.specs.declared.hearing.Taken.{Taken}
use Rattle.history.specs.Floods.{accepts}
use Rattle.history.proofs.Paces.{to_come, hop_less}
use Rattle.history.proofs.Places.{set_at}
use Rattle.history.proofs.Rows.{Takes}
use Rattle.numbering.specs.Meaning.{Meaning}

module _ {Num : Type 0} where
  -- so it is of each of the first n rows, by its place
  abbrev pub EachRow : ℕ → (ℕ → Row Num → Type 0) → List (Row Num) → Type 0
  EachRow n P rows = (sensor : ℕ) (row : Row Num) → sensor < n → slice_get rows sensor ≡ Some row → P sensor row

  pub each_set :
      (n : ℕ) (P : ℕ → Row Num → Type 0) (rows : List (Row Num)) (t : ℕ) (row : Row Num)
      → P t row → EachRow n P rows → EachRow n P (set rows t row)
  each_set n P rows t row here each sensor now h e =
      ⊎_elim (λ p. subst (λ (k : ℕ). P k now) (sym p.0) (subst (P t) (sym p.1) here)) (λ q. each sensor now h q) (set_at rows t sensor row now e)

  module _ (s : Settings) where
    -- How long a marked message, and one that is sent, can still go on, where this is the base's timer: all is over before the base
    -- sends again.
    pub record Paced (timer : ℕ) (row : Row Num) : Type 0 where
      pub marked : (hop : ℕ) → row.mark ≡ Some hop → row.timer + to_come s.tmax hop + s.f ≤ s.hmax * s.tmax + timer
      pub sends : (message : Message Num) → row.outgoing ≡ Some message → to_come s.tmax message.hop + s.f ≤ s.hmax * s.tmax + timer

  -- What is marked or sent has this number.
  pub record Numbered (number : Num) (row : Row Num) : Type 0 where
    pub marked : (hop : ℕ) → row.mark ≡ Some hop → row.held ≡ number
    pub sends : (message : Message Num) → row.outgoing ≡ Some message → message.number ≡ number

  -- An instant that ends: no message is outgoing, and what is marked stays.
  module _ (s : Settings) where
    pub paced_closed : (timer : ℕ) (row : Row Num) → Paced s timer row → Paced s timer (row_closed row)
    paced_closed timer row paced = record { marked = paced.marked; sends = λ message e. absurd cc }

  pub numbered_closed : (number : Num) (row : Row Num) → Numbered number row → Numbered number (row_closed row)
  numbered_closed number row numbered = record { marked = numbered.marked; sends = λ message e. absurd cc }

  -- A copy: what is marked then was marked before, or has one hop less to go than the sender's message.
  module _ (m : Meaning Num) (s : Settings) (message : Message Num) (row : Row Num) (t : Taken Num) (t_is : Takes m message row t) where
    pub paced_taken : (timer : ℕ) → row.timer ≤ s.tmax → to_come s.tmax message.hop + s.f ≤ s.hmax * s.tmax + timer → Paced s timer row → Paced s timer t.row
    paced_taken timer short sender paced = record {
      marked = λ hop e. by hop (t_is.marked hop e);
      sends = λ other e. paced.sends other (sym t_is.outgoing ∙ e);
    }
      where
        by :
            (hop : ℕ) → (row.mark ≡ Some hop) ⊎ ((2 ≤ message.hop) × (hop ≡ message.hop - 1) × (accepts t.verdict ≡ true))
            → t.row.timer + to_come s.tmax hop + s.f ≤ s.hmax * s.tmax + timer
        by hop (inl before) = (let stood = paced.marked hop before in omega (arith, stood, t_is.timer))
        by hop (inr new) =
            let less : to_come s.tmax hop + s.tmax ≡ to_come s.tmax message.hop = ap (λ (h : ℕ). to_come s.tmax h + s.tmax) new.1 ∙ hop_less s.tmax message.hop new.0 in
            omega (arith, less, sender, short, t_is.timer)

    pub numbered_taken : (number : Num) → message.number ≡ number → Numbered number row → Numbered number t.row
    numbered_taken number same numbered = record {
      marked = λ hop e. t_is.held ∙ by (accepts t.verdict) hop (t_is.marked hop e);
      sends = λ other e. numbered.sends other (sym t_is.outgoing ∙ e);
    }
      where
        by : (b : Bool) (hop : ℕ) → (row.mark ≡ Some hop) ⊎ ((2 ≤ message.hop) × (hop ≡ message.hop - 1) × (b ≡ true)) → cond b message.number row.held ≡ number
        by true hop from = same
        by false hop (inl before) = numbered.marked hop before
        by false hop (inr new) = absurd cc
