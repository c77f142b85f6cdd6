-- The key of a run: what the acts of a field come to. Assumes nothing.
use Rattle.std.specs.Prelude.{ℕ, suc, ◌*◌, min, List, [], ◌∷◌, length, Some, None, Option}
use Rattle.field.specs.declared.Act.{Act}
use Rattle.field.specs.declared.Act.TheVariants.{Play as Plays, Damage as Damages}
use Rattle.history.specs.Floods.{floods_told, without_first}
use Rattle.history.specs.Histories.{Answer, Call, History, called, history}
use Rattle.history.specs.Histories.Answer.{Granted, Copied, Shows, Plays as Played, Declines, NotLet}
use Rattle.history.specs.Histories.Call.{Damaging, Play}
use Rattle.history.specs.Plays.{copies_in}
use Rattle.history.specs.Settled.{SettledFloods}
use Rattle.history.specs.Worlds.{Lent, World, told_links}
use Rattle.history.specs.declared.taking.Ending.{Ending}
use Rattle.history.specs.declared.taking.Ending.TheVariants.{BudgetSpent, LogShort, Refused}
use Rattle.page.specs.Pages.{last}
use Rattle.refusal.specs.Refusals.{field_told, run_told}
use Rattle.refusal.specs.declared.FieldFault.{FieldFault}
use Rattle.refusal.specs.declared.RunFault.{RunFault}
use Rattle.answer_key.specs.Lines.{key_text}
use Rattle.answer_key.specs.declared.lines.KeyRefusal.{KeyRefusal}

-- a fault, told by its number and by the index of the record at which it came
abbrev pub refusal_at : RunFault → ℕ → KeyRefusal
refusal_at fault index = record { number = (run_told fault).number; index = index }

-- the fault of a file that is no field, by the record at which it lies
abbrev pub refusal_in_file : FieldFault → KeyRefusal
refusal_in_file fault = record { number = (field_told fault).number; index = (field_told fault).place }

-- the index of the record behind one; a file's are far below the last number there is
abbrev pub next_index : ℕ → ℕ
next_index index = min (suc index) last

-- the fault at which a play ends
abbrev pub fault_in : Ending → Option RunFault
fault_in BudgetSpent = None
fault_in LogShort = None
fault_in (Refused fault) = Some fault

module _ {Num : Type 0} where
  -- the fault with which a damage is declined, or at which a play ends
  abbrev pub declined : Answer Num → Option RunFault
  declined Granted = None
  declined (Copied copy) = None
  declined (Shows row) = None
  declined (Played instants copies ending) = fault_in ending
  declined (Declines fault) = Some fault
  declined NotLet = None

-- Where a run ends by its acts, and the refusal at which they ended, if one did.
pub record KeyEnd (Num : Type 0) : Type 0 where
  pub world : World Num
  pub refusal : Option KeyRefusal

-- The calls that acts come to, and the refusal at which they end, if one does.
pub record Acted (Num : Type 0) : Type 0 where
  pub calls : List (Call Num)
  pub refusal : Option KeyRefusal

module _ {Num : Type 0} (lent : Lent Num) where
  -- An act as a call. A play is whole: its log has room for a copy over each link in each instant.
  abbrev pub call_of : Act Num → Call Num
  call_of (Plays budget) = Play budget (budget * length (told_links lent.field))
  call_of (Damages damage) = Damaging damage

  -- Acts done in their order, up to the first that declines; the index is that of the first act's record.
  unfoldable pub acted : ℕ → List (Act Num) → World Num → Acted Num
  acted index [] world = record { calls = []; refusal = None }
  acted index (act ∷ acts) world =
      let done = called lent world (call_of act) in
      elim (declined done.answer) [
        | Some fault ↦ record { calls = call_of act ∷ []; refusal = Some (refusal_at fault index) }
        | None ↦ let rest = acted (next_index index) acts done.world in record { calls = call_of act ∷ rest.calls; refusal = rest.refusal }
      ]

  -- what becomes of a run by its acts
  abbrev pub acts_history : ℕ → List (Act Num) → World Num → History Num
  acts_history index acts world = history lent (acted index acts world).calls world

  -- the key: a line for each copy of that history, and behind them the refusal
  abbrev pub key_of : (Num → ℕ) → ℕ → List (Act Num) → World Num → List ℕ
  key_of worth index acts world = key_text worth (copies_in (acts_history index acts world).events) (acted index acts world).refusal

  abbrev pub acts_end : ℕ → List (Act Num) → World Num → KeyEnd Num
  acts_end index acts world = record { world = (acts_history index acts world).world; refusal = (acted index acts world).refusal }

  -- The floods whose copies a key has settle.
  abbrev pub KeySettles : ℕ → List (Act Num) → World Num → Type 0
  KeySettles index acts world = SettledFloods lent.field.numbering lent.field.settings.n (without_first (floods_told (acts_history index acts world).events))
