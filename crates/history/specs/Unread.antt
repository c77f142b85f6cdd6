-- What lies past n, or past the told count, is not read. Assumes nothing.
use Rattle.std.specs.Prelude.{◌≡◌, ℕ, List, take, Ok, Err, Result}
use Rattle.field.specs.declared.Row.{Row}
use Rattle.history.specs.Calls.{begun}
use Rattle.history.specs.Histories.{Call, called}
use Rattle.history.specs.Worlds.{Lent, World, told_links}
use Rattle.refusal.specs.declared.RunFault.{RunFault}

module _ {Num : Type 0} where
  -- without what lies past the told count, and without what lies past n
  abbrev pub told_alone : Lent Num → Lent Num
  told_alone lent = record lent { field = record lent.field { links = told_links lent.field } }

  abbrev pub first_alone : ℕ → World Num → World Num
  first_alone n world = record world { rows = take n world.rows; senders = take n world.senders }

  -- two that are the same but for that
  abbrev pub SameTold : Lent Num → Lent Num → Type 0
  SameTold lent other = told_alone lent ≡ told_alone other

  abbrev pub SameWithin : ℕ → World Num → World Num → Type 0
  SameWithin n world other = first_alone n world ≡ first_alone n other

  -- two begins decline with the same fault, or are granted and the same but for that
  abbrev pub BeginAlike : ℕ → Result (World Num) RunFault → Result (World Num) RunFault → Type 0
  BeginAlike n (Ok world) (Ok other) = SameWithin n world other
  BeginAlike n (Ok world) (Err fault) = ⊥
  BeginAlike n (Err fault) (Ok other) = ⊥
  BeginAlike n (Err fault) (Err other) = fault ≡ other

  -- Lent the same but for what lies past the told count, and where runs stand the same but for what lies past n, the same calls answer
  -- the same, and leave the same.
  pub record NotRead (lent other : Lent Num) : Type 0 where
    pub begins :
        (rows others : List (Row Num)) (senders bytes : List ℕ) → let n = lent.field.settings.n in
        take n rows ≡ take n others → take n senders ≡ take n bytes → BeginAlike n (begun lent.field rows senders) (begun other.field others bytes)
    pub calls :
        (world stands : World Num) → SameWithin lent.field.settings.n world stands
        → (call : Call Num) → let one = called lent world call in let two = called other stands call in
        (one.answer ≡ two.answer) × SameWithin lent.field.settings.n one.world two.world
