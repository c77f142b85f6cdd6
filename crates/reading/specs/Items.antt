-- What rows, losses and acts are read as. Assumes nothing.
use Rattle.std.specs.Prelude.{ℕ, cond, List, Some, None, Option}
use Rattle.records.specs.declared.Kind.TheVariants.{Play as PlayKind}
use Rattle.checking.specs.Cases.{mark_at}
use Rattle.records.specs.Records.{byte, two_bytes, four_bytes, is_kind}
use Rattle.field.specs.declared.Act.{Act}
use Rattle.field.specs.declared.Act.TheVariants.{Play, Damage as Damages}
use Rattle.field.specs.declared.Damage.{Damage}
use Rattle.field.specs.declared.Loss.{Loss}
use Rattle.field.specs.declared.Row.{Row}

module _ (file : List ℕ) (k : ℕ) where
  abbrev pub loss_at : Loss
  loss_at = record { from = byte file k 1; to = byte file k 2; instant = four_bytes file k 4 }

-- Numbers are read in a kind whose number of a value is `of`; where the kind has none, there is no row and no act.
module _ {Num : Type 0} (of : ℕ → Option Num) (file : List ℕ) (k : ℕ) where
  abbrev pub row_at : Option (Row Num)
  row_at = elim (of (four_bytes file k 8)) [ None ↦ None | Some x ↦ Some (record { timer = two_bytes file k 4; held = x; mark = mark_at file k; outgoing = None }) ]

  abbrev pub damage_at : Option (Damage Num)
  damage_at = elim (of (four_bytes file k 8)) [ None ↦ None | Some x ↦ Some (record { sensor = byte file k 1; timer = two_bytes file k 4; mark = mark_at file k; held = x }) ]

  -- past the losses a sensor's record is a damage
  abbrev pub act_at : Option (Act Num)
  act_at = cond (is_kind file k PlayKind) (Some (Play (four_bytes file k 4))) (elim damage_at [ None ↦ None | Some damage ↦ Some (Damages damage) ])
