-- What is known of the floods that a run is told by, flood by flood. Assumes nothing.
use Rattle.std.proofs.Common.{◌≡◌, ℕ, suc, ◌<◌, true, cond, ◌&&◌, List, [], ◌∷◌, Some}
use Rattle.std.specs.Prelude.{◌==◌}
use Rattle.std.specs.List.{slice_get}
use Rattle.field.specs.declared.Row.{Row}
use Rattle.history.specs.Floods.{Flood, hears, accepts, flood_at}
use Rattle.history.specs.Settled.{BeginsUnmarked, CarryNumber}
use Rattle.history.specs.declared.taking.TakenCopy.{TakenCopy}
use Rattle.numbering.specs.Meaning.{Meaning, Lawful}

module _ {Num : Type 0} (m : Meaning Num) where
  module _ (sensor : ℕ) where
    -- what a sensor that held x holds after copies, of which the latest stands first
    unfoldable pub held_after : Num → List (TakenCopy Num) → Num
    held_after x [] = x
    held_after x (copy ∷ copies) = cond (copy.to == sensor && accepts copy.verdict) copy.number (held_after x copies)

    -- it judged each copy that it heard by what it held
    unfoldable pub Judged : Num → List (TakenCopy Num) → Type 0
    Judged x [] = Unit {0}
    Judged x (copy ∷ copies) =
        (copy.to ≡ sensor → hears copy.verdict ≡ true → accepts copy.verdict ≡ m.fresh copy.number (held_after x copies)) × Judged x copies

  unfoldable pub NoneTo : ℕ → List (TakenCopy Num) → Type 0
  NoneTo sensor [] = Unit {0}
  NoneTo sensor (copy ∷ copies) = (copy.to ≡ sensor → ⊥) × NoneTo sensor copies

  module _ (n : ℕ) where
    -- a flood by itself
    pub record Known (flood : Flood Num) : Type 0 where
      pub rows : (sensor : ℕ) → sensor < n → (row : Row Num) × (slice_get flood.before sensor ≡ Some row) × Lawful m row.held
      pub follows : (base : Row Num) → slice_get flood.before 0 ≡ Some base → m.next base.held ≡ Some flood.number
      pub judged : (sensor : ℕ) (row : Row Num) → sensor < n → (sensor ≡ 0 → ⊥) → slice_get flood.before sensor ≡ Some row → Judged sensor row.held flood.copies
      pub base_deaf : NoneTo 0 flood.copies

    -- rows as a flood has left them so far
    pub record Left (flood : Flood Num) (rows : List (Row Num)) : Type 0 where
      pub held :
          (sensor : ℕ) (before row : Row Num) → sensor < n → (sensor ≡ 0 → ⊥) → slice_get flood.before sensor ≡ Some before → slice_get rows sensor ≡ Some row
          → row.held ≡ held_after sensor before.held flood.copies
      pub base : (row : Row Num) → slice_get rows 0 ≡ Some row → row.held ≡ flood.number

    -- floods, each after another
    pub record Tale (floods : List (Flood Num)) : Type 0 where
      pub known : (k : ℕ) (flood : Flood Num) → flood_at floods k ≡ Some flood → Known flood
      pub next : (k : ℕ) (flood later : Flood Num) → flood_at floods k ≡ Some flood → flood_at floods (suc k) ≡ Some later → Left flood later.before

    pub record Alone (floods : List (Flood Num)) : Type 0 where
      pub alone : (k : ℕ) (flood : Flood Num) → flood_at floods k ≡ Some flood → BeginsUnmarked n flood × CarryNumber flood.number flood.copies
