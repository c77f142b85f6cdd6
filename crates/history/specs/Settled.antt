-- What it is that floods settle. Assumes nothing.
use Rattle.std.specs.Prelude.{◌≡◌, ℕ, suc, ◌+◌, ◌<◌, ◌≤◌, true, false, List, [], ◌∷◌, Some, None, slice_get}
use Rattle.field.specs.declared.Row.{Row}
use Rattle.flood.specs.declared.hearing.Verdict.{Verdict}
use Rattle.history.specs.Floods.{Flood, accepts, refuses, floods_told, without_first, flood_at, verdicts_of, heard_by}
use Rattle.history.specs.Histories.{InEveryRun}
use Rattle.history.specs.Worlds.{Field, World}
use Rattle.history.specs.declared.taking.TakenCopy.{TakenCopy}
use Rattle.numbering.specs.Meaning.{Meaning, Settles}

-- Of the verdicts on the copies that a sensor heard, the latest first: it accepted the first copy, and refused the others.
unfoldable pub AcceptsFirst : List Verdict → Type 0
AcceptsFirst [] = Unit {0}
AcceptsFirst (verdict ∷ []) = accepts verdict ≡ true
AcceptsFirst (verdict ∷ (earlier ∷ verdicts)) = (refuses verdict ≡ true) × AcceptsFirst (earlier ∷ verdicts)

module _ {Num : Type 0} where
  -- as a flood begins no sensor is marked
  abbrev pub BeginsUnmarked : ℕ → Flood Num → Type 0
  BeginsUnmarked n flood = (sensor : ℕ) (row : Row Num) → sensor < n → slice_get flood.before sensor ≡ Some row → row.mark ≡ None

  -- the copies of a flood carry its number
  unfoldable pub CarryNumber : Num → List (TakenCopy Num) → Type 0
  CarryNumber number [] = Unit {0}
  CarryNumber number (copy ∷ copies) = (copy.number ≡ number) × CarryNumber number copies

  module _ (floods : List (Flood Num)) (sensor : ℕ) where
    -- the floods from a place on and before another pass the sensor unheard
    abbrev pub PassUnheard : ℕ → ℕ → Type 0
    PassUnheard from to = (k : ℕ) (flood : Flood Num) → from ≤ k → k < to → flood_at floods k ≡ Some flood → heard_by sensor flood ≡ false

    -- among the floods before a place, no G in a row pass it unheard
    abbrev pub NoneMissed : ℕ → ℕ → Type 0
    NoneMissed G to = (k : ℕ) → k + G ≤ to → PassUnheard k (k + G) → ⊥

    -- the number of the latest flood that it heard, of those before a place
    abbrev pub LatestHeard : ℕ → Num → Type 0
    LatestHeard to number =
        (k : ℕ) × (flood : Flood Num) × (k < to) × (flood_at floods k ≡ Some flood) × (heard_by sensor flood ≡ true) × (flood.number ≡ number) × PassUnheard (suc k) to

    -- If among the first C no G in a row pass it unheard, then at their end, just before the next begins, it holds the number of the
    -- latest that it heard.
    abbrev pub HoldsLatest : ℕ → ℕ → Type 0
    HoldsLatest G C = NoneMissed G C → (next : Flood Num) (row : Row Num) → flood_at floods C ≡ Some next → slice_get next.before sensor ≡ Some row → LatestHeard C row.held

    -- In every flood after the first C it accepts the first copy that it hears and refuses the others, if no G in a row passed it unheard
    -- from the first flood to the one before. Where a run stops within a flood, this is of its copies so far.
    abbrev pub AcceptsAfter : ℕ → ℕ → Type 0
    AcceptsAfter G C = (k : ℕ) (flood : Flood Num) → C ≤ k → flood_at floods k ≡ Some flood → NoneMissed G k → AcceptsFirst (verdicts_of sensor flood.copies)

-- A sensor that is followed from the first of these floods on, under a patience G and a catch-up count C that keep the settling laws.
pub record Followed {Num : Type 0} (m : Meaning Num) (n : ℕ) (floods : List (Flood Num)) (G : ℕ) (C : Num → Num → ℕ) (sensor : ℕ) : Type 0 where
  pub settles : Settles m G C
  pub is_sensor : sensor < n
  pub first : Flood Num
  pub begins : flood_at floods 0 ≡ Some first
  -- its row and that of sensor 0, just before the first flood
  pub own : Row Num
  pub base : Row Num
  pub own_there : slice_get first.before sensor ≡ Some own
  pub base_there : slice_get first.before 0 ≡ Some base

-- the catch-up count, at what the two hold then
abbrev pub catch_up : {Num : Type 0} {m : Meaning Num} {n : ℕ} {floods : List (Flood Num)} {G : ℕ} {C : Num → Num → ℕ} {sensor : ℕ} → Followed m n floods G C sensor → ℕ
catch_up {C = C} followed = C followed.own.held followed.base.held

-- What is true of these floods, which are numbered from 0 in time.
pub record SettledFloods {Num : Type 0} (m : Meaning Num) (n : ℕ) (floods : List (Flood Num)) : Type 0 where
  -- (a) Each begins with no sensor marked, and all its copies carry its number.
  pub alone : (k : ℕ) (flood : Flood Num) → flood_at floods k ≡ Some flood → BeginsUnmarked n flood × CarryNumber flood.number flood.copies
  -- (b) At the end of the first C a followed sensor holds the number of the latest that it heard, if no G in a row pass it unheard.
  pub holds_latest : (G : ℕ) (C : Num → Num → ℕ) (sensor : ℕ) (followed : Followed m n floods G C sensor) → HoldsLatest floods sensor G (catch_up followed)
  -- (c) In every flood after the first C it accepts the first copy that it hears and refuses the others, if no G in a row passed it.
  pub accepts_first : (G : ℕ) (C : Num → Num → ℕ) (sensor : ℕ) (followed : Followed m n floods G C sensor) → AcceptsAfter floods sensor G (catch_up followed)

-- In every run, of the floods since the last damage, those after the first settle.
unfoldable pub FloodsSettle : {Num : Type 0} → Field Num → World Num → Type 0
FloodsSettle field start = InEveryRun field start (λ lent went. SettledFloods field.numbering field.settings.n (without_first (floods_told went.events)))

-- So they do within this patience and this catch-up count: every sensor holds the latest at the end of the first C, and accepts after them.
unfoldable pub SettleWithin : {Num : Type 0} → ℕ → (Num → Num → ℕ) → Field Num → World Num → Type 0
SettleWithin {Num} G C field start =
    InEveryRun field start (λ lent went.
    let floods = without_first (floods_told went.events) in
    (sensor : ℕ) (first : Flood Num) (own base : Row Num) → sensor < field.settings.n
    → flood_at floods 0 ≡ Some first → slice_get first.before sensor ≡ Some own → slice_get first.before 0 ≡ Some base
    → HoldsLatest floods sensor G (C own.held base.held) × AcceptsAfter floods sensor G (C own.held base.held))
