-- What a sensor makes of the floods that it hears, and that it settles. Assumes nothing.
use Rattle.std.specs.Prelude.{◌≡◌, ℕ, zero, suc, ◌+◌, ◌≤◌, cond, List, [], ◌∷◌, Some, None}
use Rattle.std.specs.List.{slice_get}
use Rattle.numbering.specs.Meaning.{Meaning}
use Rattle.hearing.specs.declared.Heard.{Heard}
use Rattle.hearing.specs.declared.Verdict.TheVariants.{Accepted, Refused}

module _ {Num : Type 0} (m : Meaning Num) where
  -- a fresh number is accepted and held; any other is refused, and what was held stays
  abbrev pub heard : Num → Num → Heard Num
  heard held number = cond (m.fresh number held) (record { number = number; verdict = Accepted; held = number }) (record { number = number; verdict = Refused; held = held })

  -- The first n floods of a base, as far as numbers follow, each heard by the sensor.
  abbrev pub hearing : ℕ → Num → Num → List (Heard Num)
  hearing zero held base = []
  hearing (suc n) held base = elim (m.next base) [ None ↦ [] | Some number ↦ heard held number ∷ hearing n (heard held number).held number ]

  -- A sensor that hears every flood settles: from flood C on it holds the number that the base sent, and each flood after those C it accepts.
  unfoldable pub Settled : Num → Num → ℕ → Type 0
  Settled held base C = (n k : ℕ) (flood : Heard Num) → slice_get (hearing n held base) k ≡ Some flood → (C ≤ k + 1 → flood.held ≡ flood.number) × (C ≤ k → flood.verdict ≡ Accepted)
