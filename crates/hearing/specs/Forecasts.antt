-- What a forecast says, and when there is none. Assumes nothing.
use Rattle.std.specs.Prelude.{ℕ, cond, Ok, Err, Result}
use Rattle.numbering.specs.Meaning.{Meaning}
use Rattle.hearing.specs.declared.Fault.{Fault}
use Rattle.hearing.specs.declared.Fault.TheVariants.{HeldUnlawful, BaseUnlawful}
use Rattle.hearing.specs.declared.Forecast.{Forecast}

-- patience and catch-up count, where both numbers are lawful; the sensor's is looked at first
abbrev pub foretold : {Num : Type 0} → Meaning Num → ℕ → (Num → Num → ℕ) → Num → Num → Result Forecast Fault
foretold m G C held base =
    cond (m.lawful held) (cond (m.lawful base) (Ok (record { patience = G; catch_up = C held base })) (Err BaseUnlawful)) (Err HeldUnlawful)
