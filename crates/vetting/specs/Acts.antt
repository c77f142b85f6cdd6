-- The cases in which acts are not written: each a test at a place. Assumes nothing.
use Rattle.std.specs.Prelude.{ℕ, Bool, false, not, List, length, Result, nat_lt}
use Rattle.std.specs.Result.{result_and}
use Rattle.refusal.specs.Carried.{in_field}
use Rattle.refusal.specs.declared.FieldFault.{FieldFault}
use Rattle.refusal.specs.declared.FieldFault.TheVariants.{NoSensor, BadRow}
use Rattle.refusal.specs.declared.RunFault.{RunFault}
use Rattle.search.specs.Lowest.{looked_for}
use Rattle.numbering.specs.Meaning.{Meaning}
use Rattle.field.specs.declared.Act.{Act}
use Rattle.field.specs.declared.Act.TheVariants.{Play, Damage as Damages}
use Rattle.field.specs.declared.Settings.{Settings}
use Rattle.field.specs.Rows.{damage_keeps}
use Rattle.vetting.specs.declared.cases.ActCase.{ActCase}
use Rattle.vetting.specs.declared.cases.ActCase.TheVariants.{Sensors, Limits}
use Rattle.vetting.specs.Cases.{holds_at}

-- 6: a damage of a sensor that is not there
abbrev pub damages_none : {Num : Type 0} → Settings → Act Num → Bool
damages_none s (Play budget) = false
damages_none s (Damages damage) = not (nat_lt damage.sensor s.n)

module _ {Num : Type 0} (m : Meaning Num) (s : Settings) where
  -- 9: a damage that breaks the limits of a row
  abbrev pub breaks_limits : Act Num → Bool
  breaks_limits (Play budget) = false
  breaks_limits (Damages damage) = not (damage_keeps m s damage)

  abbrev pub act_test : ActCase → Act Num → Bool
  act_test Sensors = damages_none s
  act_test Limits = breaks_limits

abbrev pub act_fault : ActCase → ℕ → FieldFault
act_fault Sensors k = NoSensor k
act_fault Limits k = BadRow k

module _ {Num : Type 0} (m : Meaning Num) (s : Settings) (acts : List (Act Num)) where
  -- one case looked for everywhere
  unfoldable pub act_case : ActCase → Result (Unit {0}) FieldFault
  act_case case = looked_for (act_fault case) (length acts) (holds_at (act_test m s case) acts)

  abbrev pub acts_vetted : Result (Unit {0}) RunFault
  acts_vetted = in_field (result_and (act_case Sensors) (act_case Limits))
