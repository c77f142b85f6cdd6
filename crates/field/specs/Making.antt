-- Settings as they are made. Assumes nothing.
use Rattle.std.specs.Prelude.{◌≡◌, ℕ, true, false, Ok, Err, Result}
use Rattle.refusal.specs.declared.FieldFault.{FieldFault}
use Rattle.refusal.specs.declared.FieldFault.TheVariants.{BadSetting}
use Rattle.field.specs.declared.settings.Settings.{Settings}
use Rattle.field.specs.SettingLimits.{settings_keep}

pub record HasSettings (n hmax tmax f seed : ℕ) (s : Settings) : Type 0 where
  pub n_is : s.n ≡ n
  pub hmax_is : s.hmax ≡ hmax
  pub tmax_is : s.tmax ≡ tmax
  pub f_is : s.f ≡ f
  pub seed_is : s.seed ≡ seed

-- the settings where they keep their limits, and else the refusal
abbrev pub Made : ℕ → ℕ → ℕ → ℕ → ℕ → Result Settings FieldFault → Type 0
Made n hmax tmax f seed (Ok s) = (settings_keep n hmax tmax f ≡ true) × HasSettings n hmax tmax f seed s
Made n hmax tmax f seed (Err fault) = (settings_keep n hmax tmax f ≡ false) × (fault ≡ BadSetting)
