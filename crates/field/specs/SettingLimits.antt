-- The limits of a field's settings. Assumes nothing.
use Rattle.std.specs.Prelude.{ℕ, ◌+◌, ◌*◌, Bool, ◌&&◌, nat_le}

abbrev pub within : ℕ → ℕ → ℕ → Bool
within low high x = nat_le low x && nat_le x high

-- n sensors, the largest hop count, the longest forwarding period, and the flood period
abbrev pub settings_keep : ℕ → ℕ → ℕ → ℕ → Bool
settings_keep n hmax tmax f = (within 1 200 n && within 1 15 hmax) && (within 1 60 tmax && within (hmax * tmax + 1) 65535 f)
