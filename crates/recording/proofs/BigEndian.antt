-- The bytes of a number, highest first. Assumes nothing.
use Rattle.std.proofs.Common.{◌≡◌, ℕ, ◌^◌, ◌<◌, [], rules}
use Rattle.std.specs.Int.{to_be_bytes, w16, w32}
use Rattle.recording.specs.Records.{with_two, with_four}

pub two_bytes : (n : ℕ) → n < 2 ^ 16 → to_be_bytes w16 n ≡ with_two n []
two_bytes n h = search rules

pub four_bytes : (n : ℕ) → n < 2 ^ 32 → to_be_bytes w32 n ≡ with_four n []
four_bytes n h = search rules
