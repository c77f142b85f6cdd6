-- What a field file keeps. Assumes nothing.
use Rattle.std.specs.Prelude.{ℕ, ◌<◌, List, get_or}
use Rattle.field.specs.declared.Settings.{Settings}
use Rattle.field.specs.Making.{HasSettings}
use Rattle.records.specs.Records.{four_bytes}
use Rattle.checking.specs.Cases.{file_n, file_hmax, file_tmax, file_f}

-- settings as the file has them
abbrev pub FilesSettings : List ℕ → Settings → Type 0
FilesSettings file = HasSettings (file_n file) (file_hmax file) (file_tmax file) (file_f file) (four_bytes file 0 8)

-- every byte fits in eight bits
abbrev pub Bytes : List ℕ → Type 0
Bytes file = (i : ℕ) → get_or file i 0 < 256
