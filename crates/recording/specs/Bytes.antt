-- The bytes of a field, and of acts. Assumes nothing.
use Rattle.std.specs.Prelude.{ℕ, List, ◌++◌, take}
use Rattle.field.specs.declared.Act.{Act}
use Rattle.field.specs.declared.Link.{Link}
use Rattle.field.specs.declared.Loss.{Loss}
use Rattle.field.specs.declared.Row.{Row}
use Rattle.field.specs.declared.Settings.{Settings}
use Rattle.page.specs.Pages.{joined}
use Rattle.recording.specs.Records.{head_record, row_record, link_record, loss_record, act_record}

-- the first record, the first n rows, the links and the losses, each in its order
unfoldable pub field_bytes : {Num : Type 0} → (Num → ℕ) → ℕ → ℕ → Settings → List (Row Num) → List Link → List Loss → List ℕ
field_bytes worth code smax s rows links losses =
    head_record code smax s ++ (joined (row_record worth) 0 (take s.n rows) ++ (joined (λ place. link_record) 0 links ++ joined (λ place. loss_record) 0 losses))

unfoldable pub act_bytes : {Num : Type 0} → (Num → ℕ) → List (Act Num) → List ℕ
act_bytes worth acts = joined (λ place. act_record worth) 0 acts
