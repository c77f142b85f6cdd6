-- The next copy goes over a link from the position on. Assumes nothing.
use Rattle.std.proofs.Common.{◌≡◌, ℕ, ◌<◌, ◌≤◌, List, length, take, Some, None, Option, leb-true, arith}
use Rattle.std.specs.Prelude.{IfSome}
use Rattle.std.proofs.lemmas.List.{length-take}
use Rattle.std.proofs.lemmas.Bool.{and_parts}
use Rattle.std.specs.Prelude.{nat_le}
use Rattle.field.specs.declared.Link.{Link}
use Rattle.field.specs.declared.Row.{Row}
use Rattle.flood.specs.Copies.{copy_at, next_copy}
use Rattle.search.proofs.Places.{is_lowest}

onward : {Num : Type 0} (rows : List (Row Num)) (links : List Link) (position place : ℕ) → Some place ≡ next_copy rows links position → (position ≤ place) × (place < length links)
onward rows links position place e =
    let is = is_lowest (copy_at rows links position) (length links) (Some place) e in
    (leb-true position place (and_parts (nat_le position place) _ is.1).0, is.0)

-- and over one of the first, where only those are looked at
pub onward_of :
    {Num : Type 0} (rows : List (Row Num)) (links : List Link) (position count : ℕ) (o : Option ℕ) → o ≡ next_copy rows (take count links) position
    → IfSome o (λ place. (position ≤ place) × (place < count))
onward_of rows links position count None e = tt
onward_of rows links position count (Some place) e = let on = onward rows (take count links) position place e in (on.0, omega (arith, on.1, length-take count links))
