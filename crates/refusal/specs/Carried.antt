-- A field's fault carried up into a run. Assumes nothing.
use Rattle.std.specs.Prelude.{Ok, Err, Result}
use Rattle.refusal.specs.declared.FieldFault.{FieldFault}
use Rattle.refusal.specs.declared.RunFault.{RunFault}
use Rattle.refusal.specs.declared.RunFault.TheVariants.{Field}

-- the lower fault whole inside the higher
abbrev pub in_field : Result (Unit {0}) FieldFault → Result (Unit {0}) RunFault
in_field (Ok t) = Ok t
in_field (Err fault) = Err (Field fault)
