use Rattle.std.proofs.Common.{rules}
use Rattle.std.proofs.lemmas.List.{set_past}
use Rattle.page.proofs.Wrotes.{wrote_byte}
use Rattle.page.proofs.U8Text.put.Goals as goal
use Rattle.page.proofs.U8Text.put.Goals.{then-pen, else-pen}

pub returns : goal.returns
returns c = elim c.if-pen.branch [
  | then-pen w ↦ wrote_byte (search rules) (search rules) (search rules)
  | else-pen w ↦ wrote_byte (search (rules, set_past)) (search rules) (search rules)
]
