use Rattle.std.proofs.Common.{arith, ◌∙◌, rules}
use Rattle.page.proofs.Wrotes.{wrote_front}
use Rattle.page.proofs.write.Goals as goal

pub returns-clause-page : goal.returns-clause-page
returns-clause-page g c = search rules ∙ wrote_front (omega arith) c.put.ensures (omega arith)
