use Rattle.std.proofs.Common.{arith, ◌∙◌, rules}
use Rattle.page.proofs.Wrotes.{wrote_front}
use Rattle.printing.proofs.put_front.Goals as goal

pub returns-clause-page : goal.returns-clause-page
returns-clause-page g c fits = search rules ∙ wrote_front fits c.put.ensures (omega arith)
