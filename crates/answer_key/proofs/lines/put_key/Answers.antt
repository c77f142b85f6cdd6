use Rattle.page.proofs.Wrotes.{wrote_then}
use Rattle.answer_key.proofs.lines.put_key.Goals as goal

pub returns-clause-text : goal.returns-clause-text
returns-clause-text g c = wrote_then c.put_copies.ensures.lines c.put_last.ensures.line
