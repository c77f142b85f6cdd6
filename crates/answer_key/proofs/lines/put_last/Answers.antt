use Rattle.page.proofs.Wrotes.{wrote_nothing}
use Rattle.answer_key.proofs.lines.put_last.Goals as goal

pub returns-in_default-clause-line : goal.returns-in_default-clause-line
returns-in_default-clause-line c = rw (c.in_default.is) (wrote_nothing c.args.pen.now)
