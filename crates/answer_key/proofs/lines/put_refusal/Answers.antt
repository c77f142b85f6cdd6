use Rattle.std.proofs.Common.{rules}
use Rattle.answer_key.proofs.Widths.{refusal_width}
use Rattle.answer_key.proofs.lines.put_refusal.Goals as goal

pub returns-clause-short : goal.returns-clause-short
returns-clause-short c = refusal_width c.args.refusal (search rules) (search rules)
