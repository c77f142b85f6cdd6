use Rattle.page.proofs.Wrotes.{wrote_then}
use Rattle.std.proofs.Common.{rules}
use Rattle.inquiry.proofs.reports.LentReportNumberText.put.Goals as goal

pub returns : goal.returns
returns g c = wrote_then c.put_bound.ensures (wrote_then c.put_floods-count.ensures.lines (search rules))
