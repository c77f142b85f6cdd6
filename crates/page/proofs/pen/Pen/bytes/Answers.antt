use Rattle.page.proofs.Wrotes.{wrote_as, joined_bytes}
use Rattle.page.proofs.pen.Pen.bytes.Goals as goal

pub returns : goal.returns
returns c = wrote_as (joined_bytes 0 c.args.bytes.now) c.put.ensures
