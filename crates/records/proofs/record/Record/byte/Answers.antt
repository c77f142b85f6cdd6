use Rattle.std.proofs.Common.{rules}
use Rattle.std.proofs.lemmas.Option.{unwrap_or-slice_get}
use Rattle.records.proofs.record.Record.byte.Goals as goal

pub returns : goal.returns
returns c = search (rules, unwrap_or-slice_get)
