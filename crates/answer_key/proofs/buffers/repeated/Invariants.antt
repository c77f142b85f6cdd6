use Rattle.std.proofs.Common.{◌≡◌, replicate}
use Rattle.answer_key.proofs.buffers.repeated.Given as goal

abbrev pub invariant-loop-made : goal.invariant-loop-made
invariant-loop-made g l = l.items.items ≡ replicate l._made l.item
