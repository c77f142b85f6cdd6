use Rattle.std.proofs.Common.{arith, rules}
use Rattle.answer_key.proofs.Built.{one_long, one_longer, first_digit, last_digit}
use Rattle.answer_key.proofs.line.+put_digits.Goals as goal
use Rattle.answer_key.proofs.line.+put_digits.Goals.{then-n-lt10, else-n-lt10}

pub put_digits-last-requires : goal.put_digits-last-requires
put_digits-last-requires t c = let longer = one_longer c.args.n (omega arith) (omega arith) in (omega arith, omega arith)

pub bounds-line-last : goal.bounds-line-last
bounds-line-last t c = elim c.if-n-lt10.branch [
  | then-n-lt10 w ↦ let long = one_long c.args.n (omega arith) in omega arith
  | else-n-lt10 w ↦ let longer = one_longer c.args.n (omega arith) (omega arith) in omega arith
]

pub returns-clause-place : goal.returns-clause-place
returns-clause-place t c = elim c.if-n-lt10.branch [
  | then-n-lt10 w ↦ let long = one_long c.args.n (omega arith) in omega arith
  | else-n-lt10 w ↦ let longer = one_longer c.args.n (omega arith) (omega arith) in omega arith
]

pub returns-clause-text : goal.returns-clause-text
returns-clause-text t c = elim c.if-n-lt10.branch [
  | then-n-lt10 w ↦ let long = one_long c.args.n (omega arith) in rw (w.line-is, w.last-is) (first_digit c.args.line.now c.args.at c.args.n (omega arith) (omega arith))
  | else-n-lt10 w ↦ let longer = one_longer c.args.n (omega arith) (omega arith) in last_digit c.args.line.now _ c.args.at _ c.args.n (omega arith) (omega arith) (omega arith) (search rules)
]
