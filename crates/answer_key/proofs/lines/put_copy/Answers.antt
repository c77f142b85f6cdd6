use Rattle.std.proofs.Common.{◌≤◌, length, append_assoc, rules, arith}
use Rattle.page.proofs.Wrotes.{wrote_as}
use Rattle.answer_key.specs.Lines.{copy_line}
use Rattle.answer_key.proofs.Widths.{byte_width, word_width, verdict_width, copy_width}
use Rattle.answer_key.proofs.lines.put_copy.Goals as goal

pub put_number-at-requires : goal.put_number-at-requires
put_number-at-requires g c = omega (arith, word_width)

pub put_number-at-requires-2 : goal.put_number-at-requires-2
put_number-at-requires-2 g c = omega (arith, byte_width, word_width)

pub put_number-at-requires-3 : goal.put_number-at-requires-3
put_number-at-requires-3 g c = omega (arith, byte_width, word_width)

pub put_number-at-requires-4 : goal.put_number-at-requires-4
put_number-at-requires-4 g c = omega (arith, byte_width, word_width)

pub put_number-at-requires-5 : goal.put_number-at-requires-5
put_number-at-requires-5 g c = omega (arith, byte_width, word_width)

pub put_word-end-requires : goal.put_word-end-requires
put_word-end-requires g c =
    let word : length c.as_bytes-word.result.now ≤ 8 = rw (c.as_bytes-word.ensures.value, c.verdict_word.ensures) (verdict_width c.args.copy.verdict) in
    omega (arith, byte_width, word_width)

pub returns-clause-line : goal.returns-clause-line
unfolding copy_line
returns-clause-line g c =
    wrote_as
    (rw (c.put_word-end.ensures.text, c.as_bytes-word.ensures.value, c.verdict_word.ensures)
    (rw (c.put_number-at-5.ensures.text, c.into-5.ensures, c.value.ensures.value)
    (rw (c.put_number-at-4.ensures.text, c.into-4.ensures)
    (rw (c.put_number-at-3.ensures.text, c.into-3.ensures)
    (rw (c.put_number-at-2.ensures.text, c.into-2.ensures)
    (rw (c.put_number-at.ensures.text, c.into.ensures)
    (simp append_assoc)))))))
    c.put_bytes.ensures

pub returns-clause-short : goal.returns-clause-short
returns-clause-short g c = omega (arith, copy_width g.K.NumberKind.worth c.args.copy (search rules) (search rules) (search rules) (search rules) (search rules))
