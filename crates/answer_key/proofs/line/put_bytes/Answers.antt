use Rattle.std.proofs.Common.{◌≡◌, ◌+◌, ◌-◌, length, refl, arith}
use Rattle.answer_key.proofs.Built.{overlay_within}
use Rattle.answer_key.proofs.line.put_bytes.Goals as goal

pub returns-then-bytes-pen : goal.returns-then-bytes-pen
returns-then-bytes-pen c =
    let at = c.args.pen.now.at in
    let bytes = c.args.bytes.now in
    let within = overlay_within c.args.pen.now.page.now at bytes (omega arith) in
    let long : at + length bytes - at ≡ length bytes = omega arith in
    record {
      laid = rw (long, within, c.copy_from_slice.ensures.after) refl;
      place = omega arith;
      same_page = refl;
    }
