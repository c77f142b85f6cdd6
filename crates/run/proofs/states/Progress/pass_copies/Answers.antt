use Rattle.std.proofs.Common.{◌≡◌, Some, refl}
use Rattle.history.specs.Calls.{world_closed}
use Rattle.run.specs.Standing.{stands, with_bytes}
use Rattle.run.proofs.Loans.{given_same}
use Rattle.run.proofs.Whole.{closed_all}
use Rattle.run.proofs.states.Progress.pass_copies.Goals as goal

pub returns-clause-value : goal.returns-clause-value
unfolding world_closed
returns-clause-value g c =
    let run = c.args.self.now in
    let lent = c.args.lent.now in
    let written = c.send_bytes.new.self in
    let start : stands run (Some 0) written ≡ with_bytes run lent = rw (c.send_bytes.ensures.senders, c.send_bytes.ensures.rows) refl in
    closed_all _ _ (given_same g.N.Numbering.meaning g.D.DelayRule.period g.A.Air.carries run run lent written c.send_bytes.ensures.lent refl refl)
    c.args.used _ _ start _ _ (rw (c.close_rows.ensures, c.silence.ensures) refl) c.args.log.now _ _ c.carry_all-rows.ensures.value
