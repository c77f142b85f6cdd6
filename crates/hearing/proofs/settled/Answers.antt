use Rattle.hearing.proofs.Settles.{settled}
use Rattle.hearing.proofs.settled.Goals as goal

pub returns : goal.returns
returns g c =
    let n = c.args.numbering.now in
    settled (g.N.Numbering.meaning n) (g.met.N.Numbering.follows n) (g.N.Settling.patience n) (g.N.Settling.catchup n) (g.met.N.Settling.settles n) c.args.held c.args.base
