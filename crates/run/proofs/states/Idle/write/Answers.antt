use Rattle.run.proofs.Returning.{write_laws}
use Rattle.run.proofs.states.Idle.write.Goals as goal

pub returns-in_err-vet-clause-laws : goal.returns-in_err-vet-clause-laws
returns-in_err-vet-clause-laws g c = write_laws _ _ g.met.N.Number.NumberKind.back (g.met.N.Filed.values c.args.lent.now.numbering.now)

pub returns-then-lent-self-clause-laws : goal.returns-then-lent-self-clause-laws
returns-then-lent-self-clause-laws g c = write_laws _ _ g.met.N.Number.NumberKind.back (g.met.N.Filed.values c.args.lent.now.numbering.now)

pub returns-clause-laws : goal.returns-clause-laws
returns-clause-laws g c = write_laws _ _ g.met.N.Number.NumberKind.back (g.met.N.Filed.values c.args.lent.now.numbering.now)
