use Rattle.std.proofs.Common.{◌≡◌, Err, sym, ◌∙◌, rules, arith}
use Rattle.vetting.specs.Cases.{seen_in}
use Rattle.vetting.proofs.Orders.{ends_with, goes_on}
use Rattle.vetting.proofs.memory.InMemory.first_fault.Goals as goal

pub returns-in_err-fault_in : goal.returns-in_err-fault_in
returns-in_err-fault_in g c =
    let seen = seen_in g.N.Numbering.meaning c.args.self.now in
    let fault = c.in_err-fault_in.field-0.0 in
    let gives : c.from_residual.result ≡ Err fault = search rules in
    gives ∙ sym (c.loop-case.invariant ∙ ends_with seen c.args.cases.now c.loop-case.case-index (omega arith) fault (sym c.fault_in.ensures ∙ c.in_err-fault_in.was))

pub loop-case-preserved : goal.loop-case-preserved
loop-case-preserved g c =
    let seen = seen_in g.N.Numbering.meaning c.args.self.now in
    c.loop-case.invariant ∙ goes_on seen c.args.cases.now c.loop-case.case-index (omega arith) c.in_ok-fault_in.field-0 (sym c.fault_in.ensures ∙ c.in_ok-fault_in.was)
