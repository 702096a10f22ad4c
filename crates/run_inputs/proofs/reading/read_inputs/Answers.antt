use Rattle.std.proofs.lemmas.Result.{err_from_is_err_and}
use Rattle.run_inputs.specs.Inputs.{map_inputs}
use Rattle.run_inputs.proofs.Refusals.{cwr_fault, usage_fault}
use Rattle.run_inputs.proofs.reading.read_inputs.Goals as goal

pub returns-in_err-registry-clause-fault : goal.returns-in_err-registry-clause-fault
returns-in_err-registry-clause-fault g c =
    let exit = err_from_is_err_and c.from_residual-in_err-registry.result c.from_residual-in_err-registry.ensures.1 in
    rw (exit.1, exit.2)
    (cwr_fault (map_inputs g.I.Input.bytes c.args.inputs) c.in_ok-territories.territories c.in_ok-territories.ensures.territories c.in_ok-payees.payees c.in_ok-payees.ensures.payees
    c.in_err-registry.field-0.0 c.in_err-registry.ensures.fault)

pub returns-in_err-usage-clause-fault : goal.returns-in_err-usage-clause-fault
returns-in_err-usage-clause-fault g c =
    let exit = err_from_is_err_and c.from_residual-in_err-usage.result c.from_residual-in_err-usage.ensures.1 in
    rw (exit.1, exit.2)
    (usage_fault (map_inputs g.I.Input.bytes c.args.inputs) c.in_ok-territories.territories c.in_ok-territories.ensures.territories c.in_ok-payees.payees c.in_ok-payees.ensures.payees
    c.in_ok-registry.registry c.in_ok-registry.ensures.registrations c.in_err-usage.field-0.0 (rw c.bytes.ensures at c.in_err-usage.ensures.fault))
