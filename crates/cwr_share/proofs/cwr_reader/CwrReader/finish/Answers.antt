use Rattle.std.proofs.Common.{arith}
use Rattle.std.proofs.lemmas.Result.{IfErr-weaker, IfOk-weaker}
use Rattle.cwr_share.proofs.CwrReadings.{few_of_one, file_of, too_many_of}
use Rattle.cwr_share.proofs.cwr_reader.CwrReader.finish.Goals as goal

pub registry-requires-clause-lines : goal.registry-requires-clause-lines
registry-requires-clause-lines c = λ work shares found.
    let stands = c.requires in
    omega (arith, ((c.in_ok-in_force.ensures stands.lines stands.read).each work shares found).few)

pub registry-requires-clause-payees : goal.registry-requires-clause-payees
registry-requires-clause-payees c = λ work shares found.
    let stands = c.requires in
    few_of_one c.args.payees.now shares ((c.in_ok-in_force.ensures stands.lines stands.read).each work shares found)

pub returns-clause-registrations : goal.returns-clause-registrations
returns-clause-registrations c =
    IfOk-weaker c.registry.result _ _ (λ registry of lines read. file_of c.args.payees.now lines c.in_ok-in_force.field-0 registry read.0 (c.in_ok-in_force.ensures lines read).in_force of) c.registry.ensures.registry

pub returns-clause-fault : goal.returns-clause-fault
returns-clause-fault c =
    IfErr-weaker c.registry.result _ _
    (λ fault. too_many_of c.args.payees.now c.args.self.reading c.in_ok-in_force.field-0 fault c.in_ok-in_force.ensures) c.registry.ensures.fault
