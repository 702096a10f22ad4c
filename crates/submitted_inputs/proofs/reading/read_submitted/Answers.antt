use Rattle.std.proofs.Common.{ℕ, List, subst}
use Rattle.std.proofs.lemmas.Result.{err_from_is_err_and}
use Rattle.submitted_inputs.specs.Submitted.{AreFoundIn, IsFaultOfRegistrations, map_tables}
use Rattle.submitted_inputs.proofs.Refusals.{registrations_fault, usage_fault, works_fault}
use Rattle.submitted_inputs.proofs.reading.read_submitted.Goals as goal

pub returns-in_err-works-clause-fault : goal.returns-in_err-works-clause-fault
returns-in_err-works-clause-fault g c =
    let exit = err_from_is_err_and c.from_residual-in_err-works.result c.from_residual-in_err-works.ensures.1 in
    rw (exit.1, exit.2)
    (works_fault c.args.submitters.now (g.F.SubmitterFiles.holds c.args.files.now) (g.F.SubmitterFiles.refuses c.args.files.now) (map_tables g.I.Input.bytes c.args.tables)
    c.in_ok-territories.territories c.in_ok-territories.ensures.territories c.in_ok-payees.payees c.in_ok-payees.ensures.payees c.in_err-works.field-0.0 c.in_err-works.ensures.fault)

pub returns-in_err-registry-clause-fault : goal.returns-in_err-registry-clause-fault
returns-in_err-registry-clause-fault g c =
    let holds = g.F.SubmitterFiles.holds c.args.files.now in
    let refuses = g.F.SubmitterFiles.refuses c.args.files.now in
    let exit = err_from_is_err_and c.from_residual-in_err-registry.result c.from_residual-in_err-registry.ensures.1 in
    let own = c.in_err-registry.field-0.0 in
    let refused =
    subst (λ (names : List (List ℕ)). IsFaultOfRegistrations names holds refuses c.in_ok-payees.payees c.in_ok-works.works.links own) c.in_ok-works.ensures.names c.in_err-registry.ensures.fault in
    rw (exit.1, exit.2)
    (registrations_fault c.args.submitters.now holds refuses (map_tables g.I.Input.bytes c.args.tables) c.in_ok-territories.territories c.in_ok-territories.ensures.territories
    c.in_ok-payees.payees c.in_ok-payees.ensures.payees c.in_ok-works.works.links c.in_ok-works.ensures.works own refused)

pub returns-in_err-usage-clause-fault : goal.returns-in_err-usage-clause-fault
returns-in_err-usage-clause-fault g c =
    let holds = g.F.SubmitterFiles.holds c.args.files.now in
    let exit = err_from_is_err_and c.from_residual-in_err-usage.result c.from_residual-in_err-usage.ensures.1 in
    let (files, read, registrations) =
    subst (λ (names : List (List ℕ)). AreFoundIn names holds c.in_ok-payees.payees c.in_ok-works.works.links c.in_ok-registry.registry) c.in_ok-works.ensures.names c.in_ok-registry.ensures.registry in
    rw (exit.1, exit.2)
    (usage_fault c.args.submitters.now holds (g.F.SubmitterFiles.refuses c.args.files.now) (map_tables g.I.Input.bytes c.args.tables) c.in_ok-territories.territories
    c.in_ok-territories.ensures.territories c.in_ok-payees.payees c.in_ok-payees.ensures.payees c.in_ok-works.works.links c.in_ok-works.ensures.works files read c.in_ok-registry.registry registrations
    c.in_err-usage.field-0.0 (rw c.bytes.ensures at c.in_err-usage.ensures.fault))
