use Rattle.cwr_share.specs.Registrations.{shares_in_force}
use Rattle.cwr_share.proofs.OneRegistry.{one_parties, one_payees, one_works}
use Rattle.cwr_share.proofs.laws.law_a_file_has_one_registry.Goals as goal

pub returns-clause-works : goal.returns-clause-works
returns-clause-works c = λ rows lines registered other of other_of. one_works rows (shares_in_force lines) registered other of.registry other_of.registry

pub returns-clause-parties : goal.returns-clause-parties
returns-clause-parties c = λ rows lines registered other of other_of. one_parties rows (shares_in_force lines) registered other of.registry other_of.registry

pub returns-clause-payees : goal.returns-clause-payees
returns-clause-payees c = λ rows lines registered other of other_of. one_payees rows (shares_in_force lines) registered other of.registry other_of.registry
