use Rattle.check_inputs.proofs.Telling.{two_behind}
use Rattle.check_inputs.proofs.report.add_payee_facts.Goals as goal

pub returns : goal.returns
returns c = two_behind _ _ _ _ _ c.in_ok-add_parties_fact.ensures c.in_ok-add_quote_if_given.ensures
