use Rattle.payee_portions.proofs.ListedLemmas.{statement_total}
use Rattle.distribution_documents.specs.Runs.{statement_in}
use Rattle.distribution_documents.proofs.Balance.{statement_count}
use Rattle.distribution_documents.proofs.laws.law_a_statement_comes_to_its_total.Goals as goal

pub returns-clause-count : goal.returns-clause-count
returns-clause-count c = λ run account payee within is.
    statement_count run.tables.territories run.tables.registry run.tables.usage run.title_of account (statement_in run account) payee.portions within is.listed

pub returns-clause-total : goal.returns-clause-total
returns-clause-total c = λ run account payee within is.
    statement_total run.tables.territories run.tables.registry run.tables.usage run.title_of account (statement_in run account) payee.portions within is.listed
