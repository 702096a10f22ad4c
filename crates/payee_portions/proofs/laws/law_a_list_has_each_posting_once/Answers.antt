use Rattle.payee_portions.proofs.ListedLemmas.{each_posting_once, statement_total}
use Rattle.payee_portions.proofs.laws.law_a_list_has_each_posting_once.Goals as goal

pub returns-clause-once : goal.returns-clause-once
returns-clause-once c = each_posting_once

pub returns-clause-total : goal.returns-clause-total
returns-clause-total c = statement_total
