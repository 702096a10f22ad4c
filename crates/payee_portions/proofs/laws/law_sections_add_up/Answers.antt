use Rattle.payee_portions.proofs.SectionLemmas.{sections_joined, sections_sum}
use Rattle.payee_portions.proofs.laws.law_sections_add_up.Goals as goal

pub returns-clause-whole : goal.returns-clause-whole
returns-clause-whole c = sections_joined

pub returns-clause-sums : goal.returns-clause-sums
returns-clause-sums c = sections_sum
