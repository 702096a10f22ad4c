use Rattle.page_text.proofs.Figuring.{amount_reads, count_reads, length-last_digits}
use Rattle.page_text.proofs.laws.law_figures_are_exact.Goals as goal

pub returns-clause-amount : goal.returns-clause-amount
returns-clause-amount c = amount_reads

pub returns-clause-places : goal.returns-clause-places
returns-clause-places c = length-last_digits

pub returns-clause-count : goal.returns-clause-count
returns-clause-count c = count_reads
