use Rattle.std.proofs.Common.{◌∙◌, ◌+◌, ◌+ℤ◌}
use Rattle.usage_totals.specs.Totals.{reason_of}
use Rattle.usage_totals.proofs.ReasonLemmas.{all_counted, all_summed}
use Rattle.usage_totals.proofs.laws.law_each_line_has_one_reason.Goals as goal

pub returns-clause-lines : goal.returns-clause-lines
returns-clause-lines c = λ table registered lines totals are.
    (λ i. (are.divided i).lines + (are.unregistered i).lines + (are.unknown i).lines + (are.claimed_over i).lines) ∙ all_counted (reason_of table registered) lines

pub returns-clause-amounts : goal.returns-clause-amounts
returns-clause-amounts c = λ table registered lines totals are.
    (λ i. (are.divided i).amount +ℤ (are.unregistered i).amount +ℤ (are.unknown i).amount +ℤ (are.claimed_over i).amount) ∙ all_summed (reason_of table registered) lines
