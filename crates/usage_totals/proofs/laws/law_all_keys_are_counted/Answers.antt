use Rattle.std.specs.Prelude.{nat_eq}
use Rattle.std.specs.Cmp.Lexicographic.{pointwise, slice_cmp}
use Rattle.std.specs.Ordering.{nat_cmp}
use Rattle.line_split.specs.declared.reason.Reason.TheVariants.{Land, Over, Work}
use Rattle.usage_totals.specs.Totals.{amounts_by_territory, amounts_by_work, lines_for, open_by_work}
use Rattle.usage_totals.proofs.KeyLemmas.{all_keys}
use Rattle.usage_totals.proofs.laws.law_all_keys_are_counted.Goals as goal

pub returns-clause-works : goal.returns-clause-works
returns-clause-works c = λ table registered lines totals are.
    all_keys (pointwise nat_eq) (slice_cmp nat_cmp) 10 (amounts_by_work (lines_for table registered Work lines)) totals.works are.works

pub returns-clause-territories : goal.returns-clause-territories
returns-clause-territories c = λ table registered lines totals are.
    all_keys nat_eq nat_cmp 10 (amounts_by_territory (lines_for table registered Land lines)) totals.territories are.territories

pub returns-clause-over : goal.returns-clause-over
returns-clause-over c = λ table registered lines totals are.
    all_keys (pointwise nat_eq) (slice_cmp nat_cmp) 10 (amounts_by_work (lines_for table registered Over lines)) totals.over are.over

pub returns-clause-left_open : goal.returns-clause-left_open
returns-clause-left_open c = λ table registered lines totals are.
    all_keys (pointwise nat_eq) (slice_cmp nat_cmp) 10 (open_by_work table registered lines) totals.left_open are.left_open
