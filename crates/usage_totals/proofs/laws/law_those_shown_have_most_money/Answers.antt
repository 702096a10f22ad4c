use Rattle.std.specs.Prelude.{nat_eq}
use Rattle.std.specs.Cmp.{nat_cmp_total}
use Rattle.std.specs.Cmp.Lexicographic.{nat_list_cmp_total, nat_list_eq_equiv, pointwise, slice_cmp}
use Rattle.std.specs.Ordering.{nat_cmp}
use Rattle.std.proofs.lemmas.Cmp.{nat_eq_equiv}
use Rattle.line_split.specs.declared.reason.Reason.TheVariants.{Land, Over, Work}
use Rattle.usage_totals.specs.Totals.{amounts_by_territory, amounts_by_work, lines_for, open_by_work}
use Rattle.usage_totals.proofs.MostMoneyLemmas.{have_most_money}
use Rattle.usage_totals.proofs.laws.law_those_shown_have_most_money.Goals as goal

pub returns-clause-works : goal.returns-clause-works
returns-clause-works c = λ table registered lines totals are.
    have_most_money (pointwise nat_eq) nat_list_eq_equiv (slice_cmp nat_cmp) nat_list_cmp_total 10 (amounts_by_work (lines_for table registered Work lines)) totals.works are.works

pub returns-clause-territories : goal.returns-clause-territories
returns-clause-territories c = λ table registered lines totals are.
    have_most_money nat_eq nat_eq_equiv nat_cmp nat_cmp_total 10 (amounts_by_territory (lines_for table registered Land lines)) totals.territories are.territories

pub returns-clause-over : goal.returns-clause-over
returns-clause-over c = λ table registered lines totals are.
    have_most_money (pointwise nat_eq) nat_list_eq_equiv (slice_cmp nat_cmp) nat_list_cmp_total 10 (amounts_by_work (lines_for table registered Over lines)) totals.over are.over

pub returns-clause-left_open : goal.returns-clause-left_open
returns-clause-left_open c = λ table registered lines totals are.
    have_most_money (pointwise nat_eq) nat_list_eq_equiv (slice_cmp nat_cmp) nat_list_cmp_total 10 (open_by_work table registered lines) totals.left_open are.left_open
