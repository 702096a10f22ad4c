use Rattle.std.proofs.Common.{◌∙◌, ap}
use Rattle.std.specs.Prelude.{nat_eq}
use Rattle.std.specs.Cmp.{nat_cmp_total, unsigned_Decides, unsigned_ties}
use Rattle.std.specs.Cmp.Lexicographic.{bytes_decides, nat_list_cmp_total, nat_list_eq_equiv, pointwise, slice_cmp, texts_ties}
use Rattle.std.specs.Ordering.{is_eq, nat_cmp}
use Rattle.std.proofs.lemmas.Cmp.{nat_eq_equiv}
use Rattle.line_split.specs.declared.reason.Reason.TheVariants.{Land, Over, Work}
use Rattle.usage_totals.specs.Totals.{amounts_by_territory, amounts_by_work, lines_for, open_by_work}
use Rattle.usage_totals.proofs.SameGreatestLemmas.{one_greatest}
use Rattle.usage_totals.proofs.laws.law_those_shown_are_determined.Goals as goal

pub returns-clause-works : goal.returns-clause-works
returns-clause-works c = λ table registered lines totals other are also.
    one_greatest (pointwise nat_eq) nat_list_eq_equiv (λ x y alike. (bytes_decides x y).0 alike) (slice_cmp nat_cmp) nat_list_cmp_total (λ x y tie. texts_ties x y ∙ ap is_eq tie)
    10 (amounts_by_work (lines_for table registered Work lines)) totals.works other.works are.works also.works

pub returns-clause-territories : goal.returns-clause-territories
returns-clause-territories c = λ table registered lines totals other are also.
    one_greatest nat_eq nat_eq_equiv (λ x y alike. (unsigned_Decides x y).0 alike) nat_cmp nat_cmp_total (λ x y tie. unsigned_ties x y ∙ ap is_eq tie)
    10 (amounts_by_territory (lines_for table registered Land lines)) totals.territories other.territories are.territories also.territories

pub returns-clause-over : goal.returns-clause-over
returns-clause-over c = λ table registered lines totals other are also.
    one_greatest (pointwise nat_eq) nat_list_eq_equiv (λ x y alike. (bytes_decides x y).0 alike) (slice_cmp nat_cmp) nat_list_cmp_total (λ x y tie. texts_ties x y ∙ ap is_eq tie)
    10 (amounts_by_work (lines_for table registered Over lines)) totals.over other.over are.over also.over

pub returns-clause-left_open : goal.returns-clause-left_open
returns-clause-left_open c = λ table registered lines totals other are also.
    one_greatest (pointwise nat_eq) nat_list_eq_equiv (λ x y alike. (bytes_decides x y).0 alike) (slice_cmp nat_cmp) nat_list_cmp_total (λ x y tie. texts_ties x y ∙ ap is_eq tie)
    10 (open_by_work table registered lines) totals.left_open other.left_open are.left_open also.left_open
