use Rattle.std.proofs.Common.{◌≡◌, ◌∙◌, ◌+◌, ◌+ℤ◌, ◌^◌, arith, false, length, sum_by, true}
use Rattle.std.proofs.lemmas.List.Filters.{length-filter_both, sum_by-filter_both}
use Rattle.line_split.specs.Signs.{int_sum_by}
use Rattle.overview_documents.specs.Payees.{PayeeLine, lines_shown}
use Rattle.overview_documents.proofs.Groups.{either, int_sum_by-filter_both, is_of}
use Rattle.overview_documents.proofs.Wide.{handed, sum_is}
use Rattle.overview_documents.proofs.heads.all_of_payees.Goals as goal

pub returns : goal.returns
returns c =
    let payees = lines_shown c.args.overview.now.payees.now in
    let paid = c.group_of-paid.result in
    let owed = c.group_of-owed.result in
    let paid_are = c.group_of-paid.ensures.group in
    let owed_are = c.group_of-owed.ensures.group in
    let count : paid.payees + owed.payees ≡ length payees =
    (λ i. (paid_are i).payees + (owed_are i).payees) ∙ length-filter_both (is_of false) (is_of true) either payees in
    let portions : paid.portions + owed.portions ≡ sum_by (λ (payee : PayeeLine). payee.count) payees =
    (λ i. (paid_are i).portions + (owed_are i).portions) ∙ sum_by-filter_both (is_of false) (is_of true) either (λ (payee : PayeeLine). payee.count) payees in
    let amount : handed (handed paid.amount +ℤ handed owed.amount) ≡ int_sum_by (λ (payee : PayeeLine). payee.total) payees =
    sum_is paid.amount owed.amount (2 ^ 80) (2 ^ 80) c.group_of-paid.ensures.small.amount c.group_of-owed.ensures.small.amount (omega arith)
    ∙ ((λ i. (paid_are i).amount +ℤ (owed_are i).amount) ∙ int_sum_by-filter_both (is_of false) (is_of true) either (λ (payee : PayeeLine). payee.total) payees) in
    λ i. record { payees = count i; portions = portions i; amount = amount i }
