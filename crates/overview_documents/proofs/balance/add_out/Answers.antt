use Rattle.std.proofs.Common.{◌≡◌, ◌∙◌, ◌+◌, ◌+ℤ◌, ◌++◌, ◌^◌, ℕ, List, ap, arith, codes, false, rules, true}
use Rattle.std.proofs.lemmas.Int.{to_z-of_z}
use mir.Syntax.{w128}
use Rattle.page_parts.proofs.Chains.{behind, chain}
use Rattle.residue_documents.specs.Reasons.{amount_in, lines_in, sums_shown}
use Rattle.overview_documents.specs.Balance.{out_row_text, residue_row_text, total_row_text}
use Rattle.overview_documents.specs.Payees.{group_of, lines_shown}
use Rattle.overview_documents.specs.declared.balance.TheConstants.{OUT_HEAD}
use Rattle.overview_documents.proofs.Wide.{both_fit, handed, reasons_small, third_fits, third_is}
use Rattle.overview_documents.proofs.balance.add_out.Goals as goal

pub overflow_add-amount : goal.overflow_add-amount
overflow_add-amount c =
    both_fit c.group_of-paid.result.amount c.group_of-owed.result.amount (2 ^ 80) (2 ^ 80) c.group_of-paid.ensures.small.amount c.group_of-owed.ensures.small.amount
    (omega arith)

pub overflow_add-amount-2 : goal.overflow_add-amount-2
overflow_add-amount-2 c =
    let residue = c.args.overview.now.residue in
    let held : handed c.amount_of.result ≡ amount_in (sums_shown residue) = to_z-of_z w128 c.amount_of.result (search rules) ∙ c.amount_of.ensures in
    third_fits c.group_of-paid.result.amount c.group_of-owed.result.amount (handed c.amount_of.result) (2 ^ 80) (2 ^ 80) (2 ^ 63 + 2 ^ 63 + 2 ^ 63 + 2 ^ 63)
    c.group_of-paid.ensures.small.amount c.group_of-owed.ensures.small.amount (reasons_small residue (handed c.amount_of.result) c.requires.few.residue held)
    (omega arith)

pub returns : goal.returns
returns c =
    let decimals = c.args.decimals in
    let page = c.args.page.now.items in
    let residue = c.args.overview.now.residue in
    let payees = lines_shown c.args.overview.now.payees.now in
    let paid = c.group_of-paid.result in
    let owed = c.group_of-owed.result in
    let paid_are = c.group_of-paid.ensures.group in
    let owed_are = c.group_of-owed.ensures.group in
    let held : handed c.amount_of.result ≡ amount_in (sums_shown residue) = to_z-of_z w128 c.amount_of.result (search rules) ∙ c.amount_of.ensures in
    let count : paid.portions + owed.portions + c.lines_of.result
    ≡ (group_of false payees).portions + (group_of true payees).portions + lines_in (sums_shown residue) =
    λ i. (paid_are i).portions + (owed_are i).portions + c.lines_of.ensures i in
    let amount : handed (handed (handed paid.amount +ℤ handed owed.amount) +ℤ handed (handed c.amount_of.result))
    ≡ (group_of false payees).amount +ℤ (group_of true payees).amount +ℤ amount_in (sums_shown residue) =
    third_is paid.amount owed.amount (handed c.amount_of.result) (2 ^ 80) (2 ^ 80) (2 ^ 63 + 2 ^ 63 + 2 ^ 63 + 2 ^ 63) c.group_of-paid.ensures.small.amount
    c.group_of-owed.ensures.small.amount (reasons_small residue (handed c.amount_of.result) c.requires.few.residue held) (omega arith)
    ∙ (λ i. (paid_are i).amount +ℤ (owed_are i).amount +ℤ held i) in
    let start = c.extend_from_slice.new.self.items in
    let paid_page = c.add_out_row.new.page.items in
    let owed_page = c.add_out_row-2.new.page.items in
    let held_page = c.add_residue_row.new.page.items in
    let headed : start ≡ page ++ OUT_HEAD.now = c.in_ok-extend_from_slice.ensures.items ∙ ap (λ (l : List ℕ). page ++ l) c.as_bytes.ensures.value in
    let paid_row : paid_page ≡ start ++ out_row_text decimals (codes "Payable to payees: ") (group_of false payees) =
    c.in_ok-add_out_row.ensures ∙ (λ i. start ++ out_row_text decimals (codes "Payable to payees: ") (paid_are i)) in
    let owed_row : owed_page ≡ paid_page ++ out_row_text decimals (codes "Owed by payees: ") (group_of true payees) =
    c.in_ok-add_out_row-2.ensures ∙ (λ i. paid_page ++ out_row_text decimals (codes "Owed by payees: ") (owed_are i)) in
    let held_row : held_page
    ≡ owed_page ++ residue_row_text decimals record { payees = 0; portions = lines_in (sums_shown residue); amount = amount_in (sums_shown residue) } =
    c.in_ok-add_residue_row.ensures ∙ (λ i. owed_page ++ residue_row_text decimals record { payees = 0; portions = c.lines_of.ensures i; amount = held i }) in
    chain c.add_total_row.result _ _ c.add_total_row.ensures
    (λ last. behind held_page _ (last ∙ (λ i. held_page ++ total_row_text decimals (codes "Payees and residue") (count i) (amount i))) _
    ∙ (behind owed_page _ held_row _ ∙ (behind paid_page _ owed_row _ ∙ (behind start _ paid_row _ ∙ behind page _ headed _))))
