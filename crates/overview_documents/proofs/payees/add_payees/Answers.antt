use Rattle.std.proofs.Common.{◌≡◌, ◌∙◌, ◌++◌, flat_map}
use Rattle.std.proofs.lemmas.List.{take_all}
use Rattle.std.proofs.lemmas.Result.{IfOk-weaker}
use Rattle.page_parts.proofs.Chains.{behind}
use Rattle.overview_documents.specs.Payees.{lines_shown, payee_row_text}
use Rattle.overview_documents.proofs.payees.add_payees.Goals as goal

pub returns : goal.returns
returns c =
    let payees = c.args.payees.now in
    let before = c.add_head.new.page.items in
    let rows : c.loop-place.page.items ≡ before ++ flat_map (payee_row_text c.args.decimals) (lines_shown payees) =
    c.loop-place.invariant ∙ (λ i. before ++ flat_map (payee_row_text c.args.decimals) (lines_shown (take_all c.loop-place.place payees c.loop-place-test.false i))) in
    IfOk-weaker c.add_total.result _ _ (λ _ last. last ∙ (behind before _ rows _ ∙ behind c.args.page.now.items _ c.in_ok-add_head.ensures _)) c.add_total.ensures
