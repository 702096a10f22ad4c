use Rattle.std.proofs.Common.{◌≡◌, ◌∙◌, ◌++◌, ℕ, ℤ, List, ap, codes, rules, w64}
use Rattle.std.proofs.lemmas.Int.{to_z-of_z}
use mir.Syntax.{w128}
use Rattle.page_parts.proofs.Chains.{behind, chain}
use Rattle.overview_documents.specs.Balance.{total_row_text}
use Rattle.overview_documents.specs.declared.balance.TheConstants.{IN_HEAD}
use Rattle.overview_documents.proofs.Wide.{handed}
use Rattle.overview_documents.proofs.balance.add_in.Goals as goal

pub returns : goal.returns
returns c =
    let page = c.args.page.now.items in
    let lines = c.args.overview.now.lines in
    let before = c.add_in_row-3.new.page.items in
    let amount : handed c.from.result ≡ lines.amount =
    to_z-of_z w128 c.from.result (search rules) ∙ (c.from.ensures ∙ to_z-of_z w64 lines.amount (search rules)) in
    let headed : c.extend_from_slice.new.self.items ≡ page ++ IN_HEAD.now =
    c.in_ok-extend_from_slice.ensures.items ∙ ap (λ (l : List ℕ). page ++ l) c.as_bytes.ensures.value in
    chain c.add_total_row.result _ _ c.add_total_row.ensures
    (λ last. behind before _ (last ∙ ap (λ (sum : ℤ). before ++ total_row_text c.args.decimals (codes "Usage money") lines.lines sum) amount) _
    ∙ (behind c.add_in_row-2.new.page.items _ c.in_ok-add_in_row-3.ensures _
    ∙ (behind c.add_in_row.new.page.items _ c.in_ok-add_in_row-2.ensures _
    ∙ (behind c.extend_from_slice.new.self.items _ c.in_ok-add_in_row.ensures _ ∙ behind page _ headed _))))
