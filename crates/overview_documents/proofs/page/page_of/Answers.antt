use Rattle.std.proofs.Common.{◌≡◌, ◌∙◌, ◌++◌, [], ℕ, List, ap, append-nil, codes, sym}
use Rattle.page_parts.specs.Frame.{head_text}
use Rattle.page_parts.proofs.Chains.{behind}
use Rattle.overview_documents.specs.Heads.{all_payees}
use Rattle.overview_documents.specs.Overviews.{overview_shown}
use Rattle.overview_documents.specs.Payees.{largest_text, payees_text}
use Rattle.overview_documents.specs.declared.page.TheConstants.{RESIDUE_HEAD}
use Rattle.overview_documents.proofs.page.page_of.Goals as goal

pub returns : goal.returns
returns c =
    let decimals = c.args.distribution.now.decimals in
    let overview = overview_shown c.args.overview.now in
    let all = c.in_ok-all.ensures.all in
    let head = head_text (codes "Overview") [] c.args.distribution.now.title.now in
    let largest = c.in_ok-add_largest.ensures in
    let balance = c.add_balance.new.page.items in
    let before_largest = c.extend_from_slice-2.new.self.items in
    let before_payees = c.extend_from_slice-3.new.self.items in
    let begun : c.begin_page.new.page.items ≡ head = c.in_ok-begin_page.ensures ∙ ap (λ (l : List ℕ). l ++ head) c.new-page.ensures.items in
    let headed : c.extend_from_slice.new.self.items ≡ balance ++ RESIDUE_HEAD.now =
    c.in_ok-extend_from_slice.ensures.items ∙ ap (λ (l : List ℕ). balance ++ l) c.as_bytes.ensures.value in
    let largest_are : c.add_largest.new.page.items ≡ before_largest ++ largest_text decimals largest.shown largest.others (all_payees overview) =
    largest.text ∙ (λ i. before_largest ++ largest_text decimals largest.shown largest.others (all i)) in
    let payees_are : c.add_payees.new.page.items ≡ before_payees ++ payees_text decimals overview.payees (all_payees overview) =
    c.in_ok-add_payees.ensures ∙ (λ i. before_payees ++ payees_text decimals overview.payees (all i)) in record {
      shown = largest.shown;
      others = largest.others;
      largest = largest.shortened;
      text_is =
          sym (append-nil c.end_page.new.page.items)
          ∙ (behind c.extend_from_slice-4.new.self.items _ c.in_ok-end_page.ensures []
          ∙ (behind c.add_payees.new.page.items _ c.in_ok-extend_from_slice-4.ensures.items _
          ∙ (behind before_payees _ payees_are _
          ∙ (behind c.add_largest.new.page.items _ c.in_ok-extend_from_slice-3.ensures.items _
          ∙ (behind before_largest _ largest_are _
          ∙ (behind c.add_reasons.new.page.items _ c.in_ok-extend_from_slice-2.ensures.items _
          ∙ (behind c.extend_from_slice.new.self.items _ c.in_ok-add_reasons.ensures _
          ∙ (behind balance _ headed _
          ∙ (behind c.add_heads.new.page.items _ c.in_ok-add_balance.ensures _
          ∙ (behind c.begin_page.new.page.items _ c.in_ok-all.ensures.text _ ∙ behind [] head begun _))))))))));
    }
