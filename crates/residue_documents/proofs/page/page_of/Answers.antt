use Rattle.std.proofs.Common.{◌≡◌, ◌∙◌, ◌++◌, [], ℕ, List, ap, append-nil, codes, sym}
use Rattle.page_parts.specs.Frame.{head_text}
use Rattle.page_parts.proofs.Chains.{behind}
use Rattle.residue_documents.specs.Page.{later_text, residue_shown, residue_sums}
use Rattle.residue_documents.specs.Reasons.{lines_in}
use Rattle.residue_documents.proofs.page.page_of.Goals as goal

pub returns : goal.returns
returns c =
    let head = head_text (codes "Residue") [] c.args.distribution.now.title.now in
    let parts = c.in_ok-add_parts.ensures in
    let lines : c.lines_of.result ≡ lines_in (residue_sums (residue_shown c.args.residue.now)) = c.lines_of.ensures ∙ ap lines_in c.sums_of.ensures.sums in
    let begun : c.begin_page.new.page.items ≡ head = c.in_ok-begin_page.ensures ∙ ap (λ (l : List ℕ). l ++ head) c.new-page.ensures.items in
    let later : c.extend_from_slice.new.self.items ≡ c.add_parts.new.page.items ++ later_text (lines_in (residue_sums (residue_shown c.args.residue.now))) =
    c.in_ok-extend_from_slice.ensures.items
    ∙ ap (λ (l : List ℕ). c.add_parts.new.page.items ++ l) (c.as_bytes.ensures.value ∙ (c.later.ensures ∙ ap later_text lines)) in record {
      ordered = parts.ordered;
      by_money = parts.by_money;
      text_is =
          sym (append-nil c.end_page.new.page.items)
          ∙ (behind c.extend_from_slice.new.self.items _ c.in_ok-end_page.ensures []
          ∙ (behind c.add_parts.new.page.items _ later _
          ∙ (behind c.add_page_head.new.page.items _ parts.text _
          ∙ (behind c.begin_page.new.page.items _ c.in_ok-add_page_head.ensures _ ∙ behind [] head begun _))));
    }
