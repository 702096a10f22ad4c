use Rattle.std.proofs.Common.{◌≡◌, ◌∙◌, ◌++◌, [], append-nil, codes, sym}
use Rattle.page_parts.proofs.Chains.{behind}
use Rattle.page_parts.specs.Frame as frame
use Rattle.payee_documents.specs.Payees.{name_shown, payee_shown}
use Rattle.payee_documents.proofs.statement.page_of.Goals as goal

pub returns : goal.returns
returns c =
    let made = c.in_ok-add_breakdowns.ensures in
    let title = c.args.distribution.now.title.now in
    let words = codes "Royalty statement of " in
    let begun : c.begin_page.new.page.items ≡ [] ++ frame.head_text words (name_shown (payee_shown c.args.payee.now)) title =
    c.in_ok-begin_page.ensures ∙ (λ i. c.new-page.ensures.items i ++ frame.head_text words (c.name_of-name.ensures i) title) in record {
      shown = made.shown;
      others = made.others;
      lands = made.lands;
      text_is =
          sym (append-nil c.end_page.new.page.items)
          ∙ (behind c.add_notes.new.page.items _ c.in_ok-end_page.ensures _
          ∙ (behind c.add_uses_section.new.page.items _ c.in_ok-add_notes.ensures _
          ∙ (behind c.add_breakdowns.new.page.items _ c.in_ok-add_uses_section.ensures _
          ∙ (behind c.add_heads.new.page.items _ made.text _
          ∙ (behind c.begin_page.new.page.items _ c.in_ok-add_heads.ensures _
          ∙ behind [] _ begun _)))));
    }
