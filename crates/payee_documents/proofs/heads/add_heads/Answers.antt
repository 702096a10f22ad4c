use Rattle.std.proofs.Common.{◌∙◌}
use Rattle.page_parts.proofs.Chains.{added, behind, chain}
use Rattle.payee_documents.proofs.heads.add_heads.Goals as goal

pub returns : goal.returns
returns c =
    chain c.extend_from_slice.result _ _ (added _ _ _ c.extend_from_slice.ensures.items)
    (λ last. behind c.add_lead.new.page.items _ last _
    ∙ (behind c.add_due.new.page.items _ c.in_ok-add_lead.ensures _
    ∙ (behind c.add_facts.new.page.items _ c.in_ok-add_due.ensures _
    ∙ (behind c.add_title.new.page.items _ c.in_ok-add_facts.ensures _
    ∙ behind c.args.page.now.items _ c.in_ok-add_title.ensures _))))
