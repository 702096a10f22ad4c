use Rattle.std.proofs.Common.{◌∙◌}
use Rattle.page_parts.proofs.Chains.{behind, chain}
use Rattle.residue_documents.proofs.reasons.add_reasons.Goals as goal

pub returns : goal.returns
returns c =
    chain c.add_total.result _ _ c.add_total.ensures
    (λ last. behind c.add_row-4.new.page.items _ last _
    ∙ (behind c.add_row-3.new.page.items _ c.in_ok-add_row-4.ensures _
    ∙ (behind c.add_row-2.new.page.items _ c.in_ok-add_row-3.ensures _
    ∙ (behind c.add_row.new.page.items _ c.in_ok-add_row-2.ensures _
    ∙ (behind c.add_head.new.page.items _ c.in_ok-add_row.ensures _ ∙ behind c.args.page.now.items _ c.in_ok-add_head.ensures _)))))
