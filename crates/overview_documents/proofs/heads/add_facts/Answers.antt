use Rattle.std.proofs.Common.{◌∙◌}
use Rattle.page_parts.proofs.Chains.{added, behind, chain}
use Rattle.overview_documents.proofs.heads.add_facts.Goals as goal

pub returns : goal.returns
returns c =
    chain c.extend_from_slice-2.result _ _ (added _ _ _ c.extend_from_slice-2.ensures.items)
    (λ last. behind c.add_reversals.new.page.items _ last _
    ∙ (behind c.add_fact-2.new.page.items _ c.in_ok-add_reversals.ensures _
    ∙ (behind c.add_fact.new.page.items _ c.in_ok-add_fact-2.ensures _
    ∙ (behind c.extend_from_slice.new.self.items _ c.in_ok-add_fact.ensures _
    ∙ behind c.args.page.now.items _ c.in_ok-extend_from_slice.ensures.items _))))
