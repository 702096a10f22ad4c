use Rattle.std.proofs.Common.{◌∙◌}
use Rattle.page_parts.proofs.Chains.{added, behind, chain}
use Rattle.overview_documents.proofs.balance.add_balance.Goals as goal

pub returns : goal.returns
returns c =
    chain c.extend_from_slice-2.result _ _ (added _ _ _ c.extend_from_slice-2.ensures.items)
    (λ last. behind c.add_out.new.page.items _ last _
    ∙ (behind c.add_in.new.page.items _ c.in_ok-add_out.ensures _
    ∙ (behind c.extend_from_slice.new.self.items _ c.in_ok-add_in.ensures _ ∙ behind c.args.page.now.items _ c.in_ok-extend_from_slice.ensures.items _)))
