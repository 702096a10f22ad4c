use Rattle.std.proofs.Common.{append_assoc}
use Rattle.page_parts.proofs.Chains.{added, behind, chain}
use Rattle.payee_documents.proofs.statement.add_uses_section.Goals as goal

pub returns : goal.returns
returns c =
    chain c.extend_from_slice.result _ _ (added _ _ _ c.extend_from_slice.ensures.items)
    (λ last. rw (
      behind c.add_uses.new.page.items _ last,
      behind c.add.new.page.items _ c.in_ok-add_uses.ensures,
      simp append_assoc at (behind c.args.page.now.items _ c.in_ok-add.ensures),
    ))
