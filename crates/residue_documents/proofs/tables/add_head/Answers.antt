use Rattle.std.proofs.Common.{append_assoc}
use Rattle.page_parts.proofs.Chains.{added, behind, chain}
use Rattle.residue_documents.proofs.tables.add_head.Goals as goal

pub returns : goal.returns
returns c =
    chain c.extend_from_slice-2.result _ _ (added _ _ _ c.extend_from_slice-2.ensures.items)
    (λ last. rw (
      behind c.extend_from_slice.new.self.items _ last,
      behind c.add.new.page.items _ c.in_ok-extend_from_slice.ensures.items,
      simp append_assoc at (behind c.args.page.now.items _ c.in_ok-add.ensures),
      c.as_bytes.ensures.value,
      c.open_heads.ensures,
      c.table_tag.ensures,
      c.count_of_sections.ensures,
    ))
