use Rattle.std.proofs.Common.{append_assoc, rules}
use Rattle.std.proofs.lemmas.Int.{to_z-of_z}
use mir.Syntax.{w64}
use Rattle.page_parts.proofs.Chains.{added, behind, chain}
use Rattle.page_parts.proofs.cells.add_line_cells.Goals as goal

pub returns : goal.returns
returns c =
    chain c.extend_from_slice-3.result _ _ (added _ _ _ c.extend_from_slice-3.ensures.items)
    (λ last. rw (
      behind c.extend_from_slice-2.new.self.items _ last,
      behind c.extend_from_slice.new.self.items _ c.in_ok-extend_from_slice-2.ensures.items,
      behind c.add_land.new.page.items _ c.in_ok-extend_from_slice.ensures.items,
      behind c.add.new.page.items _ c.in_ok-add_land.ensures,
      simp append_assoc at (behind c.args.page.now.items _ c.in_ok-add.ensures),
      c.row_tag.ensures,
      c.reversal_mark.ensures,
      c.as_bytes.ensures.value,
      c.right_name.ensures,
      to_z-of_z w64 c.args.line.now.amount (search rules),
    ))
