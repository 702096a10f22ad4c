use Rattle.std.proofs.Common.{append_assoc, rules}
use Rattle.std.proofs.lemmas.List.{length-map}
use Rattle.std.proofs.lemmas.Int.{to_z-of_z}
use mir.Syntax.{w128, w64}
use Rattle.payee_portions.specs.Shown.{portion_shown}
use Rattle.page_parts.proofs.Chains.{added, behind, chain}
use Rattle.payee_documents.proofs.heads.add_due.Goals as goal

pub returns : goal.returns
returns c =
    chain c.extend_from_slice-2.result _ _ (added _ _ _ c.extend_from_slice-2.ensures.items)
    (λ last. rw (
      behind c.end_figure.new.page.items _ last,
      behind c.add.new.page.items _ c.in_ok-end_figure.ensures,
      simp append_assoc at (behind c.begin_figure.new.page.items _ c.in_ok-add.ensures),
      behind c.extend_from_slice.new.self.items _ c.in_ok-begin_figure.ensures,
      behind c.args.page.now.items _ c.in_ok-extend_from_slice.ensures.items,
      c.as_bytes.ensures.value,
      c.debt_note.ensures,
      c.due_label.ensures,
      c.count_of_sections.ensures,
      length-map c.args.portions.now portion_shown,
      to_z-of_z w128 c.from-total.result (search rules),
      c.from-total.ensures,
      to_z-of_z w64 c.sum_of.result (search rules),
      c.sum_of.ensures,
    ))
