use Rattle.std.proofs.Common.{◌∙◌, ap}
use Rattle.page_parts.proofs.Chains.{added, behind, chain}
use Rattle.payee_documents.specs.Notes.{over_text, reversal_text}
use Rattle.payee_documents.proofs.Slices.{behind_slice}
use Rattle.payee_documents.proofs.notes.add_notes.Goals as goal

pub returns : goal.returns
returns c =
    let worked_out = behind c.args.page.now.items _ c.in_ok-add_worked_out.ensures in
    let over = behind_slice c.add_worked_out.new.page.items _ _ c.in_ok-extend_from_slice.ensures.items
    (c.as_bytes.ensures.value ∙ (c.over_note.ensures ∙ ap over_text c.is_any_over.ensures)) in
    let reversals = behind_slice c.extend_from_slice.new.self.items _ _ c.in_ok-extend_from_slice-2.ensures.items
    (c.as_bytes-2.ensures.value ∙ (c.reversal_note.ensures ∙ ap reversal_text c.count_of_reversals.ensures)) in
    chain c.extend_from_slice-3.result _ _ (added _ _ _ c.extend_from_slice-3.ensures.items)
    (λ last. behind_slice c.extend_from_slice-2.new.self.items _ _ last c.as_bytes-3.ensures.value _ ∙ (reversals _ ∙ (over _ ∙ worked_out _)))
