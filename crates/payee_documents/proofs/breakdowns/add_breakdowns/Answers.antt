use Rattle.std.proofs.Common.{◌∙◌, append-nil, sym}
use Rattle.std.proofs.lemmas.Result.{on_ok_weaker}
use Rattle.page_parts.proofs.Chains.{added, behind}
use Rattle.payee_documents.proofs.breakdowns.add_breakdowns.Goals as goal

pub returns : goal.returns
returns c =
    let made = c.in_ok-add_lands.ensures in
    on_ok_weaker c.extend_from_slice-3.result
    (λ last. record {
      shown = made.shown;
      others = made.others;
      lands = made.lands;
      text =
          sym (append-nil c.extend_from_slice-3.new.self.items)
          ∙ (behind c.add_lands.new.page.items _ last _
          ∙ (behind c.extend_from_slice-2.new.self.items _ made.text _
          ∙ (behind c.add_rights.new.page.items _ c.in_ok-extend_from_slice-2.ensures.items _
          ∙ (behind c.extend_from_slice.new.self.items _ c.in_ok-add_rights.ensures _
          ∙ behind c.args.page.now.items _ c.in_ok-extend_from_slice.ensures.items _))));
    }) (added _ _ _ c.extend_from_slice-3.ensures.items)
