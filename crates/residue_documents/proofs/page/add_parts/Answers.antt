use Rattle.std.proofs.Common.{◌∙◌, [], List, append-nil, sym}
use Rattle.std.proofs.lemmas.Result.{on_ok_weaker}
use Rattle.line_split.specs.declared.reason.Reason.{Reason}
use Rattle.line_split.specs.declared.reason.Reason.TheVariants.{Work, Land, Over, Open}
use Rattle.payee_portions.specs.Held.{AreByMoney}
use Rattle.payee_portions.specs.Portions.{Portion}
use Rattle.payee_portions.specs.Sections.{sections_of}
use Rattle.page_parts.proofs.Chains.{behind}
use Rattle.residue_documents.specs.Page.{Residue, residue_shown}
use Rattle.residue_documents.proofs.page.add_parts.Goals as goal

-- the orders of the works of each reason
abbrev by_reason : (work land over open_share : List (List Portion)) → Reason → List (List Portion)
by_reason work land over open_share Work = work
by_reason work land over open_share Land = land
by_reason work land over open_share Over = over
by_reason work land over open_share Open = open_share

all_by_money : (residue : Residue) (work land over open_share : List (List Portion)) → AreByMoney (sections_of (residue Work)) work
    → AreByMoney (sections_of (residue Land)) land → AreByMoney (sections_of (residue Over)) over → AreByMoney (sections_of (residue Open)) open_share
    → (reason : Reason) → AreByMoney (sections_of (residue reason)) (by_reason work land over open_share reason)
all_by_money residue work land over open_share w l o p Work = w
all_by_money residue work land over open_share w l o p Land = l
all_by_money residue work land over open_share w l o p Over = o
all_by_money residue work land over open_share w l o p Open = p

pub returns : goal.returns
returns c =
    let work = c.in_ok-add_part.ensures in
    let land = c.in_ok-add_part-2.ensures in
    let over = c.in_ok-add_part-3.ensures in
    on_ok_weaker c.add_part-4.result
    (λ last. record {
      ordered = by_reason work.ordered land.ordered over.ordered last.ordered;
      by_money = all_by_money (residue_shown c.args.residue.now) work.ordered land.ordered over.ordered last.ordered work.by_money land.by_money over.by_money last.by_money;
      text =
          sym (append-nil c.add_part-4.new.page.items)
          ∙ (behind c.add_part-3.new.page.items _ last.text []
          ∙ (behind c.add_part-2.new.page.items _ over.text _
          ∙ (behind c.add_part.new.page.items _ land.text _ ∙ behind c.args.page.now.items _ work.text _)));
    }) c.add_part-4.ensures
