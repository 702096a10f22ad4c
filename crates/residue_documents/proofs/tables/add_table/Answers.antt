use Rattle.std.proofs.Common.{◌≡◌, ◌∙◌, ◌≤◌, ◌++◌, List, ℕ, arith, flat_map, length, map}
use Rattle.std.proofs.lemmas.List.{take_all}
use Rattle.std.proofs.lemmas.Result.{on_ok_weaker}
use Rattle.payee_portions.specs.Money.{section_shown}
use Rattle.payee_portions.specs.Portions.{Portion}
use Rattle.page_parts.proofs.Chains.{behind}
use Rattle.residue_documents.specs.Tables.{section_text}
use Rattle.residue_documents.proofs.tables.add_table.Goals as goal

pub returns : goal.returns
returns c =
    let sections = c.in_ok-sections.sections.items in
    let text : List Portion → List ℕ = section_text c.args.names.now c.args.decimals c.args.reason in
    let before = c.add_head.new.page.items in
    let all : length sections ≤ c.loop-place.place = omega (arith, c.in_ok-sections.sections.ok.0) in
    let rows : c.loop-place.page.items ≡ before ++ flat_map text (map section_shown sections) =
    c.loop-place.invariant ∙ (λ i. before ++ flat_map text (map section_shown (take_all c.loop-place.place sections all i))) in
    on_ok_weaker c.add_total.result
    (λ last. record {
      ordered = map section_shown sections;
      by_money = c.in_ok-sections.ensures.ordered;
      text = last ∙ (behind before _ rows _ ∙ behind c.args.page.now.items _ c.in_ok-add_head.ensures _);
    }) c.add_total.ensures
