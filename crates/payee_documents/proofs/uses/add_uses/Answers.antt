use Rattle.std.proofs.Common.{◌≡◌, ◌∙◌, ◌<◌, ◌+◌, ◌-◌, ◌++◌, [], ℕ, List, ap, append-nil, arith, drop, flat_map, length, length-drop, sym}
use Rattle.std.proofs.lemmas.Result.{on_ok_weaker}
use Rattle.std.proofs.lemmas.List.{drop-drop, drop_all}
use Rattle.page_parts.proofs.Chains.{behind}
use Rattle.payee_documents.specs.Uses.{section_text}
use Rattle.payee_portions.specs.Portions as portions
use Rattle.payee_portions.specs.Sections.{section_length, sections_of}
use Rattle.payee_portions.specs.Shown.{portions_shown}
use Rattle.payee_portions.specs.declared.portion.Portion.{Portion}
use Rattle.payee_portions.proofs.SectionsLeft.{no_section, section_more}
use Rattle.payee_documents.proofs.uses.add_uses.Goals as goal

pub loop-from-preserved : goal.loop-from-preserved
loop-from-preserved c =
    let list = c.args.portions.now in
    let from = c.loop-from.from in
    let end = c.end_of_section-end.result in
    let left = drop from list in
    let size = end - from in
    let text : List portions.Portion → List ℕ = section_text c.args.names.now c.args.decimals in
    let next = c.add_section.new.page.items in
    let some : 0 < length left = omega (arith, length-drop from list, c.loop-from-test.true) in
    let is : size ≡ section_length (portions_shown left) = omega (arith, c.end_of_section-end.ensures.end) in
    let whole : from + size ≡ end = omega (arith, c.end_of_section-end.ensures.some) in
    let rest : drop size left ≡ drop end list = drop-drop size from list ∙ ap (λ (n : ℕ). drop n list) whole in record {
      left =
          ap (λ (l : List Portion). next ++ flat_map text (sections_of (portions_shown l))) (sym rest)
          ∙ (section_more text left size c.loop-from.page.items next some is c.in_ok-add_section.ensures ∙ c.loop-from.invariant.left);
      within = c.end_of_section-end.ensures.within;
    }

pub returns : goal.returns
returns c =
    let list = c.args.portions.now in
    let page = c.loop-from.page.items in
    let before = c.add_head.new.page.items in
    let text : List portions.Portion → List ℕ = section_text c.args.names.now c.args.decimals in
    let all = flat_map text (sections_of (portions_shown list)) in
    let none : sections_of (portions_shown (drop c.loop-from.from list)) ≡ [] =
    ap (λ (l : List Portion). sections_of (portions_shown l)) (drop_all c.loop-from.from list c.loop-from-test.false) ∙ no_section in
    let done : page ≡ before ++ all =
    sym (append-nil page) ∙ (ap (λ (sections : List (List portions.Portion)). page ++ flat_map text sections) (sym none) ∙ c.loop-from.invariant.left) in
    on_ok_weaker c.add_total.result
    (λ last. last ∙ (behind before all done _ ∙ behind c.args.page.now.items _ c.in_ok-add_head.ensures _)) c.add_total.ensures
