use Rattle.std.proofs.Common.{◌≡◌, ◌∙◌, ◌++◌, ◌∷◌, ◌==◌, [], ℕ, Bool, false, List, ap, append-nil, arith, codes, length, subst, sym}
use Rattle.std.specs.Prelude.{if◌then◌else◌}
use Rattle.std.proofs.lemmas.Bool.{eqb-true}
use Rattle.std.proofs.lemmas.List.{length-map, nil_from_length}
use Rattle.std.proofs.lemmas.List.Sorted.{IsPermutation-refl}
use Rattle.std.proofs.lemmas.Result.{on_ok_weaker}
use Rattle.line_split.specs.declared.reason.Reason.{Reason}
use Rattle.page_parts.specs.Pieces.{all_of}
use Rattle.payee_portions.specs.Held.{AreByMoney}
use Rattle.payee_portions.specs.Portions.{Portion}
use Rattle.payee_portions.specs.Sections.{sections_of}
use Rattle.payee_portions.specs.Shown.{portion_shown, portions_shown}
use Rattle.payee_portions.specs.declared.portion.Portion as kept
use Rattle.payee_portions.proofs.SectionsLeft.{no_section}
use Rattle.page_parts.proofs.Chains.{added, behind, chain}
use Rattle.residue_documents.specs.Page.{HasPart, part_head_text}
use Rattle.residue_documents.specs.Tables.{table_text}
use Rattle.residue_documents.proofs.parts.add_part.Goals as goal

-- no portions have no section
none_ordered : AreByMoney (sections_of []) []
none_ordered = subst (λ (sections : List (List Portion)). AreByMoney sections []) (sym no_section) record {
  same = IsPermutation-refl [];
  order = λ k d low high. absurd (omega (arith, high));
}

no_part : (names : List (ℕ × List ℕ)) (decimals : ℕ) (reason : Reason) (list : List kept.Portion) (page : List ℕ) → list ≡ []
    → HasPart names decimals reason (portions_shown list) page page
no_part names decimals reason list page none =
    subst (λ (l : List kept.Portion). HasPart names decimals reason (portions_shown l) page page) (sym none)
    record { ordered = []; by_money = none_ordered; text = sym (append-nil page) }

pub returns-then-is_empty : goal.returns-then-is_empty
returns-then-is_empty c =
    let list = c.args.list.now in
    no_part c.args.names.now c.args.decimals c.args.reason list c.args.page.now.items (nil_from_length list (eqb-true (length list) 0 (sym c.if-is_empty.ensures)))

pub returns : goal.returns
returns c =
    let list = portions_shown c.args.list.now in
    let page = c.args.page.now.items in
    let table = c.in_ok-add_table.ensures in
    let whole = all_of (
    part_head_text c.args.reason ∷ table_text c.args.names.now c.args.decimals c.args.reason list table.ordered
    ∷ codes "</section>\n" ∷ []) in
    let some : false ≡ (length list == 0) = c.if-is_empty.ensures ∙ ap (λ (n : ℕ). n == 0) (sym (length-map c.args.list.now portion_shown)) in
    on_ok_weaker c.extend_from_slice.result
    (λ is. record {
      ordered = table.ordered;
      by_money = table.by_money;
      text = is ∙ ap (λ (none : Bool). page ++ (if none then [] else whole)) some;
    })
    (chain c.extend_from_slice.result _ (page ++ whole) (added _ _ _ c.extend_from_slice.ensures.items)
    (λ last. behind c.add_table.new.page.items _ last _
    ∙ (behind c.add_part_head.new.page.items _ table.text _ ∙ behind page _ c.in_ok-add_part_head.ensures _)))
