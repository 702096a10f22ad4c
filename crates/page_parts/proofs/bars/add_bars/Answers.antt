use Rattle.std.proofs.Common.{◌≡◌, ◌∙◌, ◌++◌, ◌==◌, [], append-nil, arith, flat_map, map, rules, sym, tests, true}
use Rattle.std.proofs.lemmas.Bool.{ne_eqb}
use Rattle.std.specs.Prelude.{if◌then◌else◌}
use Rattle.std.proofs.lemmas.List.{take_all}
use Rattle.page_parts.specs.Bars.{others_text, row_shown, row_text, scale_for, table_shown}
use Rattle.page_parts.proofs.Chains.{behind, chain}
use Rattle.page_parts.proofs.Scales.{row_within}
use Rattle.page_parts.proofs.bars.add_bars.Goals as goal
use Rattle.page_parts.proofs.bars.add_bars.Goals.{then-table-gt0+in_ok-add_others, else-table-gt0}

pub add_row-requires-clause-within : goal.add_row-requires-clause-within
add_row-requires-clause-within c = rw c.scale_of-scale.ensures.is (row_within c.args.table.now c.loop-place.place _ c.loop-place-test.true)

pub returns : goal.returns
returns c =
    let table = table_shown c.args.table.now in
    let scale = c.scale_of-scale.ensures.is in
    let before = c.add_head.new.page.items in
    let rows : c.loop-place.page.items ≡ before ++ flat_map (row_text c.args.decimals (scale_for table)) table.rows =
    c.loop-place.invariant ∙ (λ i. before ++ flat_map (row_text c.args.decimals (scale i)) (map row_shown (take_all c.loop-place.place c.args.table.now.rows.now c.loop-place-test.false i))) in
    let others : c.if-table-gt0.page.items
    ≡ c.loop-place.page.items ++ (if table.others.rows == 0 then [] else others_text c.args.decimals (scale_for table) table.rest table.others) =
    elim c.if-table-gt0.branch [
      | then-table-gt0+in_ok-add_others w ↦
          let some = sym (ne_eqb table.others.rows 0 (λ is. omega arith)) in
          rw w.page-is
          (w.in_ok-add_others.ensures ∙ (λ i. c.loop-place.page.items ++ (if (some i) then [] else others_text c.args.decimals (scale i) table.rest table.others)))
      | else-table-gt0 w ↦
          let none : (table.others.rows == 0) ≡ true = search (rules, tests) in
          rw (w.page-is, none) (sym (append-nil c.loop-place.page.items))
    ] in
    chain c.add_sums.result _ _ c.add_sums.ensures
    (λ last. behind c.if-table-gt0.page.items _ last _
    ∙ (behind c.loop-place.page.items _ others _ ∙ (behind before _ rows _ ∙ behind c.args.page.now.items _ c.in_ok-add_head.ensures _)))
