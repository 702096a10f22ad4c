use Rattle.std.proofs.Common.{◌≡◌, ◌∙◌, ◌++◌, [], ap, arith, codes, int_lt, length, map, of_z, pos, rules, sym, to_z}
use Rattle.std.proofs.lemmas.Int.{to_z-of_z}
use Rattle.std.proofs.lemmas.List.{length-map}
use Rattle.std.proofs.lemmas.Result.{on_ok_weaker}
use mir.Syntax.{w128, w64}
use Rattle.page_parts.specs.Bars.{bars_text, row_shown}
use Rattle.payee_documents.specs.Breakdowns.{right_rows}
use Rattle.payee_documents.specs.Heads.{due_label_text}
use Rattle.payee_documents.proofs.Rows.{can_be_drawn, shown_small}
use Rattle.payee_portions.specs.Shown.{portion_shown, portions_shown}
use Rattle.payee_portions.specs.Sums.{sum_of}
use Rattle.payee_documents.proofs.breakdowns.add_rights.Goals as goal

pub add_bars-requires-clause-small : goal.add_bars-requires-clause-small
add_bars-requires-clause-small c = record {
  rows = rw c.as_slice.ensures.value (can_be_drawn (map row_shown c.in_ok-rows.rows.items) (shown_small c.in_ok-rows.rows.items c.in_ok-rows.ensures.small));
  others = omega arith;
}

pub returns : goal.returns
returns c =
    let portions = portions_shown c.args.portions.now in
    let rows : map row_shown c.as_slice.result.now ≡ right_rows portions = ap (map row_shown) c.as_slice.ensures.value ∙ c.in_ok-rows.ensures.rows in
    let amount : to_z w128 (of_z w128 c.from-total.result) ≡ sum_of portions =
    to_z-of_z w128 c.from-total.result (search rules) ∙ (c.from-total.ensures ∙ (to_z-of_z w64 c.sum_of.result (search rules) ∙ c.sum_of.ensures)) in
    let total : c.due_label.result.now ≡ due_label_text (int_lt (sum_of portions) (pos 0)) = c.due_label.ensures ∙ (λ i. due_label_text (int_lt (amount i) (pos 0))) in
    let count : length c.args.portions.now ≡ length portions = sym (length-map c.args.portions.now portion_shown) in
    on_ok_weaker c.add_bars.result
    (λ text. text ∙ (λ i. c.args.page.now.items ++ bars_text c.args.decimals record {
      caption = codes "By right";
      head = codes "Right";
      rows = rows i;
      rest = [];
      others = record { rows = 0; count = 0; amount = pos 0 };
      total = total i;
      count = count i;
      amount = amount i;
    })) c.add_bars.ensures
