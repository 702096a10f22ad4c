use Rattle.std.proofs.Common.{◌≡◌, ◌∙◌, ◌++◌, ◌≤◌, ◌^◌, List, ap, arith, codes, int_lt, length, map, of_z, pos, rules, subst, sym, to_z}
use Rattle.std.proofs.lemmas.Int.{to_z-of_z}
use Rattle.std.proofs.lemmas.List.{length-map}
use Rattle.std.proofs.lemmas.List.Elements.{All-weaker}
use Rattle.std.proofs.lemmas.Result.{on_ok_weaker}
use mir.Syntax.{w128, w64}
use Rattle.line_split.specs.declared.TheConstants.{MOST_LINES}
use Rattle.page_parts.specs.Bars.{Row, bars_text, others_shown, row_shown}
use Rattle.page_parts.specs.Shortened.{IsShortened}
use Rattle.page_parts.proofs.Shortening.{others_can_be_drawn, shown_can_be_drawn}
use Rattle.payee_documents.specs.Breakdowns.{land_row}
use Rattle.payee_documents.specs.Heads.{due_label_text}
use Rattle.payee_documents.proofs.Rows.{can_be_drawn, few_rows, shown_counts, shown_small}
use Rattle.payee_portions.specs.Shown.{portion_shown, portions_shown}
use Rattle.payee_portions.specs.Sums.{sum_of}
use Rattle.payee_documents.proofs.breakdowns.add_lands.Goals as goal

pub shorten-others-requires : goal.shorten-others-requires
shorten-others-requires c =
    let rows = map row_shown c.in_ok-rows.rows.items in
    let land = land_row c.args.names.now (portions_shown c.args.portions.now) in record {
      few = few_rows land rows c.in_ok-codes.codes.items c.in_ok-codes.ensures.rising c.as_slice.ensures.value c.in_ok-texts.ensures.fit
          c.as_slice-2.ensures.value c.in_ok-rows.ensures.rows;
      counts =
          All-weaker (λ (row : Row). row.count ≤ MOST_LINES) (λ (row : Row). row.count ≤ 2 ^ 32) (λ row at_most. omega (arith, at_most)) rows
          (shown_counts MOST_LINES c.in_ok-rows.rows.items c.in_ok-rows.ensures.counts);
      amounts = can_be_drawn rows (shown_small c.in_ok-rows.rows.items c.in_ok-rows.ensures.small);
    }

pub add_bars-requires-clause-small : goal.add_bars-requires-clause-small
add_bars-requires-clause-small c =
    let rows = map row_shown c.in_ok-rows.rows.items in
    let shown = map row_shown c.shorten-others.new.rows.items in
    let others = others_shown c.shorten-others.result in
    let land = land_row c.args.names.now (portions_shown c.args.portions.now) in
    let few : length rows ≤ 65536 =
    few_rows land rows c.in_ok-codes.codes.items c.in_ok-codes.ensures.rising c.as_slice.ensures.value c.in_ok-texts.ensures.fit c.as_slice-2.ensures.value c.in_ok-rows.ensures.rows in
    let small = shown_small c.in_ok-rows.rows.items c.in_ok-rows.ensures.small in record {
      rows = rw c.as_slice-4.ensures.value (shown_can_be_drawn 8 rows shown others few small c.shorten-others.ensures);
      others = others_can_be_drawn 8 rows shown others few small c.shorten-others.ensures;
    }

pub returns : goal.returns
returns c =
    let portions = portions_shown c.args.portions.now in
    let shown = map row_shown c.shorten-others.new.rows.items in
    let others = others_shown c.shorten-others.result in
    let land = land_row c.args.names.now portions in
    let same : map row_shown c.in_ok-rows.rows.items ≡ map land c.in_ok-codes.codes.items =
    c.in_ok-rows.ensures.rows ∙ ap (map land) c.as_slice-2.ensures.value in
    let amount : to_z w128 (of_z w128 c.from-total.result) ≡ sum_of portions =
    to_z-of_z w128 c.from-total.result (search rules) ∙ (c.from-total.ensures ∙ (to_z-of_z w64 c.sum_of.result (search rules) ∙ c.sum_of.ensures)) in
    let total : c.due_label.result.now ≡ due_label_text (int_lt (sum_of portions) (pos 0)) = c.due_label.ensures ∙ (λ i. due_label_text (int_lt (amount i) (pos 0))) in
    let count : length c.args.portions.now ≡ length portions = sym (length-map c.args.portions.now portion_shown) in
    on_ok_weaker c.add_bars.result
    (λ text. record {
      shown = shown;
      others = others;
      lands = record {
        territories = c.in_ok-codes.codes.items;
        are = c.in_ok-codes.ensures;
        shortened = subst (λ (rows : List Row). IsShortened 8 rows shown others) same c.shorten-others.ensures;
      };
      text = text ∙ (λ i. c.args.page.now.items ++ bars_text c.args.decimals record {
        caption = codes "By territory";
        head = codes "Territory";
        rows = map row_shown (c.as_slice-4.ensures.value i);
        rest = codes "other territories";
        others = others;
        total = total i;
        count = count i;
        amount = amount i;
      });
    }) c.add_bars.ensures
