use Rattle.std.proofs.Common.{◌≡◌, ◌∙◌, ◌≤◌, ◌++◌, ◌^◌, All, List, ap, arith, length, map, rules, subst, sym, unsigned_abs}
use Rattle.std.proofs.lemmas.Int.{to_z-of_z}
use Rattle.std.proofs.lemmas.List.{length-map}
use Rattle.std.proofs.lemmas.List.Elements.{All-map, All-weaker}
use Rattle.std.proofs.lemmas.Result.{on_ok_weaker}
use mir.Syntax.{w128}
use Rattle.page_parts.specs.Bars.{Row, others_shown, row_shown}
use Rattle.page_parts.specs.Shortened.{IsShortened}
use Rattle.page_parts.specs.declared.bars.BarRow.{BarRow}
use Rattle.page_parts.proofs.Shortening.{others_can_be_drawn, shown_can_be_drawn}
use Rattle.overview_documents.specs.Payees.{bar_row, largest_text, line_shown, lines_shown}
use Rattle.overview_documents.specs.declared.payees.PayeeLine as kept
use Rattle.overview_documents.proofs.Wide.{handed}
use Rattle.overview_documents.proofs.payees.add_largest.Goals as goal

-- there is a row for each payee
still_few : (list : List kept.PayeeLine) (rows : List Row) → length list ≤ 65536 → rows ≡ map bar_row (lines_shown list) → length rows ≤ 65536
still_few list rows few are = omega (arith, few, ap length are, length-map (lines_shown list) bar_row, length-map list line_shown)

still_small : (rows : List BarRow) → All (λ row. unsigned_abs row.amount ≤ 2 ^ 64) rows → All (λ row. unsigned_abs row.amount ≤ 2 ^ 64) (map row_shown rows)
still_small rows small = All-map (λ (row : Row). unsigned_abs row.amount ≤ 2 ^ 64) row_shown rows small

pub shorten-others-requires : goal.shorten-others-requires
shorten-others-requires c =
    let rows = c.in_ok-rows.rows.items in record {
      few = still_few c.args.payees.now (map row_shown rows) c.requires.few.few c.in_ok-rows.ensures.rows;
      counts = All-map (λ (row : Row). row.count ≤ 2 ^ 32) row_shown rows c.in_ok-rows.ensures.counts;
      amounts =
          All-weaker (λ (row : Row). unsigned_abs row.amount ≤ 2 ^ 64) (λ (row : Row). unsigned_abs row.amount ≤ 2 ^ 100) (λ row small. omega (arith, small))
          (map row_shown rows) (still_small rows c.in_ok-rows.ensures.small);
    }

pub add_bars-requires-clause-small : goal.add_bars-requires-clause-small
add_bars-requires-clause-small c =
    let rows = map row_shown c.in_ok-rows.rows.items in
    let shown = map row_shown c.shorten-others.new.rows.items in
    let others = others_shown c.shorten-others.result in
    let few = still_few c.args.payees.now rows c.requires.few.few c.in_ok-rows.ensures.rows in
    let small = still_small c.in_ok-rows.rows.items c.in_ok-rows.ensures.small in record {
      rows =
          subst (λ (l : List BarRow). All (λ row. unsigned_abs row.amount ≤ 2 ^ 100) (map row_shown l)) (sym c.as_slice.ensures.value)
          (shown_can_be_drawn 10 rows shown others few small c.shorten-others.ensures);
      others = others_can_be_drawn 10 rows shown others few small c.shorten-others.ensures;
    }

pub returns : goal.returns
returns c =
    let all = c.args.all in
    let shown = map row_shown c.shorten-others.new.rows.items in
    let others = others_shown c.shorten-others.result in
    let shown_are : map row_shown c.as_slice.result.now ≡ shown = ap (map row_shown) c.as_slice.ensures.value in
    let amount : handed all.amount ≡ all.amount = to_z-of_z w128 all.amount (search rules) in
    on_ok_weaker c.add_bars.result
    (λ last. record {
      shown = shown;
      others = others;
      shortened = subst (λ (rows : List Row). IsShortened 10 rows shown others) c.in_ok-rows.ensures.rows c.shorten-others.ensures;
      text =
          last
          ∙ (λ i. c.args.page.now.items
          ++ largest_text c.args.decimals (shown_are i) others record { payees = all.payees; portions = all.portions; amount = amount i });
    }) c.add_bars.ensures
