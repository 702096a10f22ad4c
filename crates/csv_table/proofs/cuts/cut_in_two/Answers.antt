use Rattle.std.proofs.Common.{◌≡◌, ◌+◌, ◌-◌, ◌/◌, ◌<◌, ◌∙◌, arith, length, sym}
use Rattle.std.specs.Prelude.{drop}
use Rattle.std.proofs.lemmas.Bool.{eqb-true}
use Rattle.std.proofs.lemmas.List.{get_or-drop, get_or-take, length-drop, length-take-le}
use Rattle.csv_table.proofs.RowParts.{rows_in_two}
use Rattle.csv_table.proofs.cuts.cut_in_two.Goals as goal

pub returns : goal.returns
returns c =
    let text = c.args.text.now in
    let middle = length text / 2 in
    let feed = c.in_ok-feed.feed in
    let rest = length text - middle in
    let found = c.in_ok-feed.ensures in
    let long : length (drop middle text) ≡ rest = length-drop middle text in
    let high : feed < rest = omega (arith, found.0.high, length-take-le rest (drop middle text) (omega (arith, long))) in
    rows_in_two text (middle + feed) (omega (arith, high))
    (sym (get_or-drop middle text feed 0) ∙ (sym (get_or-take rest (drop middle text) feed 0 high) ∙ eqb-true _ 10 found.1))
    (c.begins_as_a_mark.ensures c.if-begins_as_a_mark.false)
