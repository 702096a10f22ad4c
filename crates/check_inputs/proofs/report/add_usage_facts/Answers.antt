use Rattle.std.proofs.Common.{◌≡◌, arith, codes, length}
use Rattle.usage_totals.specs.Repeats.{repeated_rows}
use Rattle.check_inputs.specs.Items.{tally_line}
use Rattle.check_inputs.specs.Messages.{fact_line, remark_line}
use Rattle.check_inputs.specs.Report.{if_none}
use Rattle.check_inputs.proofs.Telling.{three_behind}
use Rattle.check_inputs.proofs.report.add_usage_facts.Goals as goal

pub returns : goal.returns
returns c =
    let path = c.args.path.now in
    let lines = c.args.lines.now in
    let none : c.args.faults ≡ 0 = omega (arith, c.if-faults-gt0.false) in
    rw none
    (three_behind c.args.text.now.items c.add_fact.new.text.items c.add_remark_if_none.new.text.items c.add_tally.new.text.items
    (fact_line path (codes "usage lines") (length lines))
    (if_none (length lines) (remark_line path (codes "there are no usage lines")))
    (tally_line path (codes "rows that are the same as an earlier one") (codes "in row ") (repeated_rows lines))
    (rw c.len-count.ensures.lines at c.in_ok-add_fact.ensures)
    (rw c.len-count.ensures.lines at c.in_ok-add_remark_if_none.ensures)
    (c.in_ok-add_tally.ensures (repeated_rows lines) c.in_ok-repeated.ensures))
