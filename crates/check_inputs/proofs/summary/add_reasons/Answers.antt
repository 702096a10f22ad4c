use Rattle.std.proofs.Common.{codes, []}
use Rattle.check_inputs.specs.Messages.{total_line}
use Rattle.check_inputs.specs.Report.{divided_line}
use Rattle.check_inputs.proofs.Telling.{four_behind}
use Rattle.check_inputs.proofs.summary.add_reasons.Goals as goal

pub returns : goal.returns
returns c =
    let path = c.args.path.now in
    let totals = c.args.totals.now in
    four_behind c.args.text.now.items c.add_divided.new.text.items c.add_total.new.text.items c.add_total-2.new.text.items c.add_total-3.new.text.items
    (divided_line path totals)
    (total_line path (codes "WORK, not registered") totals.unregistered [])
    (total_line path (codes "LAND, territory not in the table") totals.unknown [])
    (total_line path (codes "OVER, claims over 100.06 per cent") totals.claimed_over []) c.in_ok-add_divided.ensures c.in_ok-add_total.ensures c.in_ok-add_total-2.ensures c.in_ok-add_total-3.ensures
