use Rattle.std.proofs.Common.{codes, ◌-◌}
use Rattle.check_inputs.proofs.Telling.{three_behind}
use Rattle.check_inputs.specs.Messages.{fact_line, remark_line}
use Rattle.check_inputs.specs.Report.{if_none}
use Rattle.check_inputs.proofs.submitted_files.add_file_numbers.Goals as goal

pub returns : goal.returns
returns c =
    let path = c.args.path.now in
    three_behind c.args.text.now.items c.add_fact.new.text.items c.add_fact-2.new.text.items c.add_remark_if_none.new.text.items
    (fact_line path (codes "registrations in force") c.args.in_force)
    (fact_line path (codes "registrations replaced by later ones") (c.args.registrations - c.args.in_force))
    (if_none c.args.registrations (remark_line path (codes "no line is an NWR or REV")))
    c.in_ok-add_fact.ensures
    (rw c.saturating_sub.ensures at c.in_ok-add_fact-2.ensures)
    c.in_ok-add_remark_if_none.ensures
