use Rattle.std.proofs.Common.{[], codes, not}
use Rattle.std.specs.Prelude.{◌==◌, ◌&&◌, if◌then◌else◌, nat_lt}
use Rattle.check_inputs.specs.Items.{ranked_text}
use Rattle.check_inputs.specs.Messages.{remark_line}
use Rattle.check_inputs.specs.Report.{open_line, reasons_text, territory_line, work_line}
use Rattle.check_inputs.proofs.Telling.{six_behind}
use Rattle.check_inputs.proofs.summary.add_totals.Goals as goal

pub returns : goal.returns
returns c =
    let totals = c.args.totals.now in
    let usage = c.args.usage.now in
    let lines = c.args.lines in
    six_behind c.args.text.now.items c.add_reasons.new.text.items c.add_works.new.text.items c.add_territories.new.text.items c.add_open_works.new.text.items
    c.add_remark_if_any.new.text.items c.add_remark_if_any-2.new.text.items
    (reasons_text usage totals)
    (ranked_text (work_line usage) usage (codes "further works that are not registered") totals.works)
    (ranked_text (territory_line usage) usage (codes "further territories that are not in the table") totals.territories)
    (ranked_text (open_line usage) usage (codes "further works that are not claimed in full") totals.left_open)
    (if nat_lt 0 lines && (totals.unregistered.lines == lines) then remark_line c.args.registrations.now (codes "it has the work of no usage line") else [])
    (if nat_lt 0 lines && not totals.knows_a_territory then remark_line c.args.territories.now (codes "it has the territory of no usage line") else [])
    c.in_ok-add_reasons.ensures c.in_ok-add_works.ensures c.in_ok-add_territories.ensures c.in_ok-add_open_works.ensures
    c.in_ok-add_remark_if_any.ensures c.in_ok-add_remark_if_any-2.ensures
