use Rattle.std.proofs.Common.{◌∙◌, subst, sym}
use Rattle.std.specs.Prelude.{Bool}
use Rattle.std.proofs.lemmas.Result.{IfOk-weaker}
use Rattle.run_inputs.specs.Inputs.{map_inputs}
use Rattle.check_inputs.specs.Checked.{IsReportOn, bytes_of, path_of}
use Rattle.check_inputs.specs.Found.{AreTotalsIfSound, Found, IsFoundIn}
use Rattle.check_inputs.specs.declared.report.Checked.{Checked}
use Rattle.check_inputs.specs.declared.report.Sheet.{Sheet}
use Rattle.cwr_share.specs.Lines.{lines_of}
use Rattle.check_inputs.proofs.Reporting.{put_together, sound_of_four, sound_without}
use Rattle.check_inputs.proofs.report.check.Goals as goal

pub territories_remark-requires : goal.territories_remark-requires
territories_remark-requires c none =
    let (of_cwr, is_cwr, so_many, third) = c.in_ok-registry.ensures in
    sound_without c.in_ok-rows.rows (lines_of c.args.inputs.now.registrations.bytes.items) of_cwr c.in_ok-registry.registry is_cwr (sym so_many ∙ none)

pub returns : goal.returns
returns c =
    let paths = map_inputs path_of c.args.inputs.now in
    let files = map_inputs bytes_of c.args.inputs.now in
    let (of_tis, is_tis, so_many_rows, first) = c.in_ok-territories.ensures in
    let (of_payees, is_payees, so_many, second) = c.in_ok-rows.ensures in
    let (of_cwr, is_cwr, so_many_lines, third) = c.in_ok-registry.ensures in
    let (of_usage, is_usage, fourth) = c.in_ok-lines.ensures in
    let fifth = rw (so_many_lines, so_many_rows) at c.in_ok-territories_remark.ensures in
    let sixth = rw (so_many, so_many_lines) at c.in_ok-payees_remark.ensures in
    let (totals, are_totals, last) = c.in_ok-totals.ensures in
    let found : Found = record {
      of_territories = of_tis;
      of_payees = of_payees;
      of_registrations = of_cwr;
      of_usage = of_usage;
      table = c.in_ok-territories.territories;
      rows = c.in_ok-rows.rows;
      registered = c.in_ok-registry.registry;
      lines = c.in_ok-lines.lines;
      totals = totals;
    } in
    let none : Sheet = c.none-sheet.result in
    let so_far = sixth.sound ∙ fifth.sound ∙ sound_of_four found none c.tis.new.self c.payees.new.self c.cwr.new.self c.usage.new.self
    c.none-sheet.ensures.2 first.sound second.sound third.sound fourth.sound in
    let is : IsFoundIn files found = record {
      territories = is_tis;
      payees = is_payees;
      registrations = is_cwr;
      usage = is_usage;
      totals = subst (λ (sound : Bool). AreTotalsIfSound sound found.table found.registered found.lines totals) so_far are_totals;
    } in
    IfOk-weaker c.finish.result _ (λ (checked : Checked). IsReportOn paths files checked.text.items checked.is_sound)
    (λ checked whole. put_together paths files found none c.tis.new.self c.payees.new.self c.cwr.new.self c.usage.new.self
    c.territories_remark.new.self c.payees_remark.new.self c.totals.new.self checked.text.items
    checked.is_sound c.none-sheet.ensures first second (rw so_many at third) fourth fifth sixth
    last is whole)
    c.finish.ensures
