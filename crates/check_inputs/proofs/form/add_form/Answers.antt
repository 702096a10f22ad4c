use Rattle.cwr_share.specs.Lines.{lines_of}
use Rattle.check_inputs.specs.Form.{controls_remarks, returns_remark, shifted_remark, types_remark}
use Rattle.check_inputs.proofs.Telling.{four_behind}
use Rattle.check_inputs.proofs.form.add_form.Goals as goal

pub returns : goal.returns
returns c =
    let path = c.args.path.now in
    let lines = lines_of c.args.bytes.now in
    four_behind c.args.text.now.items c.add_returns_remark.new.text.items c.add_types_remark.new.text.items c.add_shifted_remark.new.text.items c.add_controls_remarks.new.text.items
    (returns_remark path c.args.bytes.now) (types_remark path lines) (shifted_remark path lines) (controls_remarks path lines)
    c.in_ok-add_returns_remark.ensures c.in_ok-add_types_remark.ensures c.in_ok-add_shifted_remark.ensures c.in_ok-add_controls_remarks.ensures
