use Rattle.std.proofs.Common.{◌∙◌, subst, sym}
use Rattle.std.specs.Prelude.{Bool, List, ℕ, ◌≡◌, ◌++◌}
use Rattle.cwr_share.specs.Lines.{lines_of}
use Rattle.file_form.specs.Controls.{differences, is_closed}
use Rattle.check_inputs.specs.Form.{closing_remark, differences_remarks}
use Rattle.check_inputs.proofs.Telling.{two_behind}
use Rattle.check_inputs.proofs.form.add_controls_remarks.Goals as goal

pub returns : goal.returns
returns c =
    let path = c.args.path.now in
    let lines = lines_of c.args.bytes.now in
    let is = c.in_ok-controls.ensures in
    two_behind c.args.text.now.items c.add_differences.new.text.items c.add_closing_remark.new.text.items
    (differences_remarks path (differences lines)) (closing_remark path (is_closed lines))
    (c.in_ok-add_differences.ensures (differences lines) is.count (c.as_slice.ensures.value ∙ is.first))
    (rw is.closed at c.in_ok-add_closing_remark.ensures)
