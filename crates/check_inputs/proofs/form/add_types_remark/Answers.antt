use Rattle.std.proofs.Common.{◌∙◌}
use Rattle.cwr_share.specs.Lines.{lines_of}
use Rattle.file_form.specs.Types.{foreign_types}
use Rattle.check_inputs.proofs.form.add_types_remark.Goals as goal

pub returns : goal.returns
returns c =
    let is = c.in_ok-types.ensures in
    c.in_ok-add_items.ensures (foreign_types (lines_of c.args.bytes.now)) is.count (c.as_slice.ensures.value ∙ is.first)
