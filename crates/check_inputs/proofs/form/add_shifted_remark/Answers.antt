use Rattle.cwr_share.specs.Lines.{lines_of}
use Rattle.file_form.specs.Shifted.{shifted_lines}
use Rattle.check_inputs.proofs.form.add_shifted_remark.Goals as goal

pub returns : goal.returns
returns c = c.in_ok-add_tally.ensures (shifted_lines (lines_of c.args.bytes.now)) c.shifted_records-tally.ensures
