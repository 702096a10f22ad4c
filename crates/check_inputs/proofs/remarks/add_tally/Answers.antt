use Rattle.std.proofs.Common.{◌∙◌}
use Rattle.check_inputs.proofs.remarks.add_tally.Goals as goal

pub returns : goal.returns
returns c numbers is = c.in_ok-add_items.ensures numbers is.count (c.as_slice.ensures.value ∙ is.first)
