use Rattle.check_inputs.proofs.report.read_payees_if_given.Goals as goal

pub returns-in-Some : goal.returns-in-Some
returns-in-Some c = rw c.in-Some.is (rw (c.as_str.ensures.value, c.as_slice.ensures.value) at c.read_past_faults.ensures.read)
