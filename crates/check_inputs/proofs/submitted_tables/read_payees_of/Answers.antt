use Rattle.check_inputs.proofs.submitted_tables.read_payees_of.Goals as goal

pub returns : goal.returns
returns c = rw c.into_payees.ensures (rw (c.as_str.ensures.value, c.as_slice.ensures.value, c.none.ensures.names) at c.in_ok-told.ensures.read)
