use Rattle.check_inputs.proofs.messages.PayeesWorded.add_message.Goals as goal

pub returns-in-Fields : goal.returns-in-Fields
returns-in-Fields c = rw c.in-Fields.is (rw (c.field.ensures, c.field-in-Fields.ensures) at c.add_names.ensures)

pub returns-in-Submitter : goal.returns-in-Submitter
returns-in-Submitter c = rw c.in-Submitter.is (rw c.field-in-Submitter.ensures at c.add_around-in-Submitter.ensures)
