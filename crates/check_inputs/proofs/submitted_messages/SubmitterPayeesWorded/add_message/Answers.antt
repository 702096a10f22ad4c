use Rattle.check_inputs.proofs.submitted_messages.SubmitterPayeesWorded.add_message.Goals as goal

pub returns-in-Submitter : goal.returns-in-Submitter
returns-in-Submitter c = rw c.in-Submitter.is (rw c.field-in-Submitter.ensures at c.add_around.ensures)
