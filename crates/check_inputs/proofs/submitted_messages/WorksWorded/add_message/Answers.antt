use Rattle.check_inputs.proofs.submitted_messages.WorksWorded.add_message.Goals as goal

pub returns-in-Submitter : goal.returns-in-Submitter
returns-in-Submitter c = rw c.in-Submitter.is (rw c.field-in-Submitter.ensures at c.add_around-in-Submitter.ensures)

pub returns-in-Twice : goal.returns-in-Twice
returns-in-Twice c = rw c.in-Twice.is (rw (c.field-in-Twice.ensures, c.field-in-Twice-2.ensures) at c.add_both.ensures)
