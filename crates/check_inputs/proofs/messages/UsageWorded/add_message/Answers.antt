use Rattle.check_inputs.proofs.messages.UsageWorded.add_message.Goals as goal

pub returns-in-Fields : goal.returns-in-Fields
returns-in-Fields c = rw c.in-Fields.is (rw (c.field.ensures, c.field-in-Fields.ensures) at c.add_both.ensures)

pub returns-in-Territory : goal.returns-in-Territory
returns-in-Territory c = rw c.in-Territory.is (rw c.field-in-Territory.ensures at c.add_around.ensures)

pub returns-in-Right : goal.returns-in-Right
returns-in-Right c = rw c.in-Right.is (rw c.field-in-Right.ensures at c.add_around-in-Right.ensures)
