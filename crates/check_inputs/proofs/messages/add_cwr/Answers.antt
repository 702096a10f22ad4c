use Rattle.check_inputs.proofs.messages.add_cwr.Goals as goal

pub returns-in-Mark : goal.returns-in-Mark
returns-in-Mark c = rw c.in-Mark.is (rw (c.of-in-Mark.ensures, c.share_fields_of-fields.ensures) at c.add_around-in-Mark.ensures)

pub returns-in-Land : goal.returns-in-Land
returns-in-Land c = rw c.in-Land.is (rw (c.of-in-Land.ensures, c.share_fields_of-fields.ensures) at c.add_around-in-Land.ensures)

pub returns-in-Party : goal.returns-in-Party
returns-in-Party c = rw c.in-Party.is (rw (c.of-in-Party.ensures, c.share_fields_of-fields.ensures) at c.add_around-in-Party.ensures)

pub returns-in-Work : goal.returns-in-Work
returns-in-Work c = rw c.in-Work.is (rw c.of-in-Work.ensures at c.add_around-in-Work.ensures)

pub returns-in-Many : goal.returns-in-Many
returns-in-Many c = rw c.in-Many.is c.add.ensures

pub returns-in-Accounts : goal.returns-in-Accounts
returns-in-Accounts c = rw c.in-Accounts.is c.add-in-Accounts.ensures
