use Rattle.std.proofs.Common.{[]}
use Rattle.linked_works.specs.Linked.{Link}
use Rattle.check_inputs.proofs.submitted_messages.add_links_message.Goals as goal

abbrev none : Link
none = record { work = []; submitter = []; number = [] }

pub returns-in-Many : goal.returns-in-Many
returns-in-Many c = rw c.in-Many.is (rw (c.work_at.ensures none) at c.add_around.ensures)
