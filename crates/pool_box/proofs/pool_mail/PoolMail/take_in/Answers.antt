use Rattle.pool_box.proofs.PoolBegins.{begins}
use Rattle.pool_box.proofs.pool_mail.PoolMail.take_in.Goals as goal

pub returns-clause-begins : goal.returns-clause-begins
returns-clause-begins c = begins c.take_in.new.self c.take_in.ensures.begins
