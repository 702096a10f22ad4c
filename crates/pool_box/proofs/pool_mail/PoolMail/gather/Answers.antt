use Rattle.pool_box.proofs.PoolBegins.{begins}
use Rattle.pool_box.proofs.pool_mail.PoolMail.gather.Goals as goal

pub returns-clause-begins : goal.returns-clause-begins
returns-clause-begins c = begins c.gather.new.self c.gather.ensures.begins
