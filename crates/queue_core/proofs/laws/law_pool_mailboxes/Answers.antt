use Rattle.queue_core.proofs.PoolPosts.{each_mailbox_leads, held_alone}
use Rattle.queue_core.proofs.laws.law_pool_mailboxes.Goals as goal

pub returns-clause-leads : goal.returns-clause-leads
returns-clause-leads c = each_mailbox_leads

pub returns-clause-held_alone : goal.returns-clause-held_alone
returns-clause-held_alone c = held_alone
