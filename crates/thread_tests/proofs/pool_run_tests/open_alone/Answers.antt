use Rattle.std.proofs.Common.{ap, arith, ◌∙◌}
use Rattle.pool_box.specs.PoolViews.{sender_of}
use Rattle.thread_tests.proofs.pool_run_tests.open_alone.Goals as goal

pub returns-clause-fresh : goal.returns-clause-fresh
returns-clause-fresh c = λ account.
    let is = ap sender_of c.swap_remove.ensures.value ∙ c.in_ok-senders.ensures.senders 0 (omega arith) c.swap_remove.result in
    (ap (λ v. v.sent account) is, ap (λ v. v.is_ended account) is)
