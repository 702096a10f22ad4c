use Rattle.std.specs.Prelude.{◌<◌}
use Rattle.mail_bench.proofs.pooling.send.Given as goal

abbrev pub invariant-loop : goal.invariant-loop
invariant-loop l = l.mailbox < l.poster.mailboxes
