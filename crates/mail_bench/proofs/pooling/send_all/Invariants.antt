use Rattle.std.specs.Prelude.{◌≡◌}
use Rattle.mail_bench.proofs.pooling.send_all.Given as goal

abbrev pub invariant-loop-mailbox : goal.invariant-loop-mailbox
invariant-loop-mailbox l = l.poster.mailboxes ≡ l.mailbox-end
