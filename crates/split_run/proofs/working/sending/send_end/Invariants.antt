use Rattle.std.specs.Prelude.{◌≡◌}
use Rattle.split_run.proofs.working.sending.send_end.Given as goal

abbrev pub invariant-loop : goal.invariant-loop
invariant-loop g l = g.B.Mailboxes.senders l.senders ≡ g.B.Mailboxes.senders l.initial.senders
