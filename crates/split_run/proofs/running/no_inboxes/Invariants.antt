use Rattle.std.specs.Prelude.{◌≡◌, None, replicate}
use Rattle.split_run.specs.Reading.{inboxes_by}
use Rattle.split_run.proofs.running.no_inboxes.Given as goal

abbrev pub invariant-loop : goal.invariant-loop
invariant-loop g l = inboxes_by g.B.Mailboxes.receiver l.inboxes.items ≡ replicate l.counter None
