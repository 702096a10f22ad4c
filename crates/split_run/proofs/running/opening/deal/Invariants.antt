use Rattle.split_run.specs.Reading.{inboxes_by}
use Rattle.split_run.proofs.OpeningLemmas.{IsDealtUpTo}
use Rattle.split_run.proofs.running.opening.deal.Given as goal

abbrev pub invariant-loop-account : goal.invariant-loop-account
invariant-loop-account g l =
    IsDealtUpTo l.readers l.reader l.account (inboxes_by g.B.Mailboxes.receiver l.initial.inboxes.items) (inboxes_by g.B.Mailboxes.receiver l.inboxes.items) (inboxes_by g.B.Mailboxes.receiver l.own.items)
