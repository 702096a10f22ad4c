use Rattle.std.specs.Prelude.{map}
use Rattle.split_run.specs.Reading.{inboxes_by}
use Rattle.split_run.specs.Opening.{AreMailboxes}
use Rattle.split_run.proofs.mailboxes.separate.SeparateMailboxes.open.Given as goal

-- the mailboxes so far
abbrev pub invariant-loop : goal.invariant-loop
invariant-loop g l = AreMailboxes l.workers l.counter l.nodes l.lines (map (λ own. map g.M.Mail.sender own.items) l.lists.items) (inboxes_by g.M.Mail.receiver l.inboxes.items)
