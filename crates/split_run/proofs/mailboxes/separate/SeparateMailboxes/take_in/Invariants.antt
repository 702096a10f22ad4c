use Rattle.std.specs.Prelude.{map, vec_items}
use Rattle.std.specs.Vec.Iter.{into_iter_items}
use Rattle.split_run.specs.Reading.{inboxes_by}
use Rattle.split_run.proofs.SeparateLemmas.{HasPassed, HaveTakenIn}
use Rattle.split_run.proofs.mailboxes.separate.SeparateMailboxes.take_in.Given as goal

-- the senders so far are taken in
abbrev pub invariant-loop-sender : goal.invariant-loop-sender
invariant-loop-sender g l =
    let all = into_iter_items l.initial.sender-iterator in
    HasPassed l.account (into_iter_items l.sender-iterator) all × HaveTakenIn l.account (map g.M.Mail.sender all) (inboxes_by g.M.Mail.receiver (vec_items l.initial.all)) (inboxes_by g.M.Mail.receiver (vec_items l.all))
