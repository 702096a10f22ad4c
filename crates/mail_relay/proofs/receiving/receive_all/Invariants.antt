use Rattle.std.specs.Prelude.{◌≡◌, true}
use Rattle.queue_core.specs.Endings.{HasEnd}
use Rattle.mail_relay.proofs.receiving.receive_all.Given as goal

abbrev pub invariant-loop : goal.invariant-loop
invariant-loop g l =
    let now = g.M.Mail.receiver l.receiver in
    let was = g.M.Mail.receiver l.initial.receiver in
    (now.mailbox ≡ was.mailbox)
    × (now.senders ≡ was.senders)
    × (l.first_ended ≡ true → HasEnd (now.got 0))
    × (l.second_ended ≡ true → HasEnd (now.got 1))
