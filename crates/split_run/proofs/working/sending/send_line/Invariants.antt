use Rattle.std.specs.Prelude.{take}
use Rattle.payee_book.specs.Run.{portion_for, posting_of}
use Rattle.split_run.specs.Sending.{HasSpent, HaveSent}
use Rattle.split_run.proofs.working.sending.send_line.Given as goal

-- the portions so far are sent
abbrev pub invariant-loop-portion : goal.invariant-loop-portion
invariant-loop-portion g l =
    let was = g.B.Mailboxes.senders l.initial.senders in
    let now = g.B.Mailboxes.senders l.senders in record {
      sent : HaveSent g.B.Mailboxes.is_shared was now (λ account. posting_of l.line (portion_for account (take l.portion-index l.portions)));
      spent : HasSpent g.B.Mailboxes.is_shared was now l.portion-index;
    }
