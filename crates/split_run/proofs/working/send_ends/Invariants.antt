use Rattle.std.specs.Prelude.{◌≡◌, ◌<◌, ℕ, cond, length, nat_lt, slice_index_or}
use Rattle.mail_box.specs.Mails.{SenderView, with_end}
use Rattle.split_run.proofs.working.send_ends.Given as goal

-- the senders so far have ended, and the others are as before
abbrev pub invariant-loop-account : goal.invariant-loop-account
invariant-loop-account g l =
    let was = g.B.Mailboxes.senders l.initial.senders in
    let now = g.B.Mailboxes.senders l.senders in record {
      count : length now ≡ length was;
      each : (account : ℕ) (s : SenderView _) → account < length was → slice_index_or now account s ≡ cond (nat_lt account l.account) (with_end (slice_index_or was account s)) (slice_index_or was account s);
    }
