use Rattle.std.proofs.Common.{◌≡◌, ◌<◌, ℕ, HoldsAt, length, vec_items, vec_len}
use Rattle.node_table.specs.Views.{table_of_tally}
use Rattle.mail_box.specs.Mails.{opened_sender}
use Rattle.mail_box.specs.LinkViews.{sender_of}
use Rattle.mail_box.proofs.link_mail.LinkMail.open.Given as goal

abbrev pub invariant-loop-sender : goal.invariant-loop-sender
invariant-loop-sender l =
    record {
      count : vec_len l.senders ≡ length l.yielded;
      opened : (k : ℕ) → k < length l.yielded → HoldsAt (λ s. sender_of s ≡ opened_sender (table_of_tally l.tally) k l.nodes l.most) (vec_items l.senders) k;
    }
