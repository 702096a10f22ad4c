use Rattle.std.proofs.Common.{◌≡◌, ◌<◌, ℕ, HoldsAt, length, vec_items, vec_len}
use Rattle.pool_box.specs.Pools.{opened_sender}
use Rattle.pool_box.specs.PoolViews.{sender_of, tally_of}
use Rattle.pool_box.proofs.pool_mail.PoolMail.open.Given as goal

abbrev pub invariant-loop-sender : goal.invariant-loop-sender
invariant-loop-sender l =
    record {
      count : vec_len l.senders ≡ length l.yielded;
      opened : (k : ℕ) → k < length l.yielded → HoldsAt (λ s. sender_of s ≡ opened_sender (tally_of l.tally).pool l.mailboxes k l.nodes l.most) (vec_items l.senders) k;
    }
