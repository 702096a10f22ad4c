use Rattle.std.specs.Prelude.{◌≡◌, All, vec_items, vec_len}
use Rattle.pool_box.specs.PoolViews.{sender_of}
use Rattle.mail_tests.proofs.posters.posters_of.Given as goal

abbrev pub invariant-loop-sender : goal.invariant-loop-sender
invariant-loop-sender l = All (λ s. (sender_of s).mailboxes ≡ l.mailboxes) (vec_items l.senders)

abbrev pub decreases-loop-sender : goal.decreases-loop-sender
decreases-loop-sender l = vec_len l.senders
