use Rattle.std.specs.Prelude.{ℕ, ◌+◌, ◌≡◌, false, take}
use Rattle.pool_relay.proofs.sending.send_all.Given as goal
use Rattle.pool_relay.specs.Postings.{posts_to}

abbrev pub invariant-loop-posting : goal.invariant-loop-posting
invariant-loop-posting g l =
    let now = g.P.Pool.sender l.sender in
    let was = g.P.Pool.sender l.initial.sender in
    (now.pool ≡ was.pool)
    × (now.mailboxes ≡ was.mailboxes)
    × (now.number ≡ was.number)
    × ((mailbox : ℕ) → now.is_ended mailbox ≡ false)
    × (now.left + l.posting-index ≡ was.left)
    × ((mailbox : ℕ) → now.sent mailbox ≡ posts_to mailbox (take l.posting-index l.posts))
