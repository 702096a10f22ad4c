use Rattle.std.specs.Prelude.{◌≡◌, All, vec_items}
use Rattle.mail_rows.proofs.pools.settled.Given as goal

abbrev pub invariant-loop : goal.invariant-loop
invariant-loop g l =
    All (λ s. ((g.P.Pool.sender s).pool ≡ (g.P.Pool.tally l.ends.tally).pool) × ((g.P.Pool.sender s).mailboxes ≡ l.ends.mailboxes)) (vec_items l.ends.senders)
    × All (λ r. (g.P.Pool.receiver r).pool ≡ (g.P.Pool.tally l.ends.tally).pool) (vec_items l.ends.receivers)

abbrev pub invariant-loop-2 : goal.invariant-loop-2
invariant-loop-2 g l =
    All (λ s. ((g.P.Pool.sender s).pool ≡ (g.P.Pool.tally l.ends.tally).pool) × ((g.P.Pool.sender s).mailboxes ≡ l.ends.mailboxes)) (vec_items l.ends.senders)
    × All (λ r. (g.P.Pool.receiver r).pool ≡ (g.P.Pool.tally l.ends.tally).pool) (vec_items l.ends.receivers)
