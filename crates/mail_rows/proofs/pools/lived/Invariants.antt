use Rattle.std.specs.Prelude.{◌≡◌, All, vec_items}
use Rattle.mail_rows.proofs.pools.lived.Given as goal

abbrev pub invariant-loop-line : goal.invariant-loop-line
invariant-loop-line g l =
    All (λ s. ((g.P.Pool.sender s).pool ≡ (g.P.Pool.tally l.ends.tally).pool) × ((g.P.Pool.sender s).mailboxes ≡ l.ends.mailboxes)) (vec_items l.ends.senders)
    × All (λ r. (g.P.Pool.receiver r).pool ≡ (g.P.Pool.tally l.ends.tally).pool) (vec_items l.ends.receivers)
