use Rattle.std.specs.Prelude.{◌≡◌, ◌<◌, ℕ, true}
use Rattle.mail_rows.proofs.pools.take_in.Given as goal

abbrev pub invariant-loop-mailbox : goal.invariant-loop-mailbox
invariant-loop-mailbox g l = (b : ℕ) → b < l.mailbox → (g.P.Pool.sender l.sender).is_ended b ≡ true
