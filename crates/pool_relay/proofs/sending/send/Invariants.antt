use Rattle.std.specs.Prelude.{◌≡◌}
use Rattle.pool_relay.proofs.sending.send.Given as goal

abbrev pub invariant-loop : goal.invariant-loop
invariant-loop g l = g.P.Pool.sender l.sender ≡ g.P.Pool.sender l.initial.sender
