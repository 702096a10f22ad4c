use Rattle.std.specs.Prelude.{◌≡◌, [], map, replicate, vec_items}
use Rattle.split_run.proofs.mailboxes.separate.no_senders.Given as goal

abbrev pub invariant-loop : goal.invariant-loop
invariant-loop g l = map (λ own. own.items) (vec_items l.lists) ≡ replicate l.counter []
