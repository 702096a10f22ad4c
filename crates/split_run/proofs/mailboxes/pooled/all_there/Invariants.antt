use Rattle.std.specs.Prelude.{◌≡◌, ◌++◌, Some, map, vec_items}
use Rattle.std.specs.Vec.Iter.{into_iter_items}
use Rattle.split_run.proofs.mailboxes.pooled.all_there.Given as goal

-- the receivers so far are in their places, and with those that are left they are all
abbrev pub invariant-loop-receiver : goal.invariant-loop-receiver
invariant-loop-receiver g l = vec_items l.there ++ map Some (into_iter_items l.receiver-iterator) ≡ map Some (into_iter_items l.initial.receiver-iterator)
