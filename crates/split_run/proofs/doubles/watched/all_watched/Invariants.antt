use Rattle.std.specs.Prelude.{◌≡◌, ◌++◌, map, vec_items}
use Rattle.std.specs.Vec.Iter.{into_iter_items}
use Rattle.split_run.proofs.doubles.watched.all_watched.Given as goal

-- the receivers so far are there, and with those that are left they are all
abbrev pub invariant-loop-receiver : goal.invariant-loop-receiver
invariant-loop-receiver g l = map (λ one. one.receiver) (vec_items l.all) ++ into_iter_items l.receiver-iterator ≡ into_iter_items l.initial.receiver-iterator
