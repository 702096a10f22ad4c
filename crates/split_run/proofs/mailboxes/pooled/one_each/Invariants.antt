use Rattle.std.specs.Prelude.{◌≡◌, ◌++◌, ◌∷◌, [], map, vec_items}
use Rattle.std.specs.Vec.Iter.{into_iter_items}
use Rattle.split_run.proofs.mailboxes.pooled.one_each.Given as goal

-- the senders so far have each a list, and with those that are left they are all
abbrev pub invariant-loop-sender : goal.invariant-loop-sender
invariant-loop-sender g l =
    map (λ own. own.items) (vec_items l.lists) ++ map (λ s. s ∷ []) (into_iter_items l.sender-iterator) ≡ map (λ s. s ∷ []) (into_iter_items l.initial.sender-iterator)
