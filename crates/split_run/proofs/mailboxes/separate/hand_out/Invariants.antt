use Rattle.std.specs.Prelude.{map, vec_items}
use Rattle.std.specs.Vec.Iter.{into_iter_items}
use Rattle.split_run.proofs.OpeningLemmas.{HaveOneMoreUpTo}
use Rattle.split_run.proofs.SeparateLemmas.{HasPassed}
use Rattle.split_run.proofs.mailboxes.separate.hand_out.Given as goal

-- the workers so far have a sender more, and the others are as before
abbrev pub invariant-loop-sender : goal.invariant-loop-sender
invariant-loop-sender g l =
    let all = into_iter_items l.initial.sender-iterator in
    HasPassed l.worker (into_iter_items l.sender-iterator) all × HaveOneMoreUpTo l.worker (map (λ own. own.items) (vec_items l.initial.lists)) all (map (λ own. own.items) (vec_items l.lists))
