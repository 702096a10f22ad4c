use Rattle.std.specs.Prelude.{ℕ, ◌+◌, ◌≡◌}
use Rattle.std.specs.Vec.Iter.{into_iter_items, into_iter_len}
use Rattle.split_run.specs.Reading.{inboxes_by}
use Rattle.split_run.specs.Running.{AreMerged, EachGiven, IsReadBy}
use Rattle.split_run.proofs.running.merge_all.Given as goal

-- what the readers so far gave back is merged, and the others gave back theirs
abbrev pub invariant-loop-reader : goal.invariant-loop-reader
invariant-loop-reader g l =
    let rest = l.reader-iterator in
    let opened = inboxes_by g.B.Mailboxes.receiver l.opened.value.items in
    (done : ℕ)
    × (done + into_iter_len rest ≡ l.readers)
    × EachGiven (into_iter_len rest) (λ k. IsReadBy g.B.Mailboxes.receiver l.workers l.readers l.opened.value.items (done + k)) (into_iter_items rest)
    × AreMerged l.workers l.readers done opened (inboxes_by g.B.Mailboxes.receiver l.inboxes.items) l.book
