use Rattle.std.specs.Prelude.{ℕ, ◌+◌, ◌<◌, ◌≡◌, ◌≤◌, None, length, slice_index_or, vec_items}
use Rattle.std.specs.Vec.Iter.{into_iter_items, into_iter_len}
use Rattle.split_run.specs.Reading.{inboxes_by}
use Rattle.split_run.specs.Running.{or_else}
use Rattle.split_run.proofs.running.merge.Given as goal

-- the receivers so far are put with the others
abbrev pub invariant-loop-inbox : goal.invariant-loop-inbox
invariant-loop-inbox g l =
    let rest = l.inbox-iterator in
    let all = into_iter_items l.initial.inbox-iterator in
    let was = inboxes_by g.B.Mailboxes.receiver (vec_items l.initial.inboxes) in
    let now = inboxes_by g.B.Mailboxes.receiver (vec_items l.inboxes) in
    (length now ≡ length was)
    × (l.account + into_iter_len rest ≡ length all)
    × ((k : ℕ) (d : _) → k < into_iter_len rest → slice_index_or (into_iter_items rest) k d ≡ slice_index_or all (l.account + k) d)
    × ((account : ℕ) → account < l.account → slice_index_or now account None ≡ or_else (slice_index_or (inboxes_by g.B.Mailboxes.receiver all) account None) (slice_index_or was account None))
    × ((account : ℕ) → l.account ≤ account → slice_index_or now account None ≡ slice_index_or was account None)
