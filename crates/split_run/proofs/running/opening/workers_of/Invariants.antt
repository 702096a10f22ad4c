use Rattle.std.specs.Prelude.{ℕ, ◌≡◌, ◌+◌, ◌++◌, ◌<◌, All, length, map, slice_index_or, vec_items, vec_len}
use Rattle.std.specs.Vec.Iter.{into_iter_items, into_iter_len}
use Rattle.split_run.specs.Opening.{HasRoom}
use Rattle.split_run.proofs.running.opening.workers_of.Given as goal

-- the workers so far have their senders and their drawers, and room; and the others' are left
abbrev pub invariant-loop-senders : goal.invariant-loop-senders
invariant-loop-senders g l =
    let rest = l.senders-iterator in
    let drawers = l.drawers in
    let all = into_iter_items l.initial.drawers in
    (vec_len l.workers + into_iter_len drawers ≡ length all)
    × (into_iter_len drawers ≡ into_iter_len rest)
    × ((k : ℕ) (d : _) → k < into_iter_len drawers → slice_index_or (into_iter_items drawers) k d ≡ slice_index_or all (vec_len l.workers + k) d)
    × ((k : ℕ) (d : _) (e : _) → k < vec_len l.workers → (slice_index_or (vec_items l.workers) k d).drawer ≡ slice_index_or all k e)
    × (map (λ worker. g.B.Mailboxes.senders worker.senders.items) (vec_items l.workers) ++ map (λ own. g.B.Mailboxes.senders own.items) (into_iter_items rest) ≡ map (λ own. g.B.Mailboxes.senders own.items) (into_iter_items l.initial.senders-iterator))
    × All HasRoom (vec_items l.workers)
