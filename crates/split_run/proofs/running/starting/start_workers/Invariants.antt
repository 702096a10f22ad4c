use Rattle.std.specs.Prelude.{ℕ, ◌+◌, ◌<◌, ◌≤◌, ◌≡◌, length, slice_index_or, vec_items, vec_len}
use Rattle.std.specs.Vec.Iter.{into_iter_items, into_iter_len}
use Rattle.split_run.proofs.running.starting.start_workers.Given as goal

-- the workers so far are started, and the others are left
abbrev pub invariant-loop-job : goal.invariant-loop-job
invariant-loop-job g l =
    let rest = l.job-iterator in
    let all = into_iter_items l.initial.job-iterator in
    (vec_len l.started ≡ l.number)
    × (l.number + into_iter_len rest ≡ length all)
    × ((k : ℕ) (d : _) → k < into_iter_len rest → slice_index_or (into_iter_items rest) k d ≡ slice_index_or all (l.number + k) d)
    × ((k : ℕ) (d : _) → k < l.number → ((slice_index_or (vec_items l.started) k d).promise.tis.value ≡ l.inputs.tis.now) × ((slice_index_or (vec_items l.started) k d).promise.registry.value ≡ l.inputs.registry.now) × ((slice_index_or (vec_items l.started) k d).promise.usage.value ≡ l.inputs.usage.now))
    × ((k : ℕ) (d : _) (e : _) → k < l.number → (slice_index_or (vec_items l.started) k d).promise.worker.value ≡ slice_index_or all k e)
    × (l.number ≤ l.cut)
