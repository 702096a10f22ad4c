use Rattle.std.specs.Prelude.{ℕ, ◌+◌, ◌<◌, ◌≤◌, ◌≡◌, length, slice_index_or, vec_items, vec_len}
use Rattle.std.specs.Vec.Iter.{into_iter_items, into_iter_len}
use Rattle.split_run.proofs.running.starting.start_readers.Given as goal

-- the readers so far are started, and the others are left
abbrev pub invariant-loop-reader : goal.invariant-loop-reader
invariant-loop-reader g l =
    let rest = l.reader-iterator in
    let all = into_iter_items l.initial.reader-iterator in
    (vec_len l.started + into_iter_len rest ≡ length all)
    × ((k : ℕ) (d : _) → k < into_iter_len rest → slice_index_or (into_iter_items rest) k d ≡ slice_index_or all (vec_len l.started + k) d)
    × ((k : ℕ) (d : _) (e : _) → k < vec_len l.started → (slice_index_or (vec_items l.started) k d).promise.reader.value ≡ slice_index_or all k e)
    × (vec_len l.started ≤ l.cut)
