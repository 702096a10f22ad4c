use Rattle.std.specs.Prelude.{ℕ, ◌+◌, ◌<◌, ◌≡◌, map, slice_index_or, vec_items, vec_len}
use Rattle.std.specs.Vec.Iter.{into_iter_items, into_iter_len}
use Rattle.payee_book.proofs.Joined.{IsJoinedUpTo}
use Rattle.payee_book.proofs.book.join_all.Given as goal

abbrev pub invariant-loop-statement : goal.invariant-loop-statement
invariant-loop-statement l =
    let rest = l.statement-iterator in
    let theirs = into_iter_items l.initial.statement-iterator in
    (vec_len l.mine ≡ vec_len l.initial.mine)
    × (l.account + into_iter_len rest ≡ into_iter_len l.initial.statement-iterator)
    × ((k : ℕ) (d : _) → k < into_iter_len rest → slice_index_or (into_iter_items rest) k d ≡ slice_index_or theirs (l.account + k) d)
    × IsJoinedUpTo (map (λ s. s.items) (vec_items l.initial.mine)) (map (λ s. s.items) theirs) (map (λ s. s.items) (vec_items l.mine)) l.account
