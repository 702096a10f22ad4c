use Rattle.std.specs.Prelude.{ℕ, ◌<◌, ◌≡◌, ◌⊎◌, [], slice_index_or}
use Rattle.thread_tests.proofs.payee_book_tests.assert_apart.Given as goal

abbrev pub invariant-loop-account : goal.invariant-loop-account
invariant-loop-account g l = (k : ℕ) → k < l.account → (slice_index_or l.one k [] ≡ []) ⊎ (slice_index_or l.other k [] ≡ [])
