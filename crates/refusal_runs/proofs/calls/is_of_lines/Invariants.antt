use Rattle.std.proofs.Common.{ℕ, ◌<◌, [], All, get_or}
use Rattle.refusal_runs.proofs.calls.is_of_lines.Given as goal

-- the postings of the accounts so far are of these lines
abbrev pub invariant-loop-account : goal.invariant-loop-account
invariant-loop-account l = (k : ℕ) → k < l.account → All (λ posting. posting.0 < l.lines) (get_or l.book k [])
