use Rattle.std.proofs.Common.{◌≤◌, ◌<◌, All, take, unsigned_abs}
use Rattle.line_split.specs.declared.TheConstants.{MOST_AMOUNT}
use Rattle.run_rows.proofs.documents.are_postings.Given as goal

-- those so far are
abbrev pub invariant-loop-place : goal.invariant-loop-place
invariant-loop-place l =
    All (λ posting. posting.0 < l.lines) (take l.place l.statement)
    × All (λ posting. unsigned_abs posting.1 ≤ MOST_AMOUNT) (take l.place l.statement)
