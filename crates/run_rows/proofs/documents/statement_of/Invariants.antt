use Rattle.std.proofs.Common.{◌≤◌, ◌+◌}
use Rattle.line_split.specs.declared.TheConstants.{MOST_CLAIMS}
use Rattle.run_rows.proofs.documents.statement_of.Given as goal

-- there is room for the claims on a line, and for its portions
abbrev pub invariant-loop-place : goal.invariant-loop-place
invariant-loop-place l = (MOST_CLAIMS ≤ l.claims.room) × (MOST_CLAIMS + 1 ≤ l.portions.room)
