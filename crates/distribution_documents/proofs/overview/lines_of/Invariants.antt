use Rattle.std.proofs.Common.{◌≡◌, ◌≤◌, All, length, map, take}
use Rattle.distribution_documents.specs.Runs.{payee_line, run_shown}
use Rattle.line_split.specs.declared.TheConstants.{MOST_LINES}
use Rattle.overview_documents.specs.Payees.{lines_shown}
use Rattle.distribution_documents.proofs.overview.lines_of.Given as goal

-- the payees so far
abbrev pub invariant-loop-place : goal.invariant-loop-place
invariant-loop-place l = record {
  lines : lines_shown l.lines.items ≡ map (payee_line (run_shown l.documents)) (take l.place l.payees);
  whole : length l.lines.items ≡ l.place;
  counts : All (λ line. line.count ≤ MOST_LINES) l.lines.items;
}
