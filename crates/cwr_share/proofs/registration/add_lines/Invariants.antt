use Rattle.std.proofs.Common.{◌≡◌, ◌++◌, [], None, drop, get_or, map}
use Rattle.cwr_share.specs.Compiled.{accounts_of, line_by}
use Rattle.cwr_share.proofs.OrderLemmas.{line_at, lines_in}
use Rattle.cwr_share.proofs.registration.add_lines.Given as goal

-- the lines so far and those to come are all of them
abbrev pub invariant-loop-entry : goal.invariant-loop-entry
invariant-loop-entry l =
    l.lines.items ++ lines_in (λ party. get_or (accounts_of l.accounts.entries) party 0) (line_at (map (line_by []) l.shares)) l.later (drop l.entry-index l.order)
    ≡ l.fn.lines.items ++ lines_in (λ party. get_or (accounts_of l.accounts.entries) party 0) (line_at (map (line_by []) l.shares)) None l.order
