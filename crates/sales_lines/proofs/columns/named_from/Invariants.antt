use Rattle.std.proofs.Common.{◌≤◌, ◌<◌, ℕ}
use Rattle.sales_lines.specs.Columns.{IsNamed}
use Rattle.sales_lines.proofs.columns.named_from.Given as goal

-- no field so far has the name
abbrev pub invariant-loop-place : goal.invariant-loop-place
invariant-loop-place l = (other : ℕ) → l.first ≤ other → other < l.place → ¬ IsNamed l.header l.name other
