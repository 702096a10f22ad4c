use Rattle.merge_statements.specs.SoFar.{IsReadTo}
use Rattle.merge_statements.proofs.checking.check.Given as goal

-- some rows are read
abbrev pub invariant-loop-number : goal.invariant-loop-number
invariant-loop-number g l = IsReadTo (g.R.Read.remaining l.fn.from) l.progress l.rows.left l.number
