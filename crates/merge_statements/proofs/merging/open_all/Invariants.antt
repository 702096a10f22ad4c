use Rattle.std.proofs.Common.{map}
use Rattle.merge_statements.specs.SoFar.{AreOpen}
use Rattle.merge_statements.proofs.merging.open_all.Given as goal

-- the texts so far
abbrev pub invariant-loop-reader : goal.invariant-loop-reader
invariant-loop-reader g l = AreOpen (map g.R.Read.remaining l.yielded) l.parts.items
