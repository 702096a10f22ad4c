use Rattle.adjust_statements.proofs.WritingLemmas.{TakenSoFar}
use Rattle.adjust_statements.proofs.writing.rows_of_sums.Given as goal

abbrev pub invariant-loop-use : goal.invariant-loop-use
invariant-loop-use l = TakenSoFar l.kind l.name l.fn.sums l.rows.text l.count l.total l.sums l._use
