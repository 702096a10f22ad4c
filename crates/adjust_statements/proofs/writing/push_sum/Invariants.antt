use Rattle.std.proofs.Common.{◌≡◌, ◌++◌}
use Rattle.std.specs.Prelude.{replicate}
use Rattle.adjust_statements.specs.Differences.{row_holds}
use Rattle.adjust_statements.proofs.WritingLemmas.{sized, text_for}
use Rattle.adjust_statements.proofs.writing.push_sum.Given as goal

-- so many full rows were added
abbrev pub invariant-loop-row : goal.invariant-loop-row
invariant-loop-row l = l.rows.text ≡ l.fn.rows.text ++ text_for l.kind l.name (sized l.kind l.name l.usage l.sum (replicate l._row row_holds))
