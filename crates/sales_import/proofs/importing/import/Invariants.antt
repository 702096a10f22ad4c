use Rattle.sales_import.specs.Imported.{output}
use Rattle.sales_import.specs.SoFar.{IsGoing}
use Rattle.sales_import.proofs.importing.import.Given as goal

-- what was made of the rows so far
abbrev pub invariant-loop-number : goal.invariant-loop-number
invariant-loop-number g l =
    let lines_in = g.W.Write.contents in
    let rejects_in = g.X.Write.contents in
    IsGoing l.settings l.initial.rows l.rows (lines_in l.initial.lines) (output lines_in l.lines l.going.lines)
    (rejects_in l.initial.rejects) (output rejects_in l.rejects l.going.rejects) l.number l.going.summary
