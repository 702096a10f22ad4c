use Rattle.std.proofs.Common.{subst, sym}
use Rattle.merge_statements.specs.Refused.{IsRefusedFrom}
use Rattle.merge_statements.proofs.ReadThrough.{line_refused}
use Rattle.merge_statements.proofs.checking.advance.Goals as goal

pub returns-in-Err-clause-refused : goal.returns-in-Err-clause-refused
returns-in-Err-clause-refused g c = λ at.
    subst (IsRefusedFrom at c.args.number c.args.rows.now.left) (sym c.of_line.ensures)
    (line_refused at c.args.number c.args.rows.now.left c.in-Err.fault c.in-Err.ensures.fault)
