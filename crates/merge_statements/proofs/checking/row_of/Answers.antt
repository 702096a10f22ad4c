use Rattle.std.proofs.Common.{◌++◌, ◌∷◌, []}
use Rattle.std.specs.Io.KnownBytes.{prepend_known}
use Rattle.merge_statements.proofs.ReadThrough.{no_row_refused}
use Rattle.merge_statements.proofs.Refusing.{takes_first}
use Rattle.merge_statements.proofs.checking.row_of.Goals as goal

pub returns-in-None-clause-refused : goal.returns-in-None-clause-refused
returns-in-None-clause-refused g c = λ at.
    let rows = c.args.rows.now in
    no_row_refused at c.args.number (prepend_known (rows.line ++ 10 ∷ []) rows.left) rows.left rows.line (takes_first (rows.line ++ 10 ∷ []) rows.left) c.requires c.in-None.ensures.none
