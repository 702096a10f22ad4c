use Rattle.std.proofs.Common.{◌++◌, ◌∷◌, [], subst, sym}
use Rattle.std.specs.Io.KnownBytes.{prepend_known}
use Rattle.merge_statements.specs.Refused.{IsRefusedFrom}
use Rattle.merge_statements.proofs.ReadThrough.{field_refused}
use Rattle.merge_statements.proofs.Refusing.{takes_first}
use Rattle.merge_statements.proofs.checking.follow.Goals as goal

pub returns-in-Err-clause-refused : goal.returns-in-Err-clause-refused
returns-in-Err-clause-refused g c = c.in-Err.ensures.refused c.args.progress.now

pub returns-in-Err-follow-clause-refused : goal.returns-in-Err-follow-clause-refused
returns-in-Err-follow-clause-refused g c =
    let row = c.in-Ok.row in
    let rows = c.args.rows.now in
    let from = prepend_known (rows.line ++ 10 ∷ []) rows.left in
    subst (IsRefusedFrom c.args.progress.now c.args.number from) (sym c.of_field.ensures)
    (field_refused c.args.progress.now c.args.number from rows.left rows.line row.kind.now row.payee_or_reason.now row.usage_or_count.now row.amount_or_total.now
    c.in-Err-follow.wrong (takes_first (rows.line ++ 10 ∷ []) rows.left) c.requires.one c.requires.short c.in-Ok.ensures.row c.in-Err-follow.ensures.wrong)
