use Rattle.std.proofs.Common.{◌++◌, ◌∷◌, []}
use Rattle.merge_statements.proofs.Refusing.{refused_before}
use Rattle.merge_statements.proofs.checking.pass_next.Goals as goal

pub returns-in-Err-clause-refused : goal.returns-in-Err-clause-refused
returns-in-Err-clause-refused g c = c.in-Err.ensures.refused c.args.progress.now

pub returns-in-Err-follow-clause-refused : goal.returns-in-Err-follow-clause-refused
returns-in-Err-follow-clause-refused g c =
    let rows = c.advance.new.rows in
    refused_before c.args.progress.now c.args.number c.args.rows.now.left rows.left (rows.line ++ 10 ∷ []) c.in-Err-follow.refusal
    (c.in-Ok-true.ensures.found c.in-Ok-true.field-0-test) c.in-Err-follow.ensures.refused
