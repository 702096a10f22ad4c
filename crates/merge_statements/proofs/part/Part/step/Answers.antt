use Rattle.std.proofs.Common.{None}
use Rattle.std.proofs.lemmas.Result.{err_from_is_err_and}
use Rattle.merge_statements.proofs.Refusing.{step_reads, step_refused, with_row_refused}
use Rattle.merge_statements.proofs.part.Part.step.Goals as goal

pub returns-in_err-self-inside-clause-refused : goal.returns-in_err-self-inside-clause-refused
returns-in_err-self-inside-clause-refused g c =
    let inside = c.self.inside in
    let p = err_from_is_err_and c.from_residual-in_err-self-inside.result c.from_residual-in_err-self-inside.ensures.1 in
    rw (p.1, p.2)
    (step_refused c.args.self.now inside.progress c.follow.new.progress inside.number c.saturating_add-number.result inside.rows.line inside.rows.left _ inside.has_row _
    c.self.view_is c.if-not-self.false c.in_ok-follow.ensures.follows c.saturating_add-number.ensures (c.in_err-self-inside.ensures.refused c.follow.new.progress))

pub returns-clause-reads : goal.returns-clause-reads
returns-clause-reads g c =
    let inside = c.self.inside in
    step_reads c.args.self.now inside.progress c.follow.new.progress inside.number c.saturating_add-number.result inside.rows.line c.advance.new.rows.line inside.rows.left c.advance.new.rows.left _ None
    inside.has_row c.in_ok-self-inside.field-0
    c.self.view_is c.if-not-self.false c.in_ok-follow.ensures.follows c.saturating_add-number.ensures c.in_ok-self-inside.ensures.found c.in_ok-self-inside.ensures.still

pub returns-in_err-follow-clause-refused : goal.returns-in_err-follow-clause-refused
returns-in_err-follow-clause-refused g c =
    let inside = c.self.inside in
    let p = err_from_is_err_and c.from_residual.result c.from_residual.ensures.1 in
    rw (p.1, p.2) (with_row_refused c.args.self.now inside.progress inside.number inside.rows.line inside.rows.left _ inside.has_row _ c.self.view_is c.if-not-self.false
    c.in_err-follow.ensures.refused)
