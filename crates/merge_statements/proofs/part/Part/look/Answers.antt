use Rattle.std.proofs.Common.{◌∙◌, codes, sym, true≢false}
use Rattle.std.proofs.lemmas.Result.{err_from_is_err_and}
use Rattle.merge_statements.specs.Places.{IsPayeeAt}
use Rattle.merge_statements.proofs.Refusing.{is_not, is_that, one_kind, payee_refused, with_row_refused}
use Rattle.merge_statements.proofs.part.Part.look.Goals as goal

pub returns-in_err-row-clause-refused : goal.returns-in_err-row-clause-refused
returns-in_err-row-clause-refused g c =
    let inside = c.self.inside in
    let p = err_from_is_err_and c.from_residual.result c.from_residual.ensures.1 in
    rw (p.1, p.2) (with_row_refused c.args.self.now inside.progress inside.number inside.rows.line inside.rows.left _ inside.has_row _ c.self.view_is c.if-not-self.false (c.in_err-row.ensures.refused inside.progress))

pub returns-then-ne-clause-looked : goal.returns-then-ne-clause-looked
returns-then-ne-clause-looked g c = λ none between of.
    let inside = c.self.inside in
    let row = c.in_ok-row.row in
    let same = one_kind inside.rows.line inside.has_row row.kind.now row.payee_or_reason.now row.usage_or_count.now row.amount_or_total.now (codes "L") of.0 of.1 of.2 c.if-not-self.false c.in_ok-row.ensures.row of.3 in
    is_not row.kind.now c.as_slice.result.now (codes "L") c.ne.result c.ne.ensures c.as_slice.ensures c.if-ne.true same

pub returns-then-not-is_payee_here-clause-refused : goal.returns-then-not-is_payee_here-clause-refused
returns-then-not-is_payee_here-clause-refused g c =
    let inside = c.self.inside in
    let row = c.in_ok-row.row in
    let none : ¬ IsPayeeAt inside.progress.place inside.progress.payee row.payee_or_reason.now = λ is. true≢false (sym (c.is_payee_here.ensures.1 is) ∙ c.if-not-is_payee_here.true) in
    payee_refused c.args.self.now inside.progress inside.number inside.rows.line inside.rows.left _ inside.has_row row.kind.now row.payee_or_reason.now row.usage_or_count.now row.amount_or_total.now
    c.self.view_is c.if-not-self.false c.self.invariant.2 c.self.invariant.3 c.in_ok-row.ensures.row c.requires (is_that row.kind.now c.as_slice.result.now (codes "L") c.ne.result c.ne.ensures c.as_slice.ensures c.if-ne.false) none
