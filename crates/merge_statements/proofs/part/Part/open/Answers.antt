use Rattle.std.proofs.Common.{◌∙◌, ◌++◌, ◌∷◌, [], None, refl, subst, sym}
use Rattle.std.specs.Prelude.{if◌then◌else◌}
use Rattle.std.specs.Io.KnownBytes.{Keeps, prepend_known}
use Rattle.std.proofs.lemmas.Result.{err_from_is_err_and}
use Rattle.merge_statements.specs.Places.{at_first}
use Rattle.merge_statements.specs.SoFar.{Unread}
use Rattle.merge_statements.proofs.Passing.{opened}
use Rattle.merge_statements.proofs.Refusing.{first_refused, opened_is_read}
use Rattle.merge_statements.proofs.part.Part.open.Goals as goal

pub returns-in_err-has_row-clause-refused : goal.returns-in_err-has_row-clause-refused
returns-in_err-has_row-clause-refused g c =
    let p = err_from_is_err_and c.from_residual-in_err-has_row.result c.from_residual-in_err-has_row.ensures.1 in
    rw (p.1, p.2) (first_refused (g.R.Read.remaining c.args.from) c.in_ok-rows.rows.left _ c.in_ok-rows.ensures.left (c.in_err-has_row.ensures.refused at_first))

pub returns-in_err-look-clause-refused : goal.returns-in_err-look-clause-refused
returns-in_err-look-clause-refused g c =
    let from = g.R.Read.remaining c.args.from in
    let rows = c.advance.new.rows in
    let line = if c.in_ok-has_row.has_row then rows.line ++ 10 ∷ [] else [] in
    let part : Unread = record { at = c.new-3.result; line = line; number = 1; left = prepend_known line rows.left; payee = None } in
    let p = err_from_is_err_and c.from_residual-in_err-look.result c.from_residual-in_err-look.ensures.1 in
    rw (p.1, p.2)
    (c.in_err-look.ensures.refused from
    (opened_is_read from part c.new-3.ensures refl (opened from c.in_ok-rows.rows.left rows.left rows.line c.in_ok-has_row.has_row c.in_ok-rows.ensures.left c.in_ok-has_row.ensures.found c.in_ok-has_row.ensures.still)))

pub returns-clause-left : goal.returns-clause-left
returns-clause-left g c =
    let from = g.R.Read.remaining c.args.from in
    let rows = c.advance.new.rows in
    subst (Keeps from) (sym c.in_ok-look.ensures.same.3) (opened from c.in_ok-rows.rows.left rows.left rows.line c.in_ok-has_row.has_row c.in_ok-rows.ensures.left c.in_ok-has_row.ensures.found c.in_ok-has_row.ensures.still)

pub returns-clause-read : goal.returns-clause-read
returns-clause-read g c =
    let from = g.R.Read.remaining c.args.from in
    let rows = c.advance.new.rows in
    let same = c.in_ok-look.ensures.same in
    opened_is_read from c.look.new.self (same.0 ∙ c.new-3.ensures) same.2
    (subst (Keeps from) (sym same.3) (opened from c.in_ok-rows.rows.left rows.left rows.line c.in_ok-has_row.has_row c.in_ok-rows.ensures.left c.in_ok-has_row.ensures.found c.in_ok-has_row.ensures.still))
