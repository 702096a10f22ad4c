use Rattle.std.proofs.Common.{arith}
use Rattle.std.proofs.lemmas.Bool.{eqb-true}
use Rattle.merge_statements.specs.Fields.{is_comma}
use Rattle.merge_statements.proofs.FieldLemmas.{none_found, if_none, none_before, parts_at}
use Rattle.merge_statements.proofs.row.cut.Goals as goal

pub returns-in_err-comma-clause-none : goal.returns-in_err-comma-clause-none
returns-in_err-comma-clause-none c = if_none c.from_residual.result (none_found is_comma c.args.text.now c.in_err-comma.ensures)

pub returns-clause-parts : goal.returns-clause-parts
returns-clause-parts c =
    let found = c.in_ok-comma.ensures in (
      parts_at c.args.text.now c.in_ok-comma.comma 44 found.0.high (eqb-true _ 44 found.1),
      none_before is_comma c.args.text.now c.in_ok-comma.comma (omega (arith, found.0.high)) found.0.before,
    )
