use Rattle.std.proofs.Common.{arith}
use Rattle.merge_statements.specs.Fields.{is_comma}
use Rattle.merge_statements.proofs.FieldLemmas.{none_before, none_found}
use Rattle.merge_statements.proofs.row.up_to_comma.Goals as goal

pub returns-in-Some-clause-none : goal.returns-in-Some-clause-none
returns-in-Some-clause-none c =
    let found = c.in-Some.ensures in
    rw c.split_at.ensures.front (none_before is_comma c.args.text.now c.in-Some.comma (omega (arith, found.0.high)) found.0.before)

pub returns-in-None-clause-none : goal.returns-in-None-clause-none
returns-in-None-clause-none c = none_found is_comma c.args.text.now c.in-None.ensures
