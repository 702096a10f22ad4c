use Rattle.std.proofs.Common.{◌∙◌}
use Rattle.merge_statements.specs.Fields.{is_mark}
use Rattle.merge_statements.proofs.FieldLemmas.{first_found}
use Rattle.merge_statements.proofs.row.has_mark.Goals as goal

pub returns : goal.returns
returns c = c.is_some.ensures ∙ first_found is_mark c.args.text.now c.memchr3.result c.memchr3.ensures
