use Rattle.std.proofs.Common.{◌∙◌, sym}
use Rattle.merge_statements.proofs.FieldLemmas.{marked, plain_at}
use Rattle.merge_statements.proofs.row.plain_field.Goals as goal

pub returns-then-has_mark-clause-none : goal.returns-then-has_mark-clause-none
returns-then-has_mark-clause-none c =
    let parts = c.up_to_comma.result in
    marked c.args.text.now parts.0.now parts.1.now c.requires.plain c.up_to_comma.ensures.none (sym c.has_mark.ensures ∙ c.if-has_mark.true)
    c.up_to_comma.ensures.ends c.up_to_comma.ensures.parts

pub returns-clause-field : goal.returns-clause-field
returns-clause-field c =
    let parts = c.up_to_comma.result in
    plain_at c.args.text.now parts.0.now parts.1.now c.up_to_comma.ensures.none (sym c.has_mark.ensures ∙ c.if-has_mark.false)
    c.up_to_comma.ensures.ends c.up_to_comma.ensures.parts
