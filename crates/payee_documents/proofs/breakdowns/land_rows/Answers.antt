use Rattle.std.proofs.Common.{◌∙◌, decimal}
use Rattle.payee_documents.proofs.Rows.{same_at}
use Rattle.payee_documents.proofs.breakdowns.land_rows.Goals as goal

pub land_row-requires-clause-text : goal.land_row-requires-clause-text
land_row-requires-clause-text c =
    c.as_slice.ensures.value
    ∙ same_at (λ text. text.items) decimal c.args.texts.now c.args.codes.now c.loop-place.place c.index-texts-place.result 0 c.requires.texts c.index-texts-place.is
    c.loop-place-test.true
