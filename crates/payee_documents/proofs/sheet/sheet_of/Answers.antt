use Rattle.payee_documents.proofs.Sheets.{rows_more}
use Rattle.payee_documents.proofs.sheet.sheet_of.Goals as goal

pub loop-place-preserved : goal.loop-place-preserved
loop-place-preserved c =
    rows_more c.args.portions.now c.loop-place.place _ c.loop-place-test.true c.add_header.new.rows.text c.loop-place.rows.text c.add_portion.new.rows.text
    c.loop-place.invariant c.in_ok-add_portion.ensures
