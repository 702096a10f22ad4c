use Rattle.payee_documents.proofs.Sheets.{sheet_reads_back}
use Rattle.payee_documents.proofs.laws.law_a_sheet_reads_back.Goals as goal

pub returns : goal.returns
returns c = sheet_reads_back
