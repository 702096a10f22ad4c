use Rattle.std.proofs.Common.{◌≡◌, ◌∙◌, ◌∷◌, [], ℕ, List, ap, codes, refl, sym}
use Rattle.csv_table.specs.Written.{text_of}
use Rattle.distribution_documents.specs.Names.{in_folder}
use Rattle.payee_documents.specs.Sheet.{sheet_rows}
use Rattle.distribution_documents.proofs.Files.{none_written, same_file, written_more}
use Rattle.distribution_documents.proofs.payee_files.write_payee.Goals as goal

pub returns : goal.returns
returns g c =
    let has = g.F.Folder.has in
    let texts = c.in_ok-texts.ensures in
    let payee = texts.payee in
    let page_text = c.in_ok-texts.texts.page.items in
    let sheet_text = text_of (sheet_rows payee.portions) in
    let page = in_folder payee.file (codes ".html") in
    let sheet = in_folder payee.file (codes ".csv") in
    let named : c.in_ok-name.name.items ≡ payee.file = c.in_ok-name.ensures ∙ sym texts.is_payee.file_is in
    let page_has = same_file has c.in_ok-page.page (in_folder c.as_slice-2.result.now (codes ".html")) page c.as_slice-3.result.now page_text
    (ap (λ (n : List ℕ). in_folder n (codes ".html")) (c.as_slice-2.ensures.value ∙ named)) c.as_slice-3.ensures.value c.in_ok-page.ensures in
    let sheet_has = same_file has c.in_ok-sheet.sheet (in_folder c.as_slice-4.result.now (codes ".csv")) sheet c.as_slice-5.result.now sheet_text
    (ap (λ (n : List ℕ). in_folder n (codes ".csv")) (c.as_slice-4.ensures.value ∙ named)) (c.as_slice-5.ensures.value ∙ texts.sheet_is) c.in_ok-sheet.ensures in (
      (page, page_text) ∷ (sheet, sheet_text) ∷ [],
      record { payee = payee; is_payee = texts.is_payee; page = page_text; statement = texts.statement; files_are = refl },
      written_more has c.in_ok-page.page (c.in_ok-sheet.sheet ∷ []) (page, page_text) ((sheet, sheet_text) ∷ []) page_has
          (written_more has c.in_ok-sheet.sheet [] (sheet, sheet_text) [] sheet_has (none_written has)),
    )
