use Rattle.std.proofs.Common.{◌≡◌, ◌∙◌, ◌++◌, [], Vec, Global, ℕ, get_or, map, ap, append-nil, subst}
use Rattle.std.proofs.KnownBytes.{Appends-trans}
use Rattle.std.proofs.lemmas.Result.{on_ok_weaker}
use Rattle.std.specs.Io.KnownBytes.{Appends, append_known}
use Rattle.csv_table.specs.Written.{Page, text_of, text_of_row}
use Rattle.payee_book.specs.declared.sheets.Sheet.{Sheet}
use Rattle.payee_book.specs.Text.{payees_rows, residue_rows, run_row}
use Rattle.payee_book.proofs.TextLemmas.{no_rows, rows_more, rows_passed_on, whole_text}
use Rattle.payee_book.proofs.book.Book.print.Goals as goal

pub returns : goal.returns
returns g c =
    let book = c.args.self.now in
    let names = map (λ (party : Vec ℕ Global). party.items) c.args.parties.now in
    let usage = c.args.usage.now in
    let start = g.W.Write.contents c.args.out.now in
    let out = g.W.Write.contents c.write_payees.new.out in
    let sheet = c.index_mut.result.now in
    let ready = c.in_ok-blank.ensures.ready in
    let payees = text_of (payees_rows book usage names) in
    let residue = text_of (residue_rows usage c.args.reasons.now (get_or book 0 [])) in
    let blank : sheet.rows.text ≡ [] = ap (λ (s : Sheet). s.rows.text) c.index_mut.ensures.value ∙ ap (λ (page : Page). page.text) (ready.blank 0 sheet ready.some) in
    let all_payees : Appends start (append_known out sheet.rows.text) payees =
    subst (Appends start (append_known out sheet.rows.text)) (append-nil payees)
    (Appends-trans start out (append_known out sheet.rows.text) payees [] c.in_ok-blank.ensures.written (no_rows out sheet.rows.text blank)) in
    let with_residue : Appends start (append_known (g.W.Write.contents c.write_residue.new.out) c.write_residue.new.rows.text) (payees ++ residue) =
    Appends-trans start _ _ payees residue all_payees
    (subst (λ statement. Appends (append_known out sheet.rows.text) (append_known (g.W.Write.contents c.write_residue.new.out) c.write_residue.new.rows.text) (text_of (residue_rows usage c.args.reasons.now statement)))
    c.lines.ensures.postings c.in_ok-write_residue.ensures) in
    let all = rows_more start (g.W.Write.contents c.write_residue.new.out) c.write_residue.new.rows.text c.write_run.new.rows.text (payees ++ residue) (text_of_row (run_row usage)) with_residue c.in_ok-write_run.ensures in
    let whole = subst (Appends start (append_known (g.W.Write.contents c.write_residue.new.out) c.write_run.new.rows.text)) (whole_text usage names book c.args.reasons.now) all in
    on_ok_weaker c.write_to.result (rows_passed_on start _ _ c.write_run.new.rows.text _ whole) c.write_to.ensures.text
