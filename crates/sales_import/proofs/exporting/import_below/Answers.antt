use Rattle.std.proofs.Common.{◌≡◌, ◌∷◌, [], List, Some, subst, sym, ℕ}
use Rattle.std.proofs.lemmas.Result.{err_from_is_err_and}
use Rattle.export_rows.specs.Places.{HasRead, Place, Takes}
use Rattle.export_rows.specs.declared.delimiter.Delimiter.{Delimiter}
use Rattle.export_rows.proofs.Taken.{read_more}
use Rattle.sales_import.specs.Exported.{IsHeaderOf}
use Rattle.sales_import.proofs.Begun.{cut_first, imported_below, of_header, of_rows}
use Rattle.sales_import.proofs.exporting.import_below.Goals as goal

-- the row that was taken first is the first of the export
first_read : (delimiter : Delimiter) (text : List ℕ) (start next : Place) (fields : List (List ℕ)) → HasRead delimiter (Some text) [] start → Takes start next
    → fields ≡ next.row → HasRead delimiter (Some text) (fields ∷ []) next
first_read delimiter text start next fields read takes is =
    subst (λ (row : List (List ℕ)). HasRead delimiter (Some text) (row ∷ []) next) (sym is) (read_more delimiter (Some text) [] start next read takes)

pub returns-in_err-settings-clause-fault : goal.returns-in_err-settings-clause-fault
returns-in_err-settings-clause-fault g c =
    let mapping = c.args.mapping.now in
    let fields = c.row.result.now in
    let takes = c.in_ok-next.ensures.found c.if-not-branch.false in
    let exit = err_from_is_err_and c.from_residual-in_err-settings.result c.from_residual-in_err-settings.ensures.1 in
    rw (exit.1, exit.2)
    (λ text read.
    let heads : IsHeaderOf mapping text (Some fields) =
    (c.requires.header, c.next.new.self, first_read mapping.delimiter text c.args.rows.now c.next.new.self fields read takes c.row.ensures) in
    of_header mapping text (Some fields) c.in_err-settings.field-0.0 heads c.in_err-settings.ensures.fault)

pub returns-in_err-summary-clause-fault : goal.returns-in_err-summary-clause-fault
returns-in_err-summary-clause-fault g c =
    let exit = err_from_is_err_and c.from_residual-in_err-summary.result c.from_residual-in_err-summary.ensures.1 in
    rw (exit.1, exit.2) (λ text read. of_rows c.args.mapping.now text c.in_err-summary.field-0.0 c.in_err-summary.ensures.fault)

pub returns-clause-imported : goal.returns-clause-imported
returns-clause-imported g c text read =
    let mapping = c.args.mapping.now in
    let fields = c.row.result.now in
    let takes = c.in_ok-next.ensures.found c.if-not-branch.false in
    imported_below mapping c.args.maps (Some fields) (fields ∷ []) c.next.new.self c.in_ok-settings.settings
    (g.W.Write.contents c.args.lines.now) (g.W.Write.contents c.begin.new.lines) (g.W.Write.contents c.import.new.lines)
    (g.X.Write.contents c.args.rejects.now) (g.X.Write.contents c.begin.new.rejects) (g.X.Write.contents c.import.new.rejects)
    c.in_ok-summary.summary text (first_read mapping.delimiter text c.args.rows.now c.next.new.self fields read takes c.row.ensures)
    (cut_first mapping.has_header c.requires.header fields) c.in_ok-settings.ensures.settings
    c.in_ok-settings.ensures.lines c.in_ok-settings.ensures.rejects c.in_ok-summary.ensures.imported
