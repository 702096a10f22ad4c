use Rattle.std.proofs.Common.{[], None}
use Rattle.std.proofs.lemmas.Result.{err_from_is_err_and}
use Rattle.sales_import.proofs.Begun.{cut_all, imported_below, of_rows}
use Rattle.sales_import.proofs.exporting.import_all.Goals as goal

pub returns-in_err-summary-clause-fault : goal.returns-in_err-summary-clause-fault
returns-in_err-summary-clause-fault g c =
    let exit = err_from_is_err_and c.from_residual-in_err-summary.result c.from_residual-in_err-summary.ensures.1 in
    rw (exit.1, exit.2) (λ text read. of_rows c.args.mapping.now text c.in_err-summary.field-0.0 c.in_err-summary.ensures.fault)

pub returns-clause-imported : goal.returns-clause-imported
returns-clause-imported g c text read =
    imported_below c.args.mapping.now c.args.maps None [] c.args.rows.now c.in_ok-settings.settings
    (g.W.Write.contents c.args.lines.now) (g.W.Write.contents c.begin.new.lines) (g.W.Write.contents c.import.new.lines)
    (g.X.Write.contents c.args.rejects.now) (g.X.Write.contents c.begin.new.rejects) (g.X.Write.contents c.import.new.rejects)
    c.in_ok-summary.summary text read (cut_all c.args.mapping.now.has_header c.requires.header) c.in_ok-settings.ensures.settings
    c.in_ok-settings.ensures.lines c.in_ok-settings.ensures.rejects c.in_ok-summary.ensures.imported
