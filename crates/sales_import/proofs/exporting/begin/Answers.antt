use Rattle.std.specs.Prelude.{option_map}
use Rattle.std.proofs.lemmas.Result.{err_from_is_err_and}
use Rattle.sales_import.proofs.Begun.{rows_of_header, words_of_header}
use Rattle.sales_import.proofs.exporting.begin.Goals as goal

pub returns-in_err-settings-clause-fault : goal.returns-in_err-settings-clause-fault
returns-in_err-settings-clause-fault g c =
    let exit = err_from_is_err_and c.from_residual.result c.from_residual.ensures.1 in
    rw (exit.1, exit.2) (words_of_header c.args.mapping.now _ c.in_err-settings.field-0.0 c.in_err-settings.ensures.fault)

pub returns-in_err-write_headers-clause-fault : goal.returns-in_err-write_headers-clause-fault
returns-in_err-write_headers-clause-fault g c =
    let exit = err_from_is_err_and c.from_residual-in_err-write_headers.result c.from_residual-in_err-write_headers.ensures.1 in
    rw (exit.1, exit.2) (rows_of_header c.args.mapping.now (option_map (λ row. row.now) c.args.header) c.in_err-write_headers.field-0.0 c.in_err-write_headers.ensures.fault)
