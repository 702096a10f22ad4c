use Rattle.std.proofs.lemmas.Result.{IfOk-weaker}
use Rattle.royalty_program.specs.ImportCommand.{AddsArgs, add_columns, column_names}
use Rattle.royalty_program.proofs.ImportLemmas.{adds_one, adds_then}
use Rattle.royalty_program.proofs.import_command.with_columns.Goals as goal

pub returns : goal.returns
returns c = IfOk-weaker c.arg-7.result _ (AddsArgs column_names add_columns c.args.command) (λ command added.
    adds_then c.args.command c.in_ok-arg.field-0 command _ _ _ _ (adds_one c.args.command c.in_ok-arg.field-0 c.export_arg.result _ _ c.export_arg.ensures.optional c.export_arg.ensures.rule c.in_ok-arg.ensures)
    (adds_then c.in_ok-arg.field-0 c.in_ok-arg-2.field-0 command _ _ _ _ (adds_one c.in_ok-arg.field-0 c.in_ok-arg-2.field-0 c.column_arg.result _ _ c.column_arg.ensures.optional c.column_arg.ensures.rule c.in_ok-arg-2.ensures)
    (adds_then c.in_ok-arg-2.field-0 c.in_ok-arg-3.field-0 command _ _ _ _ (adds_one c.in_ok-arg-2.field-0 c.in_ok-arg-3.field-0 c.one_column_arg.result _ _ c.one_column_arg.ensures.optional c.one_column_arg.ensures.rule c.in_ok-arg-3.ensures)
    (adds_then c.in_ok-arg-3.field-0 c.in_ok-arg-4.field-0 command _ _ _ _ (adds_one c.in_ok-arg-3.field-0 c.in_ok-arg-4.field-0 c.one_column_arg-2.result _ _ c.one_column_arg-2.ensures.optional c.one_column_arg-2.ensures.rule c.in_ok-arg-4.ensures)
    (adds_then c.in_ok-arg-4.field-0 c.in_ok-arg-5.field-0 command _ _ _ _ (adds_one c.in_ok-arg-4.field-0 c.in_ok-arg-5.field-0 c.one_column_arg-3.result _ _ c.one_column_arg-3.ensures.optional c.one_column_arg-3.ensures.rule c.in_ok-arg-5.ensures)
    (adds_then c.in_ok-arg-5.field-0 c.in_ok-arg-6.field-0 command _ _ _ _ (adds_one c.in_ok-arg-5.field-0 c.in_ok-arg-6.field-0 c.one_column_arg-4.result _ _ c.one_column_arg-4.ensures.optional c.one_column_arg-4.ensures.rule c.in_ok-arg-6.ensures)
    (adds_one c.in_ok-arg-6.field-0 command c.where_arg.result _ _ c.where_arg.ensures.optional c.where_arg.ensures.rule added)))))))
    c.arg-7.ensures
