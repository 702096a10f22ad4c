use Rattle.std.proofs.lemmas.Result.{IfOk-weaker}
use Rattle.royalty_program.specs.ImportCommand.{AddsArgs, add_tables, table_names}
use Rattle.royalty_program.proofs.ImportLemmas.{adds_one, adds_then}
use Rattle.royalty_program.proofs.import_command.with_tables.Goals as goal

pub returns : goal.returns
returns c = IfOk-weaker c.arg-3.result _ (AddsArgs table_names add_tables c.args.command) (λ command added.
    adds_then c.args.command c.in_ok-arg.field-0 command _ _ _ _ (adds_one c.args.command c.in_ok-arg.field-0 c.optional_file_arg.result _ _ c.optional_file_arg.ensures.optional c.optional_file_arg.ensures.rule c.in_ok-arg.ensures)
    (adds_then c.in_ok-arg.field-0 c.in_ok-arg-2.field-0 command _ _ _ _ (adds_one c.in_ok-arg.field-0 c.in_ok-arg-2.field-0 c.optional_file_arg-2.result _ _ c.optional_file_arg-2.ensures.optional c.optional_file_arg-2.ensures.rule c.in_ok-arg-2.ensures)
    (adds_one c.in_ok-arg-2.field-0 command c.optional_file_arg-3.result _ _ c.optional_file_arg-3.ensures.optional c.optional_file_arg-3.ensures.rule added)))
    c.arg-3.ensures
