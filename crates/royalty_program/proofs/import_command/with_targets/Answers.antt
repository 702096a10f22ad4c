use Rattle.std.proofs.lemmas.Result.{IfOk-weaker}
use Rattle.royalty_program.specs.ImportCommand.{AddsArgs, add_targets, target_names}
use Rattle.royalty_program.proofs.OptionLemmas.{as_optional}
use Rattle.royalty_program.proofs.ImportLemmas.{adds_one, adds_then}
use Rattle.royalty_program.proofs.import_command.with_targets.Goals as goal

pub returns : goal.returns
returns c = IfOk-weaker c.arg-2.result _ (AddsArgs target_names add_targets c.args.command) (λ command added.
    adds_then c.args.command c.in_ok-arg.field-0 command _ _ _ _ (adds_one c.args.command c.in_ok-arg.field-0 c.file_arg.result _ _ (as_optional _ c.file_arg.result c.file_arg.ensures.needed) c.file_arg.ensures.rule c.in_ok-arg.ensures)
    (adds_one c.in_ok-arg.field-0 command c.file_arg-2.result _ _ (as_optional _ c.file_arg-2.result c.file_arg-2.ensures.needed) c.file_arg-2.ensures.rule added))
    c.arg-2.ensures
