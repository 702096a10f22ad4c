use Rattle.std.proofs.Common.{[]}
use Rattle.std.proofs.lemmas.Result.{IfOk-weaker}
use Rattle.clap.specs.Words.{new_app}
use Rattle.clap.specs.declared.builder.command.Command.{Command}
use Rattle.royalty_program.specs.InputCommand.{HasInputArgs, with_inputs}
use Rattle.royalty_program.proofs.InputLemmas.{adds_four}
use Rattle.royalty_program.proofs.inputs.input_command.Goals as goal

pub returns : goal.returns
returns c =
    let app = new_app c.args.name.now in
    IfOk-weaker c.arg-4.result _ (λ (command : Command). HasInputArgs command [] (with_inputs app)) (λ command added.
    adds_four c.in_ok-new_command.field-0 c.in_ok-arg.field-0 c.in_ok-arg-2.field-0 c.in_ok-arg-3.field-0 command app
    c.file_arg.result c.optional_file_arg.result c.file_arg-2.result c.file_arg-3.result
    c.in_ok-new_command.ensures c.in_ok-arg.ensures c.in_ok-arg-2.ensures c.in_ok-arg-3.ensures added
    c.file_arg.ensures.needed c.optional_file_arg.ensures.optional c.file_arg-2.ensures.needed c.file_arg-3.ensures.needed
    c.file_arg.ensures.rule c.optional_file_arg.ensures.rule c.file_arg-2.ensures.rule c.file_arg-3.ensures.rule)
    c.arg-4.ensures
