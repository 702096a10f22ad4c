use Rattle.std.proofs.Common.{[]}
use Rattle.std.proofs.lemmas.Result.{IfOk-weaker}
use Rattle.clap.specs.Words.{new_app}
use Rattle.royalty_program.specs.SubmittedCommand.{HasSubmittedArgs, with_submitted}
use Rattle.royalty_program.proofs.SubmittedLemmas.{adds_five}
use Rattle.royalty_program.proofs.submitted_command.submitted_input_command.Goals as goal

pub returns : goal.returns
returns c = IfOk-weaker c.arg-5.result _ (λ command. HasSubmittedArgs command [] (with_submitted (new_app c.args.name.now))) (λ command added.
    adds_five c.in_ok-new_command.field-0 c.in_ok-arg.field-0 c.in_ok-arg-2.field-0 c.in_ok-arg-3.field-0 c.in_ok-arg-4.field-0 command
    (new_app c.args.name.now) c.file_arg.result c.optional_file_arg.result c.file_arg-2.result c.files_arg.result c.file_arg-3.result
    c.in_ok-new_command.ensures c.in_ok-arg.ensures c.in_ok-arg-2.ensures c.in_ok-arg-3.ensures c.in_ok-arg-4.ensures added
    c.file_arg.ensures.needed c.optional_file_arg.ensures.optional c.file_arg-2.ensures.needed c.files_arg.ensures.optional c.file_arg-3.ensures.needed c.files_arg.ensures.needed
    c.file_arg.ensures.rule c.optional_file_arg.ensures.rule c.file_arg-2.ensures.rule c.files_arg.ensures.rule c.file_arg-3.ensures.rule)
    c.arg-5.ensures
