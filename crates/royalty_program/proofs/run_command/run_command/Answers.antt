use Rattle.std.proofs.lemmas.Result.{IfOk-weaker}
use Rattle.royalty_program.specs.RunCommand.{IsRunCommand}
use Rattle.royalty_program.proofs.RunLemmas.{adds_more_five}
use Rattle.royalty_program.proofs.run_command.run_command.Goals as goal

pub returns : goal.returns
returns c =
    IfOk-weaker c.arg-5.result _ IsRunCommand (λ command added.
    adds_more_five c.in_ok-input_command.field-0 c.in_ok-arg.field-0 c.in_ok-arg-2.field-0 c.in_ok-arg-3.field-0 c.in_ok-arg-4.field-0 command
    c.workers_arg.result c.readers_arg.result c.nodes_arg.result c.output_arg.result c.works_arg.result
    c.in_ok-input_command.ensures c.in_ok-arg.ensures c.in_ok-arg-2.ensures c.in_ok-arg-3.ensures c.in_ok-arg-4.ensures added
    c.workers_arg.ensures.needed c.readers_arg.ensures.needed c.nodes_arg.ensures.needed c.output_arg.ensures.optional c.works_arg.ensures.optional
    c.workers_arg.ensures.rule c.readers_arg.ensures.rule c.nodes_arg.ensures.rule c.output_arg.ensures.rule c.works_arg.ensures.rule
    c.workers_arg.ensures.few c.readers_arg.ensures.few c.nodes_arg.ensures.few)
    c.arg-5.ensures
