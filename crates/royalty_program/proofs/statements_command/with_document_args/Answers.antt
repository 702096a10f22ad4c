use Rattle.std.proofs.lemmas.Result.{IfOk-weaker}
use Rattle.royalty_program.specs.StatementsCommand.{AddsDocumentArgs}
use Rattle.royalty_program.proofs.StatementsLemmas.{adds_eight}
use Rattle.royalty_program.proofs.statements_command.with_document_args.Goals as goal

pub returns : goal.returns
returns c = IfOk-weaker c.arg-8.result _ (AddsDocumentArgs c.args.command) (λ command added.
    adds_eight c.args.command c.in_ok-arg.field-0 c.in_ok-arg-2.field-0 c.in_ok-arg-3.field-0 c.in_ok-arg-4.field-0 c.in_ok-arg-5.field-0 c.in_ok-arg-6.field-0
    c.in_ok-arg-7.field-0 command
    c.optional_file_arg.result c.folder_arg.result c.optional_arg.result c.optional_arg-2.result c.decimals_arg.result
    c.optional_workers_arg.result c.optional_readers_arg.result c.optional_nodes_arg.result
    c.in_ok-arg.ensures c.in_ok-arg-2.ensures c.in_ok-arg-3.ensures c.in_ok-arg-4.ensures c.in_ok-arg-5.ensures c.in_ok-arg-6.ensures c.in_ok-arg-7.ensures added
    c.optional_file_arg.ensures.optional c.folder_arg.ensures.needed c.optional_arg.ensures.optional c.optional_arg-2.ensures.optional c.decimals_arg.ensures.optional
    c.optional_workers_arg.ensures.optional c.optional_readers_arg.ensures.optional c.optional_nodes_arg.ensures.optional
    c.optional_file_arg.ensures.rule c.folder_arg.ensures.rule c.optional_arg.ensures.rule c.optional_arg-2.ensures.rule c.decimals_arg.ensures.rule
    c.optional_workers_arg.ensures.rule c.optional_readers_arg.ensures.rule c.optional_nodes_arg.ensures.rule
    c.decimals_arg.ensures.few c.optional_workers_arg.ensures.few c.optional_readers_arg.ensures.few c.optional_nodes_arg.ensures.few)
    c.arg-8.ensures
