use Rattle.std.proofs.Common.{◌∙◌, ap}
use Rattle.clap.specs.Simple.{app_of_fields}
use Rattle.clap.specs.Words.{new_app}
use Rattle.clap.specs.declared.builder.command.Command.{Command}
use Rattle.clap.specs.declared.builder.command.Command.TheOpen.{Command-F}
use Rattle.royalty_program.proofs.OptionLemmas.{has_none}
use Rattle.royalty_program.proofs.options.new_command.Goals as goal

pub returns : goal.returns
returns c =
    let new = c.new.ensures in
    let named = c.in_ok-command.ensures.0 in
    let about = c.about.ensures in
    let helped = c.after_help.ensures in
    has_none c.after_help.result (new_app c.args.name.now)
    (ap (λ (f : Command-F Command). f.args.items) helped ∙ ap (λ (f : Command-F Command). f.args.items) about ∙ ap (λ (f : Command-F Command). f.args.items) named ∙ new.empty.0)
    (ap (λ (f : Command-F Command). f.groups.items) helped ∙ ap (λ (f : Command-F Command). f.groups.items) about ∙ ap (λ (f : Command-F Command). f.groups.items) named ∙ new.empty.1)
    (ap (λ (f : Command-F Command). f.has_globals) helped ∙ ap (λ (f : Command-F Command). f.has_globals) about ∙ ap (λ (f : Command-F Command). f.has_globals) named ∙ new.local)
    (ap (λ (f : Command-F Command). f.subcommand_negates_reqs) helped ∙ ap (λ (f : Command-F Command). f.subcommand_negates_reqs) about ∙ ap (λ (f : Command-F Command). f.subcommand_negates_reqs) named ∙ new.negates)
    (ap app_of_fields helped ∙ ap app_of_fields about ∙ ap app_of_fields named ∙ new.app)
