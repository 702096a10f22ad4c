-- What the commands of tables to begin with ask of their words.
use Rattle.std.specs.Prelude.{ℕ, ◌≡◌, ◌∷◌, List, [], codes, true}
use Rattle.clap.specs.Words.{App, new_app, with_rule}
use Rattle.clap.specs.declared.builder.arg.Arg.{Arg}
use Rattle.clap.specs.declared.builder.command.Command.{Command}
use Rattle.starting_files.specs.declared.making.StartingTable.{StartingTable}
use Rattle.starting_files.specs.declared.making.StartingTable.TheVariants.{Works, Parties}
use Rattle.royalty_program.specs.Args.{HasArgs, IsOptionalArg}
use Rattle.royalty_program.specs.SubmittedCommand.{files_rule}

-- the name of the command that makes a table
abbrev pub starting_name : StartingTable → List ℕ
starting_name Works = codes "works"
starting_name Parties = codes "parties"

-- what a parse reads of it
abbrev pub starting_app : StartingTable → App
starting_app table = with_rule (new_app (starting_name table)) (files_rule (codes "cwr"))

-- the command has one option, which names the files
pub record IsStartingCommand (table : StartingTable) (c : Command) : Type 0 where
  pub cwr : Arg
  pub has_cwr : IsOptionalArg (codes "cwr") cwr
  pub needs_cwr : cwr.required ≡ true
  pub has : HasArgs c (cwr ∷ []) (starting_app table)
