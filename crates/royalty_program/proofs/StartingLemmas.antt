-- What a parse of the words of a table to begin with gives.
use Rattle.std.proofs.Common.{◌≡◌, ◌∙◌, List, [], ◌∷◌, Option, true, refl, arith, codes}
use Rattle.std.specs.Option.{IsSome, option_map}
use Rattle.clap.specs.Words.{AddsArg, IsParsedFrom, Text, found_of, is_simple, is_simple_and_free, matched_of, new_app, raw_values, rule_of}
use Rattle.clap.specs.declared.builder.arg.Arg.{Arg}
use Rattle.clap.specs.declared.builder.command.Command.{Command}
use Rattle.starting_files.specs.declared.making.StartingTable.{StartingTable}
use Rattle.starting_files.specs.declared.making.StartingTable.TheVariants.{Works, Parties}
use Rattle.royalty_program.specs.Args.{HasArgs, IsOptionalArg}
use Rattle.royalty_program.specs.StartingCommand.{IsStartingCommand, starting_app, starting_name}
use Rattle.royalty_program.specs.SubmittedCommand.{files_rule}
use Rattle.royalty_program.proofs.OptionLemmas.{HasOptions, has_entry, has_more, optional_same, options_of}
use Rattle.royalty_program.proofs.SplitLemmas.{some_of_map}
use Rattle.clap.specs.declared.parser.matches.ArgMatches.{ArgMatches}

-- a new command with the option of the files is that of the table
pub adds_files : (table : StartingTable) (c0 c1 : Command) (cwr : Arg) → HasArgs c0 [] (new_app (starting_name table)) → AddsArg c0 cwr c1
    → IsOptionalArg (codes "cwr") cwr → cwr.required ≡ true → rule_of cwr ≡ files_rule (codes "cwr") → IsStartingCommand table c1
adds_files table c0 c1 cwr has a n needed r = record {
  cwr = a.arg;
  has_cwr = optional_same _ cwr a.arg a.rules n;
  needs_cwr = a.rules.required ∙ needed;
  has = has_more c0 c1 cwr _ _ _ _ has a n r;
}

pub starting_simple : (table : StartingTable) → is_simple (starting_app table) ≡ true
starting_simple Works = refl
starting_simple Parties = refl

pub starting_free : (table : StartingTable) → is_simple_and_free (starting_app table) ≡ true
starting_free Works = refl
starting_free Parties = refl

abbrev pub starting_names : List Text
starting_names = codes "cwr" ∷ []

pub starting_options : (table : StartingTable) (c : Command) → IsStartingCommand table c → HasOptions c starting_names (starting_app table)
starting_options table c s = options_of c (s.cwr ∷ []) starting_names (starting_app table) s.has (rw s.has_cwr.id refl) refl

-- a parse finds the files
pub finds_files_of : {X : Type 0} (f : X → List Text) (table : StartingTable) (c : Command) (m : ArgMatches) (r : Option X) → IsStartingCommand table c → IsParsedFrom c m
    → option_map f r ≡ option_map raw_values (matched_of (found_of m) (codes "cwr")) → IsSome r
finds_files_of f table c m r s p same = some_of_map f raw_values r _ same
    (has_entry c starting_names (starting_app table) m (codes "cwr") s.cwr 0 (starting_options table c s) p s.has_cwr s.needs_cwr (rw s.has.list refl) (omega arith))
