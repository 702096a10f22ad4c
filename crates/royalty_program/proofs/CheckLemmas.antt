-- What a parse of the words of a check gives.
use Rattle.std.proofs.Common.{◌≡◌, List, [], ◌∷◌, true, refl, codes}
use Rattle.clap.specs.Words.{AddsArg, Text, is_simple, is_simple_and_free, new_app, rule_of}
use Rattle.clap.specs.declared.builder.arg.Arg.{Arg}
use Rattle.clap.specs.declared.builder.command.Command.{Command}
use Rattle.royalty_program.specs.Args.{IsOptionalArg, optional_rule}
use Rattle.royalty_program.specs.CheckCommand.{IsCheckCommand, check_app}
use Rattle.royalty_program.specs.InputCommand.{HasInputArgs, with_inputs}
use Rattle.royalty_program.proofs.InputLemmas.{adds_more, input_names, input_options}
use Rattle.royalty_program.proofs.OptionLemmas.{HasOptions, optional_same}

-- a command with the options of the files and this one is the command of a check
pub adds_works : (c0 c1 : Command) (works : Arg) → HasInputArgs c0 [] (with_inputs (new_app (codes "check"))) → AddsArg c0 works c1 → IsOptionalArg (codes "works") works
    → rule_of works ≡ optional_rule (codes "works") → IsCheckCommand c1
adds_works c0 c1 works inputs a may rule = record {
  works = a.arg;
  may_have_works = optional_same _ works a.arg a.rules may;
  inputs = adds_more c0 c1 works _ _ _ _ inputs a may rule;
}

pub check_simple : is_simple check_app ≡ true
check_simple = refl

pub check_free : is_simple_and_free check_app ≡ true
check_free = refl

-- the names of its options
abbrev pub check_names : List Text
check_names = input_names (codes "works" ∷ [])

pub check_options : (c : Command) → IsCheckCommand c → HasOptions c check_names check_app
check_options c s = input_options c (s.works ∷ []) (codes "works" ∷ []) check_app s.inputs (rw s.may_have_works.id refl) refl
