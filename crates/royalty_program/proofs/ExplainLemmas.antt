-- What a parse of the words of an explanation gives.
use Rattle.std.proofs.Common.{◌≡◌, ℕ, List, [], ◌∷◌, Option, Some, true, refl, arith, codes}
use Rattle.clap.specs.Words.{AddsArg, IsParsedFrom, Text, found_of, is_simple, is_simple_and_free, matches_of, new_app, rows_of, rule_of}
use Rattle.clap.specs.declared.builder.arg.Arg.{Arg}
use Rattle.clap.specs.declared.builder.command.Command.{Command}
use Rattle.clap.specs.declared.builder.value_parser.ValueParser.TheVariants as vp
use Rattle.clap.specs.declared.parser.matches.ArgMatches.{ArgMatches}
use Rattle.line_split.specs.declared.TheConstants.{MOST_LINES}
use Rattle.royalty_program.specs.Args.{IsOptionalArg, IsRequiredArg, number_rule, optional_rule}
use Rattle.royalty_program.specs.Asked.{number_given}
use Rattle.royalty_program.specs.ExplainCommand.{IsExplainCommand, explain_app}
use Rattle.royalty_program.specs.InputCommand.{HasInputArgs, with_inputs}
use Rattle.royalty_program.specs.PlanWords.{FindsNumber}
use Rattle.royalty_program.proofs.InputLemmas.{adds_more, input_names, input_options}
use Rattle.royalty_program.proofs.OptionLemmas.{HasOptions, IsNumberOf, IsUpTo, as_optional, finds_number, number_is, number_read, optional_same}
use Rattle.royalty_program.proofs.SplitLemmas.{required_same}

-- a command with the options of the files and these two is the command of an explanation
pub adds_row_and_works : (c0 c1 c2 : Command) (row works : Arg) → HasInputArgs c0 [] (with_inputs (new_app (codes "explain"))) → AddsArg c0 row c1 → AddsArg c1 works c2
    → IsRequiredArg (codes "row") row → IsOptionalArg (codes "works") works → rule_of row ≡ number_rule (codes "row") MOST_LINES → rule_of works ≡ optional_rule (codes "works")
    → row.value_parser ≡ Some (vp.Unsigned 1 MOST_LINES) → IsExplainCommand c2
adds_row_and_works c0 c1 c2 row works inputs a1 a2 needed may rule rule' parser =
    let h1 = adds_more c0 c1 row _ _ _ _ inputs a1 (as_optional _ row needed) rule in record {
      row = a1.arg;
      works = a2.arg;
      needs_row = required_same _ row a1.arg a1.rules needed;
      may_have_works = optional_same _ works a2.arg a2.rules may;
      few_rows = a1.rules.parser _ parser;
      inputs = adds_more c1 c2 works _ _ _ _ h1 a2 may rule';
    }

pub explain_simple : is_simple explain_app ≡ true
explain_simple = refl

pub explain_free : is_simple_and_free explain_app ≡ true
explain_free = refl

-- the names of its options
abbrev pub explain_names : List Text
explain_names = input_names (codes "row" ∷ codes "works" ∷ [])

pub explain_options : (c : Command) → IsExplainCommand c → HasOptions c explain_names explain_app
explain_options c s = input_options c (s.row ∷ s.works ∷ []) (codes "row" ∷ codes "works" ∷ []) explain_app s.inputs (rw (s.needs_row.id, s.may_have_works.id) refl) refl

pub finds_row : (c : Command) (m : ArgMatches) → IsExplainCommand c → IsParsedFrom c m → FindsNumber m (codes "row") MOST_LINES
finds_row c m s p = finds_number c explain_names explain_app m (codes "row") MOST_LINES s.row 4 (explain_options c s) p s.needs_row (rw s.inputs.has.list refl) (omega arith) s.few_rows

pub row_read : (c : Command) (m : ArgMatches) (r : Option ℕ) → IsExplainCommand c → IsParsedFrom c m → IsNumberOf m (codes "row") r → IsUpTo MOST_LINES r
row_read c m r s p = number_read m (codes "row") MOST_LINES r (finds_row c m s p)

pub row_is : (c : Command) (m : ArgMatches) (words : List Text) (r : Option ℕ) (n : ℕ) → IsExplainCommand c → IsParsedFrom c m
    → rows_of (found_of m) ≡ matches_of explain_app words → IsNumberOf m (codes "row") r → r ≡ Some n → n ≡ number_given explain_app (codes "row") words
row_is c m words r n s p are = number_is explain_app m words (codes "row") MOST_LINES r n are (finds_row c m s p)
