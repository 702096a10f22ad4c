-- The options that name the files of a run, and what a parse of its words gives of them.
use Rattle.std.proofs.Common.{◌≡◌, ◌++◌, List, [], ◌∷◌, Option, map, true, refl, arith, codes, ℕ}
use Rattle.clap.specs.Words.{AddsArg, App, IsParsedFrom, Rule, Text, rule_of, with_rule}
use Rattle.clap.specs.declared.builder.arg.Arg.{Arg}
use Rattle.clap.specs.declared.builder.command.Command.{Command}
use Rattle.clap.specs.declared.parser.matches.ArgMatches.{ArgMatches}
use Rattle.royalty_program.specs.Args.{HasArgs, IsOptionalArg, IsRequiredArg, file_rule, optional_rule}
use Rattle.royalty_program.specs.InputCommand.{FindsInputs, HasInputArgs, with_inputs}
use Rattle.run_inputs.specs.Inputs.{inputs_of}
use Rattle.royalty_program.proofs.OptionLemmas.{HasOptions, are_names, as_optional, has_more, has_value, optional_same, options_of}
use Rattle.royalty_program.proofs.SplitLemmas.{required_same}

-- a new command with the four options has them
pub adds_four : (c0 c1 c2 c3 c4 : Command) (app : App) (tis payees cwr usage : Arg) → HasArgs c0 [] app
    → AddsArg c0 tis c1 → AddsArg c1 payees c2 → AddsArg c2 cwr c3 → AddsArg c3 usage c4
    → IsRequiredArg (codes "tis") tis → IsOptionalArg (codes "payees") payees → IsRequiredArg (codes "cwr") cwr → IsRequiredArg (codes "usage") usage
    → rule_of tis ≡ file_rule (codes "tis") → rule_of payees ≡ optional_rule (codes "payees") → rule_of cwr ≡ file_rule (codes "cwr") → rule_of usage ≡ file_rule (codes "usage")
    → HasInputArgs c4 [] (with_inputs app)
adds_four c0 c1 c2 c3 c4 app tis payees cwr usage has a1 a a2 a3 n1 np n2 n3 r1 rp r2 r3 =
    let h1 = has_more c0 c1 tis _ _ _ _ has a1 (as_optional _ tis n1) r1 in
    let hp = has_more c1 c2 payees _ _ _ _ h1 a np rp in
    let h2 = has_more c2 c3 cwr _ _ _ _ hp a2 (as_optional _ cwr n2) r2 in record {
      tis = a1.arg;
      payees = a.arg;
      cwr = a2.arg;
      usage = a3.arg;
      needs_tis = required_same _ tis a1.arg a1.rules n1;
      may_have_payees = optional_same _ payees a.arg a.rules np;
      needs_cwr = required_same _ cwr a2.arg a2.rules n2;
      needs_usage = required_same _ usage a3.arg a3.rules n3;
      has = has_more c3 c4 usage _ _ _ _ h2 a3 (as_optional _ usage n3) r3;
    }

-- a command has them still where it has the arguments behind them and more
pub has_inputs_still : (old new : Command) (more all : List Arg) (app grown : App) (inputs : HasInputArgs old more app)
    → HasArgs new (inputs.tis ∷ inputs.payees ∷ inputs.cwr ∷ inputs.usage ∷ all) grown → HasInputArgs new all grown
has_inputs_still old new more all app grown inputs has = record {
  tis = inputs.tis;
  payees = inputs.payees;
  cwr = inputs.cwr;
  usage = inputs.usage;
  needs_tis = inputs.needs_tis;
  may_have_payees = inputs.may_have_payees;
  needs_cwr = inputs.needs_cwr;
  needs_usage = inputs.needs_usage;
  has = has;
}

-- one more argument is added behind them
pub adds_more : (old new : Command) (a : Arg) (more : List Arg) (app : App) (name : List ℕ) (rule : Rule) → HasInputArgs old more app → (added : AddsArg old a new)
    → IsOptionalArg name a → rule_of a ≡ rule → HasInputArgs new (more ++ added.arg ∷ []) (with_rule app rule)
adds_more old new a more app name rule inputs added needed is =
    has_inputs_still old new more (more ++ added.arg ∷ []) app (with_rule app rule) inputs (has_more old new a _ app name rule inputs.has added needed is)

-- the names of the options
abbrev pub input_names : (more : List Text) → List Text
input_names more = codes "tis" ∷ codes "payees" ∷ codes "cwr" ∷ codes "usage" ∷ more

pub input_options : (c : Command) (more : List Arg) (names : List Text) (app : App) → HasInputArgs c more app → map (λ a. a.id.now) more ≡ names → are_names (input_names names) ≡ true
    → HasOptions c (input_names names) app
input_options c more names app inputs ids are =
    options_of c (inputs.tis ∷ inputs.payees ∷ inputs.cwr ∷ inputs.usage ∷ more) (input_names names) app inputs.has
    (rw (inputs.needs_tis.id, inputs.may_have_payees.id, inputs.needs_cwr.id, inputs.needs_usage.id, ids) refl) are

pub finds_inputs : (c : Command) (m : ArgMatches) (more : List Arg) (names : List Text) (app : App) → HasInputArgs c more app → HasOptions c (input_names names) app → IsParsedFrom c m → FindsInputs m
finds_inputs c m more names app inputs options p = record {
  tis = has_value c (input_names names) app m (codes "tis") inputs.tis 0 options p inputs.needs_tis (rw inputs.has.list refl) (omega arith);
  cwr = has_value c (input_names names) app m (codes "cwr") inputs.cwr 2 options p inputs.needs_cwr (rw inputs.has.list refl) (omega arith);
  usage = has_value c (input_names names) app m (codes "usage") inputs.usage 3 options p inputs.needs_usage (rw inputs.has.list refl) (omega arith);
}

-- paths are the same one by one
pub same_paths : {tis tis' : List ℕ} {payees payees' : Option (List ℕ)} {cwr cwr' usage usage' : List ℕ} → tis ≡ tis' → payees ≡ payees' → cwr ≡ cwr' → usage ≡ usage'
    → inputs_of tis payees cwr usage ≡ inputs_of tis' payees' cwr' usage'
same_paths same_tis same_payees same_cwr same_usage = rw (same_tis, same_payees, same_cwr, same_usage) refl
