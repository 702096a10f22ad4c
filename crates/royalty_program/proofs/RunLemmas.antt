-- What a parse of the words of a run gives.
use Rattle.std.proofs.Common.{◌≡◌, ◌∙◌, ◌++◌, ap, subst, sym, ℕ, Bool, false, List, [], ◌∷◌, Option, Some, None, refl, arith, codes}
use Rattle.std.specs.List.{list_any}
use Rattle.std.specs.Prelude.{if◌then◌else◌}
use Rattle.std.specs.Option.{IfSome, option_map, unwrap_or}
use Rattle.clap.specs.Words.{AddsArg, HasMatchesOf, IsParsedFrom, Row, Text, app_of, first_of, found_of, matches_of, new_app, one_of, rows_of, rule_of}
use Rattle.clap.specs.declared.builder.arg.Arg.{Arg}
use Rattle.clap.specs.declared.builder.command.Command.{Command}
use Rattle.clap.specs.declared.builder.value_parser.ValueParser.TheVariants as vp
use Rattle.clap.specs.declared.parser.matches.ArgMatches.{ArgMatches}
use Rattle.std.proofs.lemmas.Bool.{ne_eqb}
use Rattle.split_run.specs.Plans.{MOST_NODES, Planned}
use Rattle.split_run.specs.declared.TheConstants.{MOST_THREADS}
use Rattle.royalty_program.specs.Answered.{AreOneFile, AreReadFrom, AreReadInOrder}
use Rattle.royalty_program.specs.Args.{IsOptionalArg, IsRequiredArg, number_rule, optional_rule}
use Rattle.royalty_program.specs.Asked.{AreRunWords, IsValue, inputs_given, is_works_word, name_works, number_given, number_in, path_given, path_if_given, paths_in_order, payees_words, plan_given}
use Rattle.royalty_program.specs.declared.run_command.RunWords.{RunWords}
use Rattle.royalty_program.specs.InputCommand.{HasInputArgs, with_inputs}
use Rattle.royalty_program.specs.PlanWords.{FindsPlan}
use Rattle.royalty_program.specs.RunCommand.{IsRunCommand, run_app}
use Rattle.royalty_program.specs.SubmittedCommand.{submitted_app}
use Rattle.run_inputs.specs.declared.inputs.Inputs.{Inputs}
use Rattle.royalty_program.proofs.InputLemmas.{adds_more, input_names, input_options, same_paths}
use Rattle.royalty_program.proofs.OptionLemmas.{HasOptions, as_optional, finds_number, optional_same, rows_are}
use Rattle.royalty_program.proofs.EitherLemmas.{of_one_file}
use Rattle.royalty_program.proofs.RunWalked.{from_cwr, from_nodes, from_readers, from_usage, from_workers, rows_6, run_matches, run_simple}
use Rattle.royalty_program.proofs.SplitLemmas.{required_same}

-- a command with the options of the files and these is the command of a run
pub adds_more_five : (c0 c1 c2 c3 c4 c5 : Command) (workers readers nodes output works : Arg) → HasInputArgs c0 [] (with_inputs (new_app (codes "run")))
    → AddsArg c0 workers c1 → AddsArg c1 readers c2 → AddsArg c2 nodes c3 → AddsArg c3 output c4 → AddsArg c4 works c5
    → IsRequiredArg (codes "workers") workers → IsRequiredArg (codes "readers") readers → IsRequiredArg (codes "nodes") nodes → IsOptionalArg (codes "output") output
    → IsOptionalArg (codes "works") works
    → rule_of workers ≡ number_rule (codes "workers") MOST_THREADS → rule_of readers ≡ number_rule (codes "readers") MOST_THREADS
    → rule_of nodes ≡ number_rule (codes "nodes") MOST_NODES → rule_of output ≡ optional_rule (codes "output") → rule_of works ≡ optional_rule (codes "works")
    → workers.value_parser ≡ Some (vp.Unsigned 1 MOST_THREADS) → readers.value_parser ≡ Some (vp.Unsigned 1 MOST_THREADS)
    → nodes.value_parser ≡ Some (vp.Unsigned 1 MOST_NODES)
    → IsRunCommand c5
adds_more_five c0 c1 c2 c3 c4 c5 workers readers nodes output works inputs a1 a2 a3 a4 a5 n1 n2 n3 n4 n5 r1 r2 r3 r4 r5 p1 p2 p3 =
    let h1 = adds_more c0 c1 workers _ _ _ _ inputs a1 (as_optional _ workers n1) r1 in
    let h2 = adds_more c1 c2 readers _ _ _ _ h1 a2 (as_optional _ readers n2) r2 in
    let h3 = adds_more c2 c3 nodes _ _ _ _ h2 a3 (as_optional _ nodes n3) r3 in
    let h4 = adds_more c3 c4 output _ _ _ _ h3 a4 n4 r4 in record {
      workers = a1.arg;
      readers = a2.arg;
      nodes = a3.arg;
      output = a4.arg;
      works = a5.arg;
      needs_workers = required_same _ workers a1.arg a1.rules n1;
      needs_readers = required_same _ readers a2.arg a2.rules n2;
      needs_nodes = required_same _ nodes a3.arg a3.rules n3;
      may_have_output = optional_same _ output a4.arg a4.rules n4;
      may_have_works = optional_same _ works a5.arg a5.rules n5;
      few_workers = a1.rules.parser _ p1;
      few_readers = a2.rules.parser _ p2;
      few_nodes = a3.rules.parser _ p3;
      inputs = adds_more c4 c5 works _ _ _ _ h4 a5 n5 r5;
    }

-- the names of its options
abbrev more_names : List Text
more_names = codes "workers" ∷ codes "readers" ∷ codes "nodes" ∷ codes "output" ∷ codes "works" ∷ []

abbrev pub run_names : List Text
run_names = input_names more_names

pub run_options : (c : Command) → IsRunCommand c → HasOptions c run_names run_app
run_options c s =
    input_options c (s.workers ∷ s.readers ∷ s.nodes ∷ s.output ∷ s.works ∷ []) more_names run_app s.inputs
    (rw (s.needs_workers.id, s.needs_readers.id, s.needs_nodes.id, s.may_have_output.id, s.may_have_works.id) refl) refl

-- what a parse found is what clap's reading of the words has
pub rows_of_run : (c : Command) (m : ArgMatches) (words : List Text) → IsRunCommand c → HasMatchesOf (app_of c) words m → rows_of (found_of m) ≡ matches_of run_app words
rows_of_run c m words s found = rows_are c run_names run_app m words (run_options c s) run_simple found

-- a parse finds a plan
pub finds_plan : (c : Command) (m : ArgMatches) → IsRunCommand c → IsParsedFrom c m → FindsPlan m
finds_plan c m s p = record {
  workers = finds_number c run_names run_app m (codes "workers") MOST_THREADS s.workers 4 (run_options c s) p s.needs_workers (rw s.inputs.has.list refl) (omega arith) s.few_workers;
  readers = finds_number c run_names run_app m (codes "readers") MOST_THREADS s.readers 5 (run_options c s) p s.needs_readers (rw s.inputs.has.list refl) (omega arith) s.few_readers;
  nodes = finds_number c run_names run_app m (codes "nodes") MOST_NODES s.nodes 6 (run_options c s) p s.needs_nodes (rw s.inputs.has.list refl) (omega arith) s.few_nodes;
}

-- a plan by its three numbers
pub same_plan : (plan : Planned) (a b c x y z : ℕ) → plan ≡ record { workers = a; readers = b; nodes = c } → a ≡ x → b ≡ y → c ≡ z
    → plan ≡ record { workers = x; readers = y; nodes = z }
same_plan plan a b c x y z is e f g = rw (e, f, g) at is

-- ---- the plain form

-- the rows of the options in the plain form
abbrev rows_in_order : (words : List Text) → AreRunWords words → List Row
rows_in_order words r = rows_6 r.tis r.payees r.cwr r.usage r.workers r.readers r.nodes

-- an option's path and number are the value after it
path_in_order : (words : List Text) (r : AreRunWords words) (name word : Text) → first_of name (rows_in_order words r) ≡ Some word → path_given run_app name words ≡ word
unfolding path_given
path_in_order words r name word found = ap (λ (o : Option Text). unwrap_or o []) (ap (first_of name) (run_matches words r) ∙ found)

number_in_order : (words : List Text) (r : AreRunWords words) (name word : Text) → one_of name (rows_in_order words r) ≡ Some word
    → number_given run_app name words ≡ number_in word
unfolding number_given
number_in_order words r name word found = ap (λ (o : Option Text). number_in (unwrap_or o [])) (ap (one_of name) (run_matches words r) ∙ found)

-- what is found of each option, with a table of payees and without
first_tis : (tis : Text) (payees : Option Text) (cwr usage workers readers nodes : Text) → first_of (codes "tis") (rows_6 tis payees cwr usage workers readers nodes) ≡ Some tis
first_tis tis None cwr usage workers readers nodes = refl
first_tis tis (Some payees) cwr usage workers readers nodes = refl

first_payees : (tis : Text) (payees : Option Text) (cwr usage workers readers nodes : Text) → first_of (codes "payees") (rows_6 tis payees cwr usage workers readers nodes) ≡ payees
first_payees tis None cwr usage workers readers nodes = refl
first_payees tis (Some payees) cwr usage workers readers nodes = refl

first_cwr : (tis : Text) (payees : Option Text) (cwr usage workers readers nodes : Text) → first_of (codes "cwr") (rows_6 tis payees cwr usage workers readers nodes) ≡ Some cwr
first_cwr tis None cwr usage workers readers nodes = refl
first_cwr tis (Some payees) cwr usage workers readers nodes = refl

first_usage : (tis : Text) (payees : Option Text) (cwr usage workers readers nodes : Text) → first_of (codes "usage") (rows_6 tis payees cwr usage workers readers nodes) ≡ Some usage
first_usage tis None cwr usage workers readers nodes = refl
first_usage tis (Some payees) cwr usage workers readers nodes = refl

one_workers : (tis : Text) (payees : Option Text) (cwr usage workers readers nodes : Text) → one_of (codes "workers") (rows_6 tis payees cwr usage workers readers nodes) ≡ Some workers
one_workers tis None cwr usage workers readers nodes = refl
one_workers tis (Some payees) cwr usage workers readers nodes = refl

one_readers : (tis : Text) (payees : Option Text) (cwr usage workers readers nodes : Text) → one_of (codes "readers") (rows_6 tis payees cwr usage workers readers nodes) ≡ Some readers
one_readers tis None cwr usage workers readers nodes = refl
one_readers tis (Some payees) cwr usage workers readers nodes = refl

one_nodes : (tis : Text) (payees : Option Text) (cwr usage workers readers nodes : Text) → one_of (codes "nodes") (rows_6 tis payees cwr usage workers readers nodes) ≡ Some nodes
one_nodes tis None cwr usage workers readers nodes = refl
one_nodes tis (Some payees) cwr usage workers readers nodes = refl

first_output : (tis : Text) (payees : Option Text) (cwr usage workers readers nodes : Text) → first_of (codes "output") (rows_6 tis payees cwr usage workers readers nodes) ≡ None
first_output tis None cwr usage workers readers nodes = refl
first_output tis (Some payees) cwr usage workers readers nodes = refl

-- the paths of the files
pub inputs_in_order : (words : List Text) (r : AreRunWords words) → inputs_given run_app words ≡ paths_in_order r
unfolding path_if_given
inputs_in_order words r = same_paths
    (path_in_order words r (codes "tis") r.tis (first_tis r.tis r.payees r.cwr r.usage r.workers r.readers r.nodes))
    (ap (first_of (codes "payees")) (run_matches words r) ∙ first_payees r.tis r.payees r.cwr r.usage r.workers r.readers r.nodes)
    (path_in_order words r (codes "cwr") r.cwr (first_cwr r.tis r.payees r.cwr r.usage r.workers r.readers r.nodes))
    (path_in_order words r (codes "usage") r.usage (first_usage r.tis r.payees r.cwr r.usage r.workers r.readers r.nodes))

-- no output is named
output_in_order : (words : List Text) (r : AreRunWords words) → path_if_given run_app (codes "output") words ≡ None
unfolding path_if_given
output_in_order words r = ap (first_of (codes "output")) (run_matches words r) ∙ first_output r.tis r.payees r.cwr r.usage r.workers r.readers r.nodes

none_shown : {X Y : Type 0} (f : X → Y) (o : Option X) → option_map f o ≡ None → o ≡ None
none_shown f None is = refl
none_shown f (Some x) is = cc

-- no word of the plain form is the option of the works
no_works : (word : Text) → IsValue word → is_works_word word ≡ false
no_works [] is = refl
no_works (byte ∷ more) is = rw (ne_eqb byte 45 is, ne_eqb 45 byte (λ same. is (sym same))) refl

none_of_two : (flag word : Text) (more : List Text) → is_works_word flag ≡ false → IsValue word → list_any is_works_word (flag ∷ word ∷ more) ≡ list_any is_works_word more
none_of_two flag word more none is = rw (none, no_works word is) refl

none_of_payees : (payees : Option Text) (more : List Text) → IfSome payees IsValue → list_any is_works_word (payees_words payees ++ more) ≡ list_any is_works_word more
none_of_payees None more is = refl
none_of_payees (Some payees) more is = none_of_two (codes "--payees") payees more refl is

pub is_of_one_file : (words : List Text) (r : AreRunWords words) → name_works words ≡ false
is_of_one_file words r = ap name_works r.form
    ∙ (none_of_two (codes "--tis") r.tis (payees_words r.payees ++ from_cwr r.cwr r.usage r.workers r.readers r.nodes) refl (r.values 0 [] (omega arith))
    ∙ (none_of_payees r.payees (from_cwr r.cwr r.usage r.workers r.readers r.nodes) r.payees_value
    ∙ (none_of_two (codes "--cwr") r.cwr (from_usage r.usage r.workers r.readers r.nodes) refl (r.values 1 [] (omega arith))
    ∙ (none_of_two (codes "--usage") r.usage (from_workers r.workers r.readers r.nodes) refl (r.values 2 [] (omega arith))
    ∙ (none_of_two (codes "--workers") r.workers (from_readers r.readers r.nodes) refl (r.values 3 [] (omega arith))
    ∙ (none_of_two (codes "--readers") r.readers (from_nodes r.nodes) refl (r.values 4 [] (omega arith))
    ∙ none_of_two (codes "--nodes") r.nodes [] refl (r.values 5 [] (omega arith))))))))

-- so what is read of the plain form are its values
pub read_in_order : (words : List Text) (asked : RunWords) (r : AreRunWords words) → AreReadFrom words asked → AreReadInOrder words r asked
read_in_order words asked r read =
    let one = is_of_one_file words r in record {
      inputs = subst (λ (paths : Inputs Text). AreOneFile paths asked.inputs) (inputs_in_order words r) (of_one_file _ _ _ one read.inputs);
      plan = same_plan asked.plan _ _ _ _ _ _ (read.plan ∙ ap (λ (several : Bool). plan_given (if several then submitted_app else run_app) words) one)
          (number_in_order words r (codes "workers") r.workers (one_workers r.tis r.payees r.cwr r.usage r.workers r.readers r.nodes))
          (number_in_order words r (codes "readers") r.readers (one_readers r.tis r.payees r.cwr r.usage r.workers r.readers r.nodes))
          (number_in_order words r (codes "nodes") r.nodes (one_nodes r.tis r.payees r.cwr r.usage r.workers r.readers r.nodes));
      output = none_shown _ asked.output
          (read.output ∙ (ap (λ (several : Bool). path_if_given (if several then submitted_app else run_app) (codes "output") words) one ∙ output_in_order words r));
    }
