-- What a parse of the words of documents gives.
use Rattle.std.proofs.Common.{◌≡◌, ◌++◌, List, [], ◌∷◌, Some, true, length, refl, subst, append_assoc, arith, codes}
use Rattle.clap.specs.Words.{AddsArg, App, HasMatchesOf, IsParsedFrom, Text, app_of, args_of, found_of, is_simple, is_simple_and_free, matches_of, new_app, rows_of, rule_of}
use Rattle.clap.specs.declared.builder.arg.Arg.{Arg}
use Rattle.clap.specs.declared.builder.command.Command.{Command}
use Rattle.clap.specs.declared.builder.value_parser.ValueParser.TheVariants as vp
use Rattle.clap.specs.declared.parser.matches.ArgMatches.{ArgMatches}
use Rattle.split_run.specs.Plans.{MOST_NODES}
use Rattle.split_run.specs.declared.TheConstants.{MOST_THREADS}
use Rattle.royalty_program.specs.Args.{HasArgs, IsOptionalArg, IsRequiredArg, file_rule, optional_number_rule, optional_rule}
use Rattle.royalty_program.specs.InputCommand.{HasInputArgs, with_inputs}
use Rattle.royalty_program.specs.StatementsCommand.{AddsDocumentArgs, DocumentArgs, FindsDocuments, IsStatementsCommand, IsSubmittedStatementsCommand}
use Rattle.royalty_program.specs.StatementsCommand.{MOST_DECIMALS, args_in, decimals_rule, statements_app, submitted_statements_app, with_documents}
use Rattle.royalty_program.specs.SubmittedCommand.{HasSubmittedArgs, with_submitted}
use Rattle.royalty_program.proofs.InputLemmas.{adds_more, has_inputs_still, input_names, input_options}
use Rattle.royalty_program.proofs.OptionLemmas.{HasOptions, as_optional, has_more, has_value, optional_same, options_of, rows_are}
use Rattle.royalty_program.proofs.OptionalLemmas.{may_find_number}
use Rattle.royalty_program.proofs.SplitLemmas.{required_same}
use Rattle.royalty_program.proofs.SubmittedLemmas.{has_submitted_still, names_before}

-- ---- the command

-- arguments that are added one by one stand behind those that were there
one_by_one : (before : List Arg) (a b c d e f g h : Arg)
    → (((((((before ++ a ∷ []) ++ b ∷ []) ++ c ∷ []) ++ d ∷ []) ++ e ∷ []) ++ f ∷ []) ++ g ∷ []) ++ h ∷ []
    ≡ before ++ a ∷ b ∷ c ∷ d ∷ e ∷ f ∷ g ∷ h ∷ []
one_by_one before a b c d e f g h = simp append_assoc

-- a command with the eight arguments too
pub adds_eight : (c0 c1 c2 c3 c4 c5 c6 c7 c8 : Command) (names to title currency decimals workers readers nodes : Arg)
    → AddsArg c0 names c1 → AddsArg c1 to c2 → AddsArg c2 title c3 → AddsArg c3 currency c4
    → AddsArg c4 decimals c5 → AddsArg c5 workers c6 → AddsArg c6 readers c7 → AddsArg c7 nodes c8
    → IsOptionalArg (codes "names") names → IsRequiredArg (codes "to") to → IsOptionalArg (codes "title") title → IsOptionalArg (codes "currency") currency
    → IsOptionalArg (codes "decimals") decimals → IsOptionalArg (codes "workers") workers → IsOptionalArg (codes "readers") readers → IsOptionalArg (codes "nodes") nodes
    → rule_of names ≡ optional_rule (codes "names") → rule_of to ≡ file_rule (codes "to") → rule_of title ≡ optional_rule (codes "title")
    → rule_of currency ≡ optional_rule (codes "currency") → rule_of decimals ≡ decimals_rule
    → rule_of workers ≡ optional_number_rule (codes "workers") MOST_THREADS → rule_of readers ≡ optional_number_rule (codes "readers") MOST_THREADS
    → rule_of nodes ≡ optional_number_rule (codes "nodes") MOST_NODES
    → decimals.value_parser ≡ Some (vp.Unsigned 0 MOST_DECIMALS) → workers.value_parser ≡ Some (vp.Unsigned 1 MOST_THREADS)
    → readers.value_parser ≡ Some (vp.Unsigned 1 MOST_THREADS) → nodes.value_parser ≡ Some (vp.Unsigned 1 MOST_NODES)
    → AddsDocumentArgs c0 c8
adds_eight c0 c1 c2 c3 c4 c5 c6 c7 c8 names to title currency decimals workers readers nodes
    a1 a2 a3 a4 a5 a6 a7 a8 n1 n2 n3 n4 n5 n6 n7 n8 r1 r2 r3 r4 r5 r6 r7 r8 p5 p6 p7 p8 = record {
      own = record {
        names = a1.arg;
        to = a2.arg;
        title = a3.arg;
        currency = a4.arg;
        decimals = a5.arg;
        workers = a6.arg;
        readers = a7.arg;
        nodes = a8.arg;
        may_have_names = optional_same _ names a1.arg a1.rules n1;
        needs_to = required_same _ to a2.arg a2.rules n2;
        may_have_title = optional_same _ title a3.arg a3.rules n3;
        may_have_currency = optional_same _ currency a4.arg a4.rules n4;
        may_have_decimals = optional_same _ decimals a5.arg a5.rules n5;
        may_have_workers = optional_same _ workers a6.arg a6.rules n6;
        may_have_readers = optional_same _ readers a7.arg a7.rules n7;
        may_have_nodes = optional_same _ nodes a8.arg a8.rules n8;
        few_decimals = a5.rules.parser _ p5;
        few_workers = a6.rules.parser _ p6;
        few_readers = a7.rules.parser _ p7;
        few_nodes = a8.rules.parser _ p8;
      };
      has = λ before app has.
          let h1 = has_more c0 c1 names _ _ _ _ has a1 n1 r1 in
          let h2 = has_more c1 c2 to _ _ _ _ h1 a2 (as_optional _ to n2) r2 in
          let h3 = has_more c2 c3 title _ _ _ _ h2 a3 n3 r3 in
          let h4 = has_more c3 c4 currency _ _ _ _ h3 a4 n4 r4 in
          let h5 = has_more c4 c5 decimals _ _ _ _ h4 a5 n5 r5 in
          let h6 = has_more c5 c6 workers _ _ _ _ h5 a6 n6 r6 in
          let h7 = has_more c6 c7 readers _ _ _ _ h6 a7 n7 r7 in
          subst (λ (args : List Arg). HasArgs c8 args (with_documents app))
          (one_by_one before a1.arg a2.arg a3.arg a4.arg a5.arg a6.arg a7.arg a8.arg)
          (has_more c7 c8 nodes _ _ _ _ h7 a8 n8 r8);
    }

-- with those of a run over one file it is the command of its documents
pub adds_to_inputs : (c0 c1 c2 : Command) (works : Arg) → HasInputArgs c0 [] (with_inputs (new_app (codes "statements"))) → AddsArg c0 works c1
    → IsOptionalArg (codes "works") works → rule_of works ≡ optional_rule (codes "works") → AddsDocumentArgs c1 c2 → IsStatementsCommand c2
adds_to_inputs c0 c1 c2 works inputs a may rule added =
    let h = adds_more c0 c1 works _ _ _ _ inputs a may rule in record {
      works = a.arg;
      own = added.own;
      may_have_works = optional_same _ works a.arg a.rules may;
      inputs = has_inputs_still c1 c2 _ (a.arg ∷ args_in added.own) _ statements_app h (added.has _ _ h.has);
    }

-- with those of a run over the files of several submitters that of its documents
pub adds_to_submitted : (c0 c1 : Command) → HasSubmittedArgs c0 [] (with_submitted (new_app (codes "statements"))) → AddsDocumentArgs c0 c1 → IsSubmittedStatementsCommand c1
adds_to_submitted c0 c1 h added = record {
  own = added.own;
  inputs = has_submitted_still c0 c1 _ (args_in added.own) _ submitted_statements_app h (added.has _ _ h.has);
}

pub statements_simple : is_simple statements_app ≡ true
statements_simple = refl

pub statements_free : is_simple_and_free statements_app ≡ true
statements_free = refl

pub submitted_statements_simple : is_simple submitted_statements_app ≡ true
submitted_statements_simple = refl

pub submitted_statements_free : is_simple_and_free submitted_statements_app ≡ true
submitted_statements_free = refl

-- ---- the options

-- the names of the eight
abbrev own_names : List Text
own_names = codes "names" ∷ codes "to" ∷ codes "title" ∷ codes "currency" ∷ codes "decimals" ∷ codes "workers" ∷ codes "readers" ∷ codes "nodes" ∷ []

abbrev pub statements_names : List Text
statements_names = input_names (codes "works" ∷ own_names)

abbrev pub submitted_statements_names : List Text
submitted_statements_names = names_before own_names

pub statements_options : (c : Command) → IsStatementsCommand c → HasOptions c statements_names statements_app
statements_options c s =
    let a = s.own in
    input_options c (s.works ∷ args_in a) (codes "works" ∷ own_names) statements_app s.inputs
    (rw (
      s.may_have_works.id,
      a.may_have_names.id,
      a.needs_to.id,
      a.may_have_title.id,
      a.may_have_currency.id,
      a.may_have_decimals.id,
      a.may_have_workers.id,
      a.may_have_readers.id,
      a.may_have_nodes.id,
    ) refl) refl

pub submitted_statements_options : (c : Command) → IsSubmittedStatementsCommand c → HasOptions c submitted_statements_names submitted_statements_app
submitted_statements_options c s =
    let i = s.inputs in
    let a = s.own in
    options_of c (i.tis ∷ i.payees ∷ i.works ∷ i.cwr ∷ i.usage ∷ args_in a) submitted_statements_names submitted_statements_app i.has
    (rw (
      i.needs_tis.id,
      i.may_have_payees.id,
      i.needs_works.id,
      i.has_cwr.id,
      i.needs_usage.id,
      a.may_have_names.id,
      a.needs_to.id,
      a.may_have_title.id,
      a.may_have_currency.id,
      a.may_have_decimals.id,
      a.may_have_workers.id,
      a.may_have_readers.id,
      a.may_have_nodes.id,
    ) refl) refl

-- what a parse found is what clap's reading of the words has
pub rows_of_statements : (c : Command) (m : ArgMatches) (words : List Text) → IsStatementsCommand c → HasMatchesOf (app_of c) words m
    → rows_of (found_of m) ≡ matches_of statements_app words
rows_of_statements c m words s found = rows_are c statements_names statements_app m words (statements_options c s) statements_simple found

pub rows_of_submitted_statements : (c : Command) (m : ArgMatches) (words : List Text) → IsSubmittedStatementsCommand c → HasMatchesOf (app_of c) words m
    → rows_of (found_of m) ≡ matches_of submitted_statements_app words
rows_of_submitted_statements c m words s found =
    rows_are c submitted_statements_names submitted_statements_app m words (submitted_statements_options c s) submitted_statements_simple found

-- ---- a parse

-- a parse of a command that has the eight behind five more finds the folder, and no number out of its range
finds_behind : (c : Command) (m : ArgMatches) (names : List Text) (app : App) (one two three four five : Arg) (a : DocumentArgs)
    → args_of c ≡ one ∷ two ∷ three ∷ four ∷ five ∷ args_in a → length names ≡ 13 → HasOptions c names app → IsParsedFrom c m → FindsDocuments m
finds_behind c m names app one two three four five a list many o p = record {
  to = has_value c names app m (codes "to") a.to 6 o p a.needs_to (rw list refl) (omega arith);
  decimals = may_find_number c names app m (codes "decimals") 0 MOST_DECIMALS a.decimals 9 o p a.may_have_decimals (rw list refl) (omega arith) a.few_decimals;
  plan = record {
    workers = may_find_number c names app m (codes "workers") 1 MOST_THREADS a.workers 10 o p a.may_have_workers (rw list refl) (omega arith) a.few_workers;
    readers = may_find_number c names app m (codes "readers") 1 MOST_THREADS a.readers 11 o p a.may_have_readers (rw list refl) (omega arith) a.few_readers;
    nodes = may_find_number c names app m (codes "nodes") 1 MOST_NODES a.nodes 12 o p a.may_have_nodes (rw list refl) (omega arith) a.few_nodes;
  };
}

pub finds_documents : (c : Command) (m : ArgMatches) → IsStatementsCommand c → IsParsedFrom c m → FindsDocuments m
finds_documents c m s p =
    let i = s.inputs in
    finds_behind c m statements_names statements_app i.tis i.payees i.cwr i.usage s.works s.own i.has.list refl (statements_options c s) p

pub finds_submitted_documents : (c : Command) (m : ArgMatches) → IsSubmittedStatementsCommand c → IsParsedFrom c m → FindsDocuments m
finds_submitted_documents c m s p =
    let i = s.inputs in
    finds_behind c m submitted_statements_names submitted_statements_app i.tis i.payees i.works i.cwr i.usage s.own i.has.list refl (submitted_statements_options c s) p
