-- What a parse of the words of a run over the files of several submitters gives.
use Rattle.std.proofs.Common.{◌≡◌, ◌++◌, ◌∙◌, ℕ, List, [], ◌∷◌, Option, Some, true, refl, arith, codes, inl, inr, subst, ap}
use Rattle.std.specs.Result.{IfErr, IsErrAnd}
use Rattle.std.specs.Prelude.{Result, Ok, Err}
use Rattle.clap.specs.Words.{AddsArg, App, HasMatchesOf, IsParsedFrom, Rule, Text, app_of, fault_of, found_of, is_simple, is_simple_and_free, kind_of, matches_of, new_app, rows_of, rule_of, with_rule}
use Rattle.clap.specs.declared.builder.arg.Arg.{Arg}
use Rattle.clap.specs.declared.builder.command.Command.{Command}
use Rattle.clap.specs.declared.builder.value_parser.ValueParser.TheVariants as vp
use Rattle.clap.specs.declared.error.Error.{Error}
use Rattle.clap.specs.declared.error.kind.ErrorKind.TheVariants as kinds
use Rattle.clap.specs.declared.parser.matches.ArgMatches.{ArgMatches}
use Rattle.line_split.specs.declared.TheConstants.{MOST_LINES}
use Rattle.split_run.specs.Plans.{MOST_NODES}
use Rattle.split_run.specs.declared.TheConstants.{MOST_THREADS}
use Rattle.royalty_program.specs.Args.{HasArgs, IsOptionalArg, IsRequiredArg, file_rule, number_rule, optional_rule}
use Rattle.royalty_program.specs.Asked.{AreAccepted, IsErrorOf, IsSubmittedError, files_given, number_given}
use Rattle.royalty_program.specs.NamedFiles.{AreNamed, AreNamedBy}
use Rattle.royalty_program.specs.declared.named_files.NamedFiles.{NamedFiles}
use Rattle.royalty_program.specs.SubmittedFiles.{SubmittedPaths}
use Rattle.submitted_inputs.specs.declared.inputs.SubmittedTables.{SubmittedTables}
use Rattle.royalty_program.specs.PlanWords.{FindsNumber, FindsPlan}
use Rattle.royalty_program.specs.SubmittedCommand.{FindsTables, HasSubmittedArgs, IsSubmittedCheckCommand, IsSubmittedCommand, IsSubmittedExplainCommand, files_rule, submitted_app, submitted_check_app, submitted_explain_app, with_submitted}
use Rattle.royalty_program.proofs.OptionLemmas.{HasOptions, IsNumberOf, IsUpTo, as_optional, finds_number, has_entry, has_more, has_value, number_is, number_read, optional_same, options_of, rows_are}
use Rattle.royalty_program.proofs.SplitLemmas.{required_same}

-- a new command with the five options has them
pub adds_five : (c0 c1 c2 c3 c4 c5 : Command) (app : App) (tis payees works cwr usage : Arg) → HasArgs c0 [] app
    → AddsArg c0 tis c1 → AddsArg c1 payees c2 → AddsArg c2 works c3 → AddsArg c3 cwr c4 → AddsArg c4 usage c5
    → IsRequiredArg (codes "tis") tis → IsOptionalArg (codes "payees") payees → IsRequiredArg (codes "works") works → IsOptionalArg (codes "cwr") cwr
    → IsRequiredArg (codes "usage") usage → cwr.required ≡ true
    → rule_of tis ≡ file_rule (codes "tis") → rule_of payees ≡ optional_rule (codes "payees") → rule_of works ≡ file_rule (codes "works")
    → rule_of cwr ≡ files_rule (codes "cwr") → rule_of usage ≡ file_rule (codes "usage")
    → HasSubmittedArgs c5 [] (with_submitted app)
adds_five c0 c1 c2 c3 c4 c5 app tis payees works cwr usage has a1 a2 a3 a4 a5 n1 n2 n3 n4 n5 needed r1 r2 r3 r4 r5 =
    let h1 = has_more c0 c1 tis _ _ _ _ has a1 (as_optional _ tis n1) r1 in
    let h2 = has_more c1 c2 payees _ _ _ _ h1 a2 n2 r2 in
    let h3 = has_more c2 c3 works _ _ _ _ h2 a3 (as_optional _ works n3) r3 in
    let h4 = has_more c3 c4 cwr _ _ _ _ h3 a4 n4 r4 in record {
      tis = a1.arg;
      payees = a2.arg;
      works = a3.arg;
      cwr = a4.arg;
      usage = a5.arg;
      needs_tis = required_same _ tis a1.arg a1.rules n1;
      may_have_payees = optional_same _ payees a2.arg a2.rules n2;
      needs_works = required_same _ works a3.arg a3.rules n3;
      has_cwr = optional_same _ cwr a4.arg a4.rules n4;
      needs_cwr = a4.rules.required ∙ needed;
      needs_usage = required_same _ usage a5.arg a5.rules n5;
      has = has_more c4 c5 usage _ _ _ _ h4 a5 (as_optional _ usage n5) r5;
    }

-- a command has them still where it has the arguments behind them and more
pub has_submitted_still : (old new : Command) (more all : List Arg) (app grown : App) (inputs : HasSubmittedArgs old more app)
    → HasArgs new (inputs.tis ∷ inputs.payees ∷ inputs.works ∷ inputs.cwr ∷ inputs.usage ∷ all) grown → HasSubmittedArgs new all grown
has_submitted_still old new more all app grown inputs has = record {
  tis = inputs.tis;
  payees = inputs.payees;
  works = inputs.works;
  cwr = inputs.cwr;
  usage = inputs.usage;
  needs_tis = inputs.needs_tis;
  may_have_payees = inputs.may_have_payees;
  needs_works = inputs.needs_works;
  has_cwr = inputs.has_cwr;
  needs_cwr = inputs.needs_cwr;
  needs_usage = inputs.needs_usage;
  has = has;
}

-- one more argument is added behind them
adds_more : (old new : Command) (a : Arg) (more : List Arg) (app : App) (name : List ℕ) (rule : Rule) → HasSubmittedArgs old more app → (added : AddsArg old a new)
    → IsOptionalArg name a → rule_of a ≡ rule → HasSubmittedArgs new (more ++ added.arg ∷ []) (with_rule app rule)
adds_more old new a more app name rule inputs added needed is =
    has_submitted_still old new more (more ++ added.arg ∷ []) app (with_rule app rule) inputs (has_more old new a _ app name rule inputs.has added needed is)

-- and with these four it is the command of such a run
pub adds_four_more : (c0 c1 c2 c3 c4 : Command) (workers readers nodes output : Arg) → HasSubmittedArgs c0 [] (with_submitted (new_app (codes "run")))
    → AddsArg c0 workers c1 → AddsArg c1 readers c2 → AddsArg c2 nodes c3 → AddsArg c3 output c4
    → IsRequiredArg (codes "workers") workers → IsRequiredArg (codes "readers") readers → IsRequiredArg (codes "nodes") nodes → IsOptionalArg (codes "output") output
    → rule_of workers ≡ number_rule (codes "workers") MOST_THREADS → rule_of readers ≡ number_rule (codes "readers") MOST_THREADS
    → rule_of nodes ≡ number_rule (codes "nodes") MOST_NODES → rule_of output ≡ optional_rule (codes "output")
    → workers.value_parser ≡ Some (vp.Unsigned 1 MOST_THREADS) → readers.value_parser ≡ Some (vp.Unsigned 1 MOST_THREADS)
    → nodes.value_parser ≡ Some (vp.Unsigned 1 MOST_NODES)
    → IsSubmittedCommand c4
adds_four_more c0 c1 c2 c3 c4 workers readers nodes output inputs a1 a2 a3 a4 n1 n2 n3 n4 r1 r2 r3 r4 p1 p2 p3 =
    let h1 = adds_more c0 c1 workers _ _ _ _ inputs a1 (as_optional _ workers n1) r1 in
    let h2 = adds_more c1 c2 readers _ _ _ _ h1 a2 (as_optional _ readers n2) r2 in
    let h3 = adds_more c2 c3 nodes _ _ _ _ h2 a3 (as_optional _ nodes n3) r3 in record {
      workers = a1.arg;
      readers = a2.arg;
      nodes = a3.arg;
      output = a4.arg;
      needs_workers = required_same _ workers a1.arg a1.rules n1;
      needs_readers = required_same _ readers a2.arg a2.rules n2;
      needs_nodes = required_same _ nodes a3.arg a3.rules n3;
      may_have_output = optional_same _ output a4.arg a4.rules n4;
      few_workers = a1.rules.parser _ p1;
      few_readers = a2.rules.parser _ p2;
      few_nodes = a3.rules.parser _ p3;
      inputs = adds_more c3 c4 output _ _ _ _ h3 a4 n4 r4;
    }

-- or with this one that of an explanation
pub adds_row_too : (c0 c1 : Command) (row : Arg) → HasSubmittedArgs c0 [] (with_submitted (new_app (codes "explain"))) → AddsArg c0 row c1
    → IsRequiredArg (codes "row") row → rule_of row ≡ number_rule (codes "row") MOST_LINES → row.value_parser ≡ Some (vp.Unsigned 1 MOST_LINES)
    → IsSubmittedExplainCommand c1
adds_row_too c0 c1 row inputs a needed rule parser = record {
  row = a.arg;
  needs_row = required_same _ row a.arg a.rules needed;
  few_rows = a.rules.parser _ parser;
  inputs = adds_more c0 c1 row _ _ _ _ inputs a (as_optional _ row needed) rule;
}

pub submitted_simple : is_simple submitted_app ≡ true
submitted_simple = refl

pub submitted_free : is_simple_and_free submitted_app ≡ true
submitted_free = refl

pub submitted_explain_simple : is_simple submitted_explain_app ≡ true
submitted_explain_simple = refl

pub submitted_explain_free : is_simple_and_free submitted_explain_app ≡ true
submitted_explain_free = refl

pub submitted_check_simple : is_simple submitted_check_app ≡ true
submitted_check_simple = refl

pub submitted_check_free : is_simple_and_free submitted_check_app ≡ true
submitted_check_free = refl

-- the names of the options
abbrev pub names_before : (more : List Text) → List Text
names_before more = codes "tis" ∷ codes "payees" ∷ codes "works" ∷ codes "cwr" ∷ codes "usage" ∷ more

abbrev pub submitted_names : List Text
submitted_names = names_before (codes "workers" ∷ codes "readers" ∷ codes "nodes" ∷ codes "output" ∷ [])

abbrev pub submitted_explain_names : List Text
submitted_explain_names = names_before (codes "row" ∷ [])

abbrev pub submitted_check_names : List Text
submitted_check_names = names_before []

pub submitted_options : (c : Command) → IsSubmittedCommand c → HasOptions c submitted_names submitted_app
submitted_options c s =
    let i = s.inputs in
    options_of c (i.tis ∷ i.payees ∷ i.works ∷ i.cwr ∷ i.usage ∷ s.workers ∷ s.readers ∷ s.nodes ∷ s.output ∷ []) submitted_names submitted_app i.has
    (rw (
      i.needs_tis.id,
      i.may_have_payees.id,
      i.needs_works.id,
      i.has_cwr.id,
      i.needs_usage.id,
      s.needs_workers.id,
      s.needs_readers.id,
      s.needs_nodes.id,
      s.may_have_output.id,
    ) refl) refl

-- what a parse found is what clap's reading of the words has
pub rows_of_submitted : (c : Command) (m : ArgMatches) (words : List Text) → IsSubmittedCommand c → HasMatchesOf (app_of c) words m → rows_of (found_of m) ≡ matches_of submitted_app words
rows_of_submitted c m words s found = rows_are c submitted_names submitted_app m words (submitted_options c s) submitted_simple found

-- a command of an explanation has its options
pub submitted_explain_options : (c : Command) → IsSubmittedExplainCommand c → HasOptions c submitted_explain_names submitted_explain_app
submitted_explain_options c s =
    let i = s.inputs in
    options_of c (i.tis ∷ i.payees ∷ i.works ∷ i.cwr ∷ i.usage ∷ s.row ∷ []) submitted_explain_names submitted_explain_app i.has
    (rw (i.needs_tis.id, i.may_have_payees.id, i.needs_works.id, i.has_cwr.id, i.needs_usage.id, s.needs_row.id) refl) refl

pub rows_of_submitted_explain : (c : Command) (m : ArgMatches) (words : List Text) → IsSubmittedExplainCommand c → HasMatchesOf (app_of c) words m
    → rows_of (found_of m) ≡ matches_of submitted_explain_app words
rows_of_submitted_explain c m words s found =
    rows_are c submitted_explain_names submitted_explain_app m words (submitted_explain_options c s) submitted_explain_simple found

-- so has that of a check
pub submitted_check_options : (c : Command) → IsSubmittedCheckCommand c → HasOptions c submitted_check_names submitted_check_app
submitted_check_options c i =
    options_of c (i.tis ∷ i.payees ∷ i.works ∷ i.cwr ∷ i.usage ∷ []) submitted_check_names submitted_check_app i.has
    (rw (i.needs_tis.id, i.may_have_payees.id, i.needs_works.id, i.has_cwr.id, i.needs_usage.id) refl) refl

pub rows_of_submitted_check : (c : Command) (m : ArgMatches) (words : List Text) → IsSubmittedCheckCommand c → HasMatchesOf (app_of c) words m
    → rows_of (found_of m) ≡ matches_of submitted_check_app words
rows_of_submitted_check c m words s found =
    rows_are c submitted_check_names submitted_check_app m words (submitted_check_options c s) submitted_check_simple found

-- a parse finds the tables and the files
pub finds_tables : (c : Command) (m : ArgMatches) (more : List Arg) (names : List Text) (app : App) → HasSubmittedArgs c more app
    → HasOptions c (names_before names) app → IsParsedFrom c m → FindsTables m
finds_tables c m more names app i o p = record {
  tis = has_value c (names_before names) app m (codes "tis") i.tis 0 o p i.needs_tis (rw i.has.list refl) (omega arith);
  works = has_value c (names_before names) app m (codes "works") i.works 2 o p i.needs_works (rw i.has.list refl) (omega arith);
  usage = has_value c (names_before names) app m (codes "usage") i.usage 4 o p i.needs_usage (rw i.has.list refl) (omega arith);
  files = has_entry c (names_before names) app m (codes "cwr") i.cwr 3 o p i.has_cwr i.needs_cwr (rw i.has.list refl) (omega arith);
}

-- the one of an explanation the row too
finds_row_too : (c : Command) (m : ArgMatches) → IsSubmittedExplainCommand c → IsParsedFrom c m → FindsNumber m (codes "row") MOST_LINES
finds_row_too c m s p =
    finds_number c submitted_explain_names submitted_explain_app m (codes "row") MOST_LINES s.row 5 (submitted_explain_options c s) p s.needs_row
    (rw s.inputs.has.list refl) (omega arith) s.few_rows

pub row_read_too : (c : Command) (m : ArgMatches) (r : Option ℕ) → IsSubmittedExplainCommand c → IsParsedFrom c m → IsNumberOf m (codes "row") r → IsUpTo MOST_LINES r
row_read_too c m r s p = number_read m (codes "row") MOST_LINES r (finds_row_too c m s p)

pub row_is_too : (c : Command) (m : ArgMatches) (words : List Text) (r : Option ℕ) (n : ℕ) → IsSubmittedExplainCommand c → IsParsedFrom c m
    → rows_of (found_of m) ≡ matches_of submitted_explain_app words → IsNumberOf m (codes "row") r → r ≡ Some n → n ≡ number_given submitted_explain_app (codes "row") words
row_is_too c m words r n s p are = number_is submitted_explain_app m words (codes "row") MOST_LINES r n are (finds_row_too c m s p)

-- and the one of a run a plan
pub finds_plan_too : (c : Command) (m : ArgMatches) → IsSubmittedCommand c → IsParsedFrom c m → FindsPlan m
finds_plan_too c m s p =
    let o = submitted_options c s in record {
      workers = finds_number c submitted_names submitted_app m (codes "workers") MOST_THREADS s.workers 5 o p s.needs_workers (rw s.inputs.has.list refl) (omega arith) s.few_workers;
      readers = finds_number c submitted_names submitted_app m (codes "readers") MOST_THREADS s.readers 6 o p s.needs_readers (rw s.inputs.has.list refl) (omega arith) s.few_readers;
      nodes = finds_number c submitted_names submitted_app m (codes "nodes") MOST_NODES s.nodes 7 o p s.needs_nodes (rw s.inputs.has.list refl) (omega arith) s.few_nodes;
    }

-- ---- the error of a command with names of files

-- words whose parse does not fail are accepted
pub accepted_by : (app : App) (c : Command) (words : List Text) → app_of c ≡ app → is_simple_and_free app ≡ true
    → (is_simple_and_free (app_of c) ≡ true → fault_of (app_of c) words ≡ []) → AreAccepted app words
unfolding AreAccepted
accepted_by app c words shape free passes = subst (λ (a : App). fault_of a words ≡ []) shape (passes (ap is_simple_and_free shape ∙ free))

-- lack of memory may come at any words
pub memory_of_files : {T : Type 0} (app : App) (words : List Text) (r : Result T Error) → IsErrAnd r (λ e. kind_of e ≡ kinds.OutOfMemory) → IfErr r (IsSubmittedError app words)
unfolding IsErrorOf
memory_of_files app words (Ok x) is = absurd is
memory_of_files app words (Err e) is = inl (inl is)

-- values that name no files of submitters are an error of the words that give them
pub wrong_values : (app : App) (words values : List Text) (e : Error) → AreAccepted app words → values ≡ files_given app words → ¬ AreNamed values
    → kind_of e ≡ kinds.ValueValidation → IsSubmittedError app words e
wrong_values app words values e accepted same wrong kind =
    inr (record { accepted = accepted; files = subst (λ (v : List Text). ¬ AreNamed v) same wrong; kind = kind })

-- ---- what the words give

abbrev submitted_of : SubmittedTables Text → (names files : List Text) → SubmittedPaths
submitted_of tables names files = record { tables = tables; names = names; files = files }

-- paths are the same where their tables, names and files are
pub same_submitted : (paths : SubmittedPaths) (tables : SubmittedTables Text) (names files : List Text) → tables ≡ paths.tables → names ≡ paths.names → files ≡ paths.files
    → submitted_of tables names files ≡ paths
same_submitted paths tables names files one two three = rw (one, two, three) refl

-- values of a parse are those that the words give
pub named_by_words : (app : App) (words values : List Text) (files : NamedFiles) → values ≡ files_given app words → AreNamedBy values files → AreNamedBy (files_given app words) files
named_by_words app words values files same named = subst (λ (v : List Text). AreNamedBy v files) same named
