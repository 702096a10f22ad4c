-- What a parse finds in the words of a run, and why it may fail.
use Rattle.std.proofs.Common.{◌≡◌, ◌∙◌, List, [], ◌∷◌, ◌++◌, Option, Some, None, sym, subst, ap, refl, inl, inr, arith, true, false, codes}
use Rattle.std.specs.List.{fold}
use Rattle.std.specs.Option.{IfSome}
use Rattle.clap.specs.Words.{Row, Rule, Shape, Text, built, fault_of, is_simple, is_simple_and_free, matches_of}
use Rattle.clap.specs.Faults.{defaults_fault, turn_fault, walk_fault}
use Rattle.clap.specs.Walk.{Walk, after_step, finished, idle, next, nothing_held, option, plain_word, walk, walk_from, walked}
use Rattle.clap.specs.declared.builder.value_parser.ValueParser.TheVariants as vp
use Rattle.clap.specs.declared.error.kind.ErrorKind.TheVariants as kinds
use Rattle.split_run.specs.Plans.{MOST_NODES}
use Rattle.split_run.specs.declared.TheConstants.{MOST_THREADS}
use Rattle.royalty_program.specs.Asked.{AreRunWords, AskForHelp, IsValue, payees_words}
use Rattle.royalty_program.specs.RunCommand.{run_app}
use Rattle.royalty_program.proofs.NoHelp.{NoHelp, fault_after, in_turn, no_kind, one_kind, values_no_help}
use Rattle.royalty_program.proofs.ValueWords.{row, turn_step, value_met}

pub run_simple : is_simple run_app ≡ true
run_simple = refl

pub run_free : is_simple_and_free run_app ≡ true
run_free = refl

-- the command and its options, as clap builds them
abbrev run : Shape
run = (built run_app).top

abbrev rules : List Rule
rules = run.rules

-- ---- the walk over the words

-- the walk once an option is read, with these rows before it
abbrev asked : List Row → Text → Walk
asked rows id = record {
  held = record { rows = rows; pending = Some (id, []); skip = 0 };
  waiting = option id;
  position = 1;
  is_trailing = false;
  stopped = None;
}

-- and once its value is read too
abbrev given : List Row → Text → Text → Walk
given rows id word = record {
  held = record { rows = rows; pending = Some (id, word ∷ []); skip = 0 };
  waiting = idle;
  position = 1;
  is_trailing = false;
  stopped = None;
}

-- the option takes one word that is none
abbrev TakesOne : Text → Type 0
TakesOne id = (rows : List Row) (word : Text) → plain_word rules (option id) word (asked rows id).held ≡ ((given rows id word).held, next idle)

reads_value : (rows : List Row) (id word : Text) → TakesOne id → IsValue word → walked rules [] (asked rows id) word ≡ given rows id word
unfolding walked
reads_value rows id word takes is =
    ap (λ met. after_step rules word (asked rows id) met.0 met.1)
    (value_met rules (option id) 1 word (asked rows id).held ((given rows id word).held, next idle) is refl (takes rows word))

takes_tis : TakesOne (codes "tis")
takes_tis rows word = refl

takes_payees : TakesOne (codes "payees")
takes_payees rows word = refl

takes_cwr : TakesOne (codes "cwr")
takes_cwr rows word = refl

takes_usage : TakesOne (codes "usage")
takes_usage rows word = refl

takes_workers : TakesOne (codes "workers")
takes_workers rows word = refl

takes_readers : TakesOne (codes "readers")
takes_readers rows word = refl

takes_nodes : TakesOne (codes "nodes")
takes_nodes rows word = refl

-- the rows of the options read so far
abbrev rows_tis : Text → List Row
rows_tis tis = row (codes "tis") (tis ∷ []) ∷ []

abbrev rows_payees : Option Text → List Row
rows_payees None = []
rows_payees (Some payees) = row (codes "payees") (payees ∷ []) ∷ []

abbrev rows_1 : (tis : Text) (payees : Option Text) → List Row
rows_1 tis payees = row (codes "tis") (tis ∷ []) ∷ rows_payees payees

abbrev rows_2 : (tis : Text) (payees : Option Text) (cwr : Text) → List Row
rows_2 tis payees cwr = row (codes "tis") (tis ∷ []) ∷ (rows_payees payees ++ row (codes "cwr") (cwr ∷ []) ∷ [])

abbrev rows_3 : (tis : Text) (payees : Option Text) (cwr usage : Text) → List Row
rows_3 tis payees cwr usage =
    row (codes "tis") (tis ∷ []) ∷ (rows_payees payees ++ row (codes "cwr") (cwr ∷ []) ∷ row (codes "usage") (usage ∷ []) ∷ [])

abbrev rows_4 : (tis : Text) (payees : Option Text) (cwr usage workers : Text) → List Row
rows_4 tis payees cwr usage workers =
    row (codes "tis") (tis ∷ []) ∷ (rows_payees payees ++ row (codes "cwr") (cwr ∷ []) ∷ row (codes "usage") (usage ∷ [])
    ∷ row (codes "workers") (workers ∷ []) ∷ [])

abbrev rows_5 : (tis : Text) (payees : Option Text) (cwr usage workers readers : Text) → List Row
rows_5 tis payees cwr usage workers readers =
    row (codes "tis") (tis ∷ []) ∷ (rows_payees payees ++ row (codes "cwr") (cwr ∷ []) ∷ row (codes "usage") (usage ∷ [])
    ∷ row (codes "workers") (workers ∷ []) ∷ row (codes "readers") (readers ∷ []) ∷ [])

abbrev pub rows_6 : (tis : Text) (payees : Option Text) (cwr usage workers readers nodes : Text) → List Row
rows_6 tis payees cwr usage workers readers nodes =
    row (codes "tis") (tis ∷ []) ∷ (rows_payees payees ++ row (codes "cwr") (cwr ∷ []) ∷ row (codes "usage") (usage ∷ [])
    ∷ row (codes "workers") (workers ∷ []) ∷ row (codes "readers") (readers ∷ []) ∷ row (codes "nodes") (nodes ∷ []) ∷ [])

-- the walk before the option of the registrations
abbrev before_cwr : Text → Option Text → Walk
before_cwr tis None = given [] (codes "tis") tis
before_cwr tis (Some payees) = given (rows_tis tis) (codes "payees") payees

-- an option word is met, and the option before it is done
asks_tis : walked rules [] (walk_from nothing_held) (codes "--tis") ≡ asked [] (codes "tis")
unfolding walked
asks_tis = refl

asks_payees : (tis : Text) → walked rules [] (given [] (codes "tis") tis) (codes "--payees") ≡ asked (rows_tis tis) (codes "payees")
unfolding walked
asks_payees tis = refl

asks_cwr : (tis : Text) (payees : Option Text) → walked rules [] (before_cwr tis payees) (codes "--cwr") ≡ asked (rows_1 tis payees) (codes "cwr")
unfolding walked
asks_cwr tis None = refl
asks_cwr tis (Some payees) = refl

asks_usage : (tis : Text) (payees : Option Text) (cwr : Text)
    → walked rules [] (given (rows_1 tis payees) (codes "cwr") cwr) (codes "--usage") ≡ asked (rows_2 tis payees cwr) (codes "usage")
unfolding walked
asks_usage tis None cwr = refl
asks_usage tis (Some payees) cwr = refl

asks_workers : (tis : Text) (payees : Option Text) (cwr usage : Text)
    → walked rules [] (given (rows_2 tis payees cwr) (codes "usage") usage) (codes "--workers") ≡ asked (rows_3 tis payees cwr usage) (codes "workers")
unfolding walked
asks_workers tis None cwr usage = refl
asks_workers tis (Some payees) cwr usage = refl

asks_readers : (tis : Text) (payees : Option Text) (cwr usage workers : Text)
    → walked rules [] (given (rows_3 tis payees cwr usage) (codes "workers") workers) (codes "--readers")
    ≡ asked (rows_4 tis payees cwr usage workers) (codes "readers")
unfolding walked
asks_readers tis None cwr usage workers = refl
asks_readers tis (Some payees) cwr usage workers = refl

asks_nodes : (tis : Text) (payees : Option Text) (cwr usage workers readers : Text)
    → walked rules [] (given (rows_4 tis payees cwr usage workers) (codes "readers") readers) (codes "--nodes")
    ≡ asked (rows_5 tis payees cwr usage workers readers) (codes "nodes")
unfolding walked
asks_nodes tis None cwr usage workers readers = refl
asks_nodes tis (Some payees) cwr usage workers readers = refl

-- an option and its value
walks_two : (w : Walk) (rows : List Row) (flag id word : Text) (more : List Text) → walked rules [] w flag ≡ asked rows id → TakesOne id → IsValue word
    → fold (walked rules []) w (flag ∷ word ∷ more) ≡ fold (walked rules []) (given rows id word) more
walks_two w rows flag id word more asks takes is =
    ap (λ (v : Walk). fold (walked rules []) v (word ∷ more)) asks
    ∙ ap (λ (v : Walk). fold (walked rules []) v more) (reads_value rows id word takes is)

-- the words of a run from its options on
abbrev pub from_nodes : Text → List Text
from_nodes nodes = codes "--nodes" ∷ nodes ∷ []

abbrev pub from_readers : (readers nodes : Text) → List Text
from_readers readers nodes = codes "--readers" ∷ readers ∷ from_nodes nodes

abbrev pub from_workers : (workers readers nodes : Text) → List Text
from_workers workers readers nodes = codes "--workers" ∷ workers ∷ from_readers readers nodes

abbrev pub from_usage : (usage workers readers nodes : Text) → List Text
from_usage usage workers readers nodes = codes "--usage" ∷ usage ∷ from_workers workers readers nodes

abbrev pub from_cwr : (cwr usage workers readers nodes : Text) → List Text
from_cwr cwr usage workers readers nodes = codes "--cwr" ∷ cwr ∷ from_usage usage workers readers nodes

abbrev options : (tis : Text) (payees : Option Text) (cwr usage workers readers nodes : Text) → List Text
options tis payees cwr usage workers readers nodes = codes "--tis" ∷ tis ∷ (payees_words payees ++ from_cwr cwr usage workers readers nodes)

-- the values are no options
record AreValues (tis : Text) (payees : Option Text) (cwr usage workers readers nodes : Text) : Type 0 where
  tis_is : IsValue tis
  payees_is : IfSome payees IsValue
  cwr_is : IsValue cwr
  usage_is : IsValue usage
  workers_is : IsValue workers
  readers_is : IsValue readers
  nodes_is : IsValue nodes

walks_payees : (tis : Text) (payees : Option Text) (more : List Text) → IfSome payees IsValue
    → fold (walked rules []) (given [] (codes "tis") tis) (payees_words payees ++ more) ≡ fold (walked rules []) (before_cwr tis payees) more
walks_payees tis None more is = refl
walks_payees tis (Some payees) more is = walks_two _ _ (codes "--payees") _ payees more (asks_payees tis) takes_payees is

walks_all : (tis : Text) (payees : Option Text) (cwr usage workers readers nodes : Text) → AreValues tis payees cwr usage workers readers nodes
    → walk rules [] nothing_held (options tis payees cwr usage workers readers nodes) ≡ given (rows_5 tis payees cwr usage workers readers) (codes "nodes") nodes
walks_all tis payees cwr usage workers readers nodes are =
    walks_two _ _ (codes "--tis") _ tis (payees_words payees ++ from_cwr cwr usage workers readers nodes) asks_tis takes_tis are.tis_is
    ∙ walks_payees tis payees (from_cwr cwr usage workers readers nodes) are.payees_is
    ∙ walks_two _ _ (codes "--cwr") _ cwr (from_usage usage workers readers nodes) (asks_cwr tis payees) takes_cwr are.cwr_is
    ∙ walks_two _ _ (codes "--usage") _ usage (from_workers workers readers nodes) (asks_usage tis payees cwr) takes_usage are.usage_is
    ∙ walks_two _ _ (codes "--workers") _ workers (from_readers readers nodes) (asks_workers tis payees cwr usage) takes_workers are.workers_is
    ∙ walks_two _ _ (codes "--readers") _ readers (from_nodes nodes) (asks_readers tis payees cwr usage workers) takes_readers are.readers_is
    ∙ walks_two _ _ (codes "--nodes") _ nodes [] (asks_nodes tis payees cwr usage workers readers) takes_nodes are.nodes_is

are_values : (words : List Text) (r : AreRunWords words) → AreValues r.tis r.payees r.cwr r.usage r.workers r.readers r.nodes
are_values words r = record {
  tis_is = r.values 0 [] (omega arith);
  payees_is = r.payees_value;
  cwr_is = r.values 1 [] (omega arith);
  usage_is = r.values 2 [] (omega arith);
  workers_is = r.values 3 [] (omega arith);
  readers_is = r.values 4 [] (omega arith);
  nodes_is = r.values 5 [] (omega arith);
}

-- once no word is left, the last option is done
all_rows : (tis : Text) (payees : Option Text) (cwr usage workers readers nodes : Text)
    → finished rules (given (rows_5 tis payees cwr usage workers readers) (codes "nodes") nodes).held ≡ rows_6 tis payees cwr usage workers readers nodes
all_rows tis None cwr usage workers readers nodes = refl
all_rows tis (Some payees) cwr usage workers readers nodes = refl

-- the matches are the options with their values
pub run_matches : (words : List Text) (r : AreRunWords words) → matches_of run_app words ≡ rows_6 r.tis r.payees r.cwr r.usage r.workers r.readers r.nodes
run_matches words r = ap (matches_of run_app) r.form
    ∙ ap (λ (w : Walk). finished rules w.held) (walks_all r.tis r.payees r.cwr r.usage r.workers r.readers r.nodes (are_values words r))
    ∙ all_rows r.tis r.payees r.cwr r.usage r.workers r.readers r.nodes

-- ---- the kinds of error

-- an option and its value fail as the option before them does
faults_two : (w : Walk) (rows : List Row) (flag id word : Text) (more : List Text) → walked rules [] w flag ≡ asked rows id → TakesOne id → IsValue word
    → NoHelp (turn_fault run [] w flag) → NoHelp (walk_fault run [] (given rows id word) more) → NoHelp (walk_fault run [] w (flag ∷ word ∷ more))
unfolding walk_fault
faults_two w rows flag id word more asks takes is here after =
    let turn : turn_fault run [] (asked rows id) word ≡ [] = turn_step run (asked rows id) word ((given rows id word).held, next idle) is refl refl refl (takes rows word) in
    let at_value : NoHelp (walk_fault run [] (asked rows id) (word ∷ more)) = in_turn _ _ (subst NoHelp (sym turn) no_kind)
    (subst (λ (v : Walk). NoHelp (walk_fault run [] v more)) (sym (reads_value rows id word takes is)) after) in
    in_turn _ _ here (subst (λ (v : Walk). NoHelp (walk_fault run [] v (word ∷ more))) (sym asks) at_value)

-- with no word left, none is refused
none_left : (w : Walk) → NoHelp (walk_fault run [] w [])
unfolding walk_fault
none_left w = no_kind

-- an option is refused only for the value of the option before it, where that is no number in its range
tis_turn : NoHelp (turn_fault run [] (walk_from nothing_held) (codes "--tis"))
tis_turn = no_kind

payees_turn : (tis : Text) → NoHelp (turn_fault run [] (given [] (codes "tis") tis) (codes "--payees"))
payees_turn tis = no_kind

cwr_turn : (tis : Text) (payees : Option Text) → NoHelp (turn_fault run [] (before_cwr tis payees) (codes "--cwr"))
cwr_turn tis None = no_kind
cwr_turn tis (Some payees) = no_kind

usage_turn : (tis : Text) (payees : Option Text) (cwr : Text) → NoHelp (turn_fault run [] (given (rows_1 tis payees) (codes "cwr") cwr) (codes "--usage"))
usage_turn tis None cwr = no_kind
usage_turn tis (Some payees) cwr = no_kind

workers_turn : (tis : Text) (payees : Option Text) (cwr usage : Text)
    → NoHelp (turn_fault run [] (given (rows_2 tis payees cwr) (codes "usage") usage) (codes "--workers"))
workers_turn tis None cwr usage = no_kind
workers_turn tis (Some payees) cwr usage = no_kind

readers_turn : (tis : Text) (payees : Option Text) (cwr usage workers : Text)
    → NoHelp (turn_fault run [] (given (rows_3 tis payees cwr usage) (codes "workers") workers) (codes "--readers"))
readers_turn tis None cwr usage workers = in_turn _ _ (values_no_help (vp.Unsigned 1 MOST_THREADS) (one_kind kinds.ValueValidation (λ e. cc) (λ e. cc)) (workers ∷ [])) no_kind
readers_turn tis (Some payees) cwr usage workers = in_turn _ _ (values_no_help (vp.Unsigned 1 MOST_THREADS) (one_kind kinds.ValueValidation (λ e. cc) (λ e. cc)) (workers ∷ [])) no_kind

nodes_turn : (tis : Text) (payees : Option Text) (cwr usage workers readers : Text)
    → NoHelp (turn_fault run [] (given (rows_4 tis payees cwr usage workers) (codes "readers") readers) (codes "--nodes"))
nodes_turn tis None cwr usage workers readers = in_turn _ _ (values_no_help (vp.Unsigned 1 MOST_THREADS) (one_kind kinds.ValueValidation (λ e. cc) (λ e. cc)) (readers ∷ [])) no_kind
nodes_turn tis (Some payees) cwr usage workers readers = in_turn _ _ (values_no_help (vp.Unsigned 1 MOST_THREADS) (one_kind kinds.ValueValidation (λ e. cc) (λ e. cc)) (readers ∷ [])) no_kind

-- after the words, only the last number may be refused
nodes_after : (tis : Text) (payees : Option Text) (cwr usage workers readers nodes : Text)
    → NoHelp (fault_after run_app (given (rows_5 tis payees cwr usage workers readers) (codes "nodes") nodes))
unfolding defaults_fault
nodes_after tis None cwr usage workers readers nodes = in_turn _ _
    (values_no_help (vp.Unsigned 1 MOST_NODES) (one_kind kinds.ValueValidation (λ e. cc) (λ e. cc)) (nodes ∷ [])) no_kind
nodes_after tis (Some payees) cwr usage workers readers nodes = in_turn _ _
    (values_no_help (vp.Unsigned 1 MOST_NODES) (one_kind kinds.ValueValidation (λ e. cc) (λ e. cc)) (nodes ∷ [])) no_kind

-- the option of the payees and its value are not refused, where they are there
payees_no_help : (tis : Text) (payees : Option Text) (more : List Text) → IfSome payees IsValue
    → NoHelp (walk_fault run [] (before_cwr tis payees) more) → NoHelp (walk_fault run [] (given [] (codes "tis") tis) (payees_words payees ++ more))
payees_no_help tis None more is after = after
payees_no_help tis (Some payees) more is after = faults_two _ _ (codes "--payees") _ payees more (asks_payees tis) takes_payees is (payees_turn tis) after

-- so no word asks for help
walk_no_help : (tis : Text) (payees : Option Text) (cwr usage workers readers nodes : Text) → AreValues tis payees cwr usage workers readers nodes
    → NoHelp (walk_fault run [] (walk_from nothing_held) (options tis payees cwr usage workers readers nodes))
walk_no_help tis payees cwr usage workers readers nodes are =
    faults_two _ _ (codes "--tis") _ tis (payees_words payees ++ from_cwr cwr usage workers readers nodes) asks_tis takes_tis are.tis_is tis_turn
    (payees_no_help tis payees (from_cwr cwr usage workers readers nodes) are.payees_is
    (faults_two _ _ (codes "--cwr") _ cwr (from_usage usage workers readers nodes) (asks_cwr tis payees) takes_cwr are.cwr_is (cwr_turn tis payees)
    (faults_two _ _ (codes "--usage") _ usage (from_workers workers readers nodes) (asks_usage tis payees cwr) takes_usage are.usage_is (usage_turn tis payees cwr)
    (faults_two _ _ (codes "--workers") _ workers (from_readers readers nodes) (asks_workers tis payees cwr usage) takes_workers are.workers_is (workers_turn tis payees cwr usage)
    (faults_two _ _ (codes "--readers") _ readers (from_nodes nodes) (asks_readers tis payees cwr usage workers) takes_readers are.readers_is (readers_turn tis payees cwr usage workers)
    (faults_two _ _ (codes "--nodes") _ nodes [] (asks_nodes tis payees cwr usage workers readers) takes_nodes are.nodes_is (nodes_turn tis payees cwr usage workers readers)
    (none_left _)))))))

fault_no_help : (words : List Text) → AreRunWords words → NoHelp (fault_of run_app words)
fault_no_help words r =
    let are = are_values words r in
    subst (λ (l : List Text). NoHelp (fault_of run_app l)) (sym r.form)
    (in_turn _ _ (walk_no_help r.tis r.payees r.cwr r.usage r.workers r.readers r.nodes are)
    (subst (λ (w : Walk). NoHelp (fault_after run_app w)) (sym (walks_all r.tis r.payees r.cwr r.usage r.workers r.readers r.nodes are))
    (nodes_after r.tis r.payees r.cwr r.usage r.workers r.readers r.nodes)))

-- so the words ask for no help
pub no_help : (words : List Text) → AreRunWords words → ¬ AskForHelp run_app words
unfolding AskForHelp
no_help words r asks = elim asks [
  | inl help ↦ ((fault_no_help words r).asks kinds.DisplayHelp help).0 refl
  | inr version ↦ ((fault_no_help words r).asks kinds.DisplayVersion version).1 refl
]
