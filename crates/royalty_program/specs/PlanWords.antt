-- The options of a plan, which is how many threads and nodes a run has.
use Rattle.std.specs.Prelude.{ℕ, ◌≡◌, Some, codes}
use Rattle.clap.specs.Words.{App, IsUnsignedIn, Text, found_of, one_text, with_rule}
use Rattle.clap.specs.declared.parser.matches.ArgMatches.{ArgMatches}
use Rattle.split_run.specs.Plans.{MOST_NODES}
use Rattle.split_run.specs.declared.TheConstants.{MOST_THREADS}
use Rattle.royalty_program.specs.Args.{number_rule, optional_number_rule}

-- what a parse reads of the three options
abbrev pub with_plan : App → App
with_plan app =
    with_rule (with_rule (with_rule app (number_rule (codes "workers") MOST_THREADS))
    (number_rule (codes "readers") MOST_THREADS)) (number_rule (codes "nodes") MOST_NODES)

-- and where they need not be there
abbrev pub with_optional_plan : App → App
with_optional_plan app =
    with_rule (with_rule (with_rule app (optional_number_rule (codes "workers") MOST_THREADS))
    (optional_number_rule (codes "readers") MOST_THREADS)) (optional_number_rule (codes "nodes") MOST_NODES)

-- a parse found a number from 1 to the most
abbrev pub FindsNumber : ArgMatches → (name : Text) → (most : ℕ) → Type 0
FindsNumber m name most = (text : Text) × (one_text (found_of m) name ≡ Some text) × IsUnsignedIn 1 most text

-- it found those of a plan
pub record FindsPlan (m : ArgMatches) : Type 0 where
  pub workers : FindsNumber m (codes "workers") MOST_THREADS
  pub readers : FindsNumber m (codes "readers") MOST_THREADS
  pub nodes : FindsNumber m (codes "nodes") MOST_NODES

-- a number that a parse found, if it found one, is in a range
abbrev pub MayFindNumber : ArgMatches → (name : Text) → (least most : ℕ) → Type 0
MayFindNumber m name least most =
    (text : Text) → one_text (found_of m) name ≡ Some text → IsUnsignedIn least most text

-- so are those of a plan
pub record MayFindPlan (m : ArgMatches) : Type 0 where
  pub workers : MayFindNumber m (codes "workers") 1 MOST_THREADS
  pub readers : MayFindNumber m (codes "readers") 1 MOST_THREADS
  pub nodes : MayFindNumber m (codes "nodes") 1 MOST_NODES
