-- What the command of a merge asks of its words.
use Rattle.std.specs.Prelude.{ℕ, ◌≡◌, ◌<◌, ◌≤◌, ◌⊎◌, ◌∷◌, List, [], Some, true, codes, length}
use Rattle.clap.specs.Words.{App, Rule, kind_of, new_app, new_rule, with_rule}
use Rattle.clap.specs.Lexer.{usize_max}
use Rattle.clap.specs.declared.builder.action.ArgAction.TheVariants.{Set}
use Rattle.clap.specs.declared.builder.arg.Arg.{Arg}
use Rattle.clap.specs.declared.builder.command.Command.{Command}
use Rattle.clap.specs.declared.error.Error.{Error}
use Rattle.clap.specs.declared.error.kind.ErrorKind.TheVariants as kinds
use Rattle.pair_split.specs.Pair.{word_at}
use Rattle.royalty_program.specs.Args.{HasArgs, IsOptionalArg, IsRequiredArg, optional_rule}

-- what a parse reads of the paths of the statements, and of the command
abbrev pub statements_rule : Rule
statements_rule = record (new_rule (codes "statements")) {
  action = Some Set;
  range = Some (record { start_inclusive = 1; end_inclusive = usize_max });
  value_names = 1;
  required = true;
}

abbrev pub merge_app : App
merge_app = with_rule (with_rule (new_app (codes "merge")) (optional_rule (codes "output"))) statements_rule

-- the command has two arguments: the path of the output, which need not be there, and the paths of the statements
pub record IsMergeCommand (c : Command) : Type 0 where
  pub output : Arg
  pub statements : Arg
  pub may_have_output : IsOptionalArg (codes "output") output
  pub needs_statements : IsRequiredArg (codes "statements") statements
  pub has : HasArgs c (output ∷ statements ∷ []) merge_app

-- the path at i stands before it too
abbrev pub IsNamedBefore : List (List ℕ) → ℕ → Type 0
IsNamedBefore paths i = (i < length paths) × ((j : ℕ) × (j < i) × (word_at paths j ≡ word_at paths i))

-- no more than are merged at once, and each stands once
pub record AreFewAndDifferent (paths : List (List ℕ)) : Type 0 where
  pub few : length paths ≤ 1024
  pub once : (i : ℕ) → ¬ IsNamedBefore paths i

-- there are too many paths, or one of them stands twice
abbrev pub AreWrongPaths : List (List ℕ) → Type 0
AreWrongPaths paths = (1024 < length paths) ⊎ ((i : ℕ) × IsNamedBefore paths i)

-- the error is that of such paths, or memory was refused
abbrev pub IsPathError : List (List ℕ) → Error → Type 0
IsPathError paths error = (kind_of error ≡ kinds.OutOfMemory) ⊎ ((kind_of error ≡ kinds.ValueValidation) × AreWrongPaths paths)
