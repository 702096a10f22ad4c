-- What a parse of the words of a merge gives.
use Rattle.std.proofs.Common.{◌≡◌, ◌∙◌, ◌<◌, List, [], ◌∷◌, length, Option, Some, None, Result, Ok, Err, true, refl, subst, ap, inl, inr, arith, codes, is_some}
use Rattle.std.specs.Option.{IsSome, option_map, unwrap_or}
use Rattle.std.specs.Prelude.{find, option_and_then, slice_get}
use Rattle.std.specs.Result.{IfErr, IsErrAnd}
use Rattle.std.specs.Str.{bytes_eq}
use Rattle.std.proofs.lemmas.Bool.{false≢true}
use Rattle.clap.specs.Words.{AddsArg, App, IsParsedFrom, Row, Text, app_of, fault_of, first_of, first_value, found_of, is_simple, is_simple_and_free, kind_of, matched_of, matches_of, new_app, raw_values, rows_of, rule_of}
use Rattle.clap.specs.declared.builder.arg.Arg.{Arg}
use Rattle.clap.specs.declared.builder.command.Command.{Command}
use Rattle.clap.specs.declared.error.Error.{Error}
use Rattle.clap.specs.declared.error.kind.ErrorKind.TheVariants as kinds
use Rattle.clap.specs.declared.parser.matches.ArgMatches.{ArgMatches}
use Rattle.clap.proofs.WalkLemmas.{first_value-rows}
use Rattle.royalty_program.specs.Asked.{AreAccepted, IsErrorOf, IsMergeError, paths_given}
use Rattle.royalty_program.specs.MergeCommand.{AreWrongPaths, IsMergeCommand, IsPathError, merge_app, statements_rule}
use Rattle.royalty_program.specs.Args.{HasArgs, IsOptionalArg, IsRequiredArg, optional_rule}
use Rattle.royalty_program.proofs.OptionLemmas.{HasOptions, as_optional, has_more, has_value, optional_same, options_of, values_are}
use Rattle.royalty_program.proofs.SplitLemmas.{required_same, some_of_map}

-- a new command with the two arguments is the command of a merge
pub adds_both : (c0 c1 c2 : Command) (output statements : Arg) → HasArgs c0 [] (new_app (codes "merge")) → AddsArg c0 output c1 → AddsArg c1 statements c2
    → IsOptionalArg (codes "output") output → IsRequiredArg (codes "statements") statements → rule_of output ≡ optional_rule (codes "output") → rule_of statements ≡ statements_rule
    → IsMergeCommand c2
adds_both c0 c1 c2 output statements has a1 a2 n1 n2 r1 r2 =
    let h1 = has_more c0 c1 output _ _ _ _ has a1 n1 r1 in record {
      output = a1.arg;
      statements = a2.arg;
      may_have_output = optional_same _ output a1.arg a1.rules n1;
      needs_statements = required_same _ statements a2.arg a2.rules n2;
      has = has_more c1 c2 statements _ _ _ _ h1 a2 (as_optional _ statements n2) r2;
    }

pub merge_simple : is_simple merge_app ≡ true
merge_simple = refl

pub merge_free : is_simple_and_free merge_app ≡ true
merge_free = refl

-- the names of its arguments
abbrev pub merge_names : List Text
merge_names = codes "output" ∷ codes "statements" ∷ []

pub merge_options : (c : Command) → IsMergeCommand c → HasOptions c merge_names merge_app
merge_options c s = options_of c (s.output ∷ s.statements ∷ []) merge_names merge_app s.has (rw (s.may_have_output.id, s.needs_statements.id) refl) refl

has_statements : (c : Command) (m : ArgMatches) → IsMergeCommand c → IsParsedFrom c m → is_some (first_value (found_of m) (codes "statements")) ≡ true
has_statements c m s p = has_value c merge_names merge_app m (codes "statements") s.statements 1 (merge_options c s) p s.needs_statements (rw s.has.list refl) (omega arith)

-- what leads to something is something
led_to : {X Y : Type 0} (f : X → Option Y) (o : Option X) → is_some (option_and_then f o) ≡ true → is_some o ≡ true
led_to f None given = given
led_to f (Some x) given = refl

-- so an answer that shows the values of the statements is some answer
pub statements_there : {X : Type 0} (f : X → List Text) (c : Command) (m : ArgMatches) (r : Option X) → IsMergeCommand c → IsParsedFrom c m
    → option_map f r ≡ option_map raw_values (matched_of (found_of m) (codes "statements")) → IsSome r
statements_there f c m r s p same = some_of_map f raw_values r _ same (led_to _ (matched_of (found_of m) (codes "statements")) (has_statements c m s p))

-- and it shows the paths that are given
pub statements_are : {X : Type 0} (f : X → List Text) (m : ArgMatches) (words : List Text) (r : Option X) (v : X) → rows_of (found_of m) ≡ matches_of merge_app words
    → option_map f r ≡ option_map raw_values (matched_of (found_of m) (codes "statements")) → r ≡ Some v → f v ≡ paths_given merge_app (codes "statements") words
statements_are f m words r v are same is = values_are f merge_app m words (codes "statements") r v are same is

some_text : (values : List Text) → is_some (slice_get values 0) ≡ true → 0 < length values
some_text [] given = absurd (false≢true given)
some_text (value ∷ more) given = omega arith

some_values : (o : Option Row) → is_some (option_and_then (λ (r : Row). slice_get r.values 0) o) ≡ true → 0 < length (unwrap_or (option_map (λ (r : Row). r.values) o) [])
some_values None given = absurd (false≢true given)
some_values (Some row) given = some_text row.values given

-- of which there is one at least
pub statements_some : (c : Command) (m : ArgMatches) (words : List Text) → IsMergeCommand c → IsParsedFrom c m → rows_of (found_of m) ≡ matches_of merge_app words
    → 0 < length (paths_given merge_app (codes "statements") words)
unfolding paths_given
statements_some c m words s p are = some_values (find (λ (r : Row). bytes_eq r.id (codes "statements")) (matches_of merge_app words))
    (subst (λ (o : Option Text). is_some o ≡ true) (first_value-rows (found_of m) (codes "statements") ∙ ap (first_of (codes "statements")) are) (has_statements c m s p))

-- ---- the error

-- words whose parse does not fail are accepted
pub accepted_is : (c : Command) (words : List Text) → IsMergeCommand c → (is_simple_and_free (app_of c) ≡ true → fault_of (app_of c) words ≡ []) → AreAccepted merge_app words
unfolding AreAccepted
accepted_is c words s passes = subst (λ (a : App). fault_of a words ≡ []) s.has.shape (passes (ap is_simple_and_free s.has.shape ∙ merge_free))

-- lack of memory may come at any words
pub memory_of_merge : {T : Type 0} (words : List Text) (r : Result T Error) → IsErrAnd r (λ e. kind_of e ≡ kinds.OutOfMemory) → IfErr r (IsMergeError words)
unfolding IsErrorOf
memory_of_merge words (Ok x) is = absurd is
memory_of_merge words (Err e) is = inl (inl is)

-- an error of the paths is one of the words that give them
pub error_of_paths : (words paths : List Text) (e : Error) → AreAccepted merge_app words → paths ≡ paths_given merge_app (codes "statements") words → IsPathError paths e → IsMergeError words e
unfolding IsErrorOf
error_of_paths words paths e accepted same (inl memory) = inl (inl memory)
error_of_paths words paths e accepted same (inr (kind, wrong)) = inr (record { accepted = accepted; paths = subst AreWrongPaths same wrong; kind = kind })
