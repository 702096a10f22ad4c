-- What a parse of the words of an import gives.
use Rattle.std.proofs.Common.{◌≡◌, ◌≢◌, ◌<◌, ◌+◌, ◌++◌, ◌∙◌, ℕ, arith, length, suc, take, ◌↔◌, Bool, List, [], ◌∷◌, Option, None, Some, Result, Err, Ok, IsTrue, false, true, not, ap, ap₂, append_assoc, codes, inl, inr, map, refl, subst, sym}
use Rattle.std.specs.Borrow.{Bor}
use Rattle.std.specs.Option.{option_map}
use Rattle.std.specs.Result.{IfErr, IsErrAnd}
use Rattle.std.specs.Str.{bytes_eq}
use Rattle.std.proofs.lemmas.Bool.{false≢true}
use Rattle.std.proofs.lemmas.Slice.Eq.{bytes_eq-Decides}
use Rattle.std.specs.List.{list_all, slice_index_or}
use Rattle.std.proofs.Math.Seq.{take-suc}
use Rattle.std.proofs.lemmas.List.{map-append, take-map}
use Rattle.clap.specs.Words.{AddsArg, App, HasMatchesOf, Rule, Text, app_of, first_value, found_of, is_simple, is_simple_and_free, kind_of, matched_of, matches_of, new_app, raw_values, rows_of, rule_of, with_rule}
use Rattle.clap.specs.declared.builder.arg.Arg.{Arg}
use Rattle.clap.specs.declared.builder.command.Command.{Command}
use Rattle.clap.specs.declared.error.Error.{Error}
use Rattle.clap.specs.declared.error.kind.ErrorKind.TheVariants as kinds
use Rattle.clap.specs.declared.parser.matches.ArgMatches.{ArgMatches}
use Rattle.decimal_amounts.specs.declared.amount.Mark.{Mark}
use Rattle.decimal_amounts.specs.declared.amount.Mark.TheVariants as marks
use Rattle.royalty_program.specs.Args.{HasArgs, IsOptionalArg}
use Rattle.royalty_program.specs.Asked.{AreAccepted, AskForHelp, IsErrorOf, path_if_given, paths_given, text_or}
use Rattle.royalty_program.specs.ImportCommand.{AddsArgs, AreSound, AreWanted, IsFlagged, IsImportCommand, IsWanted, IsImportError, add_columns, add_forms, add_tables, add_targets, column_names, form_names, import_app}
use Rattle.royalty_program.specs.ImportCommand.{import_names, is_condition, is_delimiter, is_digit_text, mark_of, table_names, target_names, texts_of}
use Rattle.sales_import.specs.declared.mapping.Wanted.{Wanted}
use Rattle.royalty_program.proofs.OptionLemmas.{HasOptions, accepted_is_memory, has_more, no_help_given, no_values_are, optional_same, options_of, path_if_is, rows_are, values_are}

-- ---- the command

-- a command with one argument more
pub adds_one : (c0 c1 : Command) (a : Arg) (name : Text) (rule : Rule) → IsOptionalArg name a → rule_of a ≡ rule → AddsArg c0 a c1
    → AddsArgs (name ∷ []) (λ app. with_rule app rule) c0 c1
adds_one c0 c1 a name rule is same added = record {
  own = added.arg ∷ [];
  ids = rw (optional_same name a added.arg added.rules is).id refl;
  has = λ before app has. has_more c0 c1 a before app name rule has added is same;
}

-- with these arguments more, and then with those
pub adds_then : (c0 c1 c2 : Command) (names others : List Text) (add again : App → App) → AddsArgs names add c0 c1 → AddsArgs others again c1 c2
    → AddsArgs (names ++ others) (λ app. again (add app)) c0 c2
adds_then c0 c1 c2 names others add again first second = record {
  own = first.own ++ second.own;
  ids = map-append (λ (a : Arg). a.id.now) first.own second.own ∙ ap₂ (λ (x y : List Text). x ++ y) first.ids second.ids;
  has = λ before app has. subst (λ (args : List Arg). HasArgs c2 args (again (add app))) (append_assoc before first.own second.own)
      (second.has (before ++ first.own) (add app) (first.has before app has));
}

-- all of them make a new command the command of an import
pub adds_all : (c0 c1 c2 c3 c4 : Command) → HasArgs c0 [] (new_app (codes "import")) → AddsArgs column_names add_columns c0 c1 → AddsArgs table_names add_tables c1 c2
    → AddsArgs form_names add_forms c2 c3 → AddsArgs target_names add_targets c3 c4 → IsImportCommand c4
adds_all c0 c1 c2 c3 c4 has columns tables forms targets =
    let last = adds_then c2 c3 c4 form_names target_names add_forms add_targets forms targets in
    let later = adds_then c1 c2 c4 table_names (form_names ++ target_names) add_tables (λ app. add_targets (add_forms app)) tables last in
    let all = adds_then c0 c1 c4 column_names (table_names ++ (form_names ++ target_names)) add_columns (λ app. add_targets (add_forms (add_tables app))) columns later in record {
      args = all.own;
      ids = all.ids;
      has = all.has [] (new_app (codes "import")) has;
    }

pub import_simple : is_simple import_app ≡ true
import_simple = refl

pub import_free : is_simple_and_free import_app ≡ true
import_free = refl

pub import_options : (c : Command) → IsImportCommand c → HasOptions c import_names import_app
import_options c s = options_of c s.args import_names import_app s.has s.ids refl

-- what a parse found is what clap's reading of the words has
pub rows_of_import : (c : Command) (m : ArgMatches) (words : List Text) → IsImportCommand c → HasMatchesOf (app_of c) words m → rows_of (found_of m) ≡ matches_of import_app words
rows_of_import c m words s found = rows_are c import_names import_app m words (import_options c s) import_simple found

-- ---- the error

-- lack of memory may come at any words
pub memory_of_import : {T : Type 0} (words : List Text) (r : Result T Error) → IsErrAnd r (λ e. kind_of e ≡ kinds.OutOfMemory) → IfErr r (IsImportError words)
unfolding IsErrorOf
memory_of_import words (Ok x) is = absurd is
memory_of_import words (Err e) is = inl (inl is)

-- an error of words that ask for no help is none of help
pub no_import_help_given : (words : List Text) (error : Error) → IsImportError words error → ¬ AskForHelp import_app words → (kind_of error ≢ kinds.DisplayHelp) × (kind_of error ≢ kinds.DisplayVersion)
no_import_help_given words error (inl is) none = no_help_given import_app words error is none
no_import_help_given words error (inr wrong) none = (
  λ help. let bad : kinds.ValueValidation ≡ kinds.DisplayHelp = sym wrong.kind ∙ help in cc,
  λ version. let bad : kinds.ValueValidation ≡ kinds.DisplayVersion = sym wrong.kind ∙ version in cc,
)

-- words are refused since clap does not accept them, or since a value says nothing
pub not_accepted_import : (words : List Text) (error : Error) → kind_of error ≢ kinds.OutOfMemory → IsImportError words error → ¬ (AreAccepted import_app words × AreSound words)
not_accepted_import words error not_memory (inl is) accepted = not_memory (accepted_is_memory import_app words error is accepted.0)
not_accepted_import words error not_memory (inr wrong) accepted = wrong.unsound accepted.1

-- ---- values

-- an option without a value stands among the words where a parse found that it does
pub flag_some : (m : ArgMatches) (words : List Text) (name : Text) (r : Option (Bor Text)) (v : Bor Text) (told : Bool) → rows_of (found_of m) ≡ matches_of import_app words
    → option_map (λ s. s.now) r ≡ first_value (found_of m) name → r ≡ Some v → told ≡ bytes_eq v.now (codes "true") → IsTrue told ↔ IsFlagged name words
flag_some m words name r v told rows got is same =
    let shown : path_if_given import_app name words ≡ Some v.now = sym (path_if_is import_app m words name r rows got) ∙ ap (option_map (λ (s : Bor Text). s.now)) is in (
      λ yes. shown ∙ ap Some ((bytes_eq-Decides v.now (codes "true")).0 (sym same ∙ yes)),
      λ flagged. same ∙ (bytes_eq-Decides v.now (codes "true")).1 (own_text v.now (codes "true") (sym shown ∙ flagged)),
    )
  where
    own_text : (a b : Text) → Some a ≡ Some b → a ≡ b
    own_text a b same = cc

pub flag_none : (m : ArgMatches) (words : List Text) (name : Text) (r : Option (Bor Text)) → rows_of (found_of m) ≡ matches_of import_app words
    → option_map (λ s. s.now) r ≡ first_value (found_of m) name → r ≡ None → IsTrue false ↔ IsFlagged name words
flag_none m words name r rows got is =
    let shown : path_if_given import_app name words ≡ None = sym (path_if_is import_app m words name r rows got) ∙ ap (option_map (λ (s : Bor Text). s.now)) is in (
      λ yes. absurd (false≢true yes),
      λ flagged. absurd (no_text (codes "true") (sym shown ∙ flagged)),
    )
  where
    no_text : (a : Text) → ¬ (None ≡ Some a)
    no_text a same = cc

-- the values of an option that may stand several times, or not at all
pub texts_are : (m : ArgMatches) (words : List Text) (name : Text) (r : Option (Bor (List (Bor Text)))) → rows_of (found_of m) ≡ matches_of import_app words
    → option_map (λ values. map (λ value. value.now) values.now) r ≡ option_map raw_values (matched_of (found_of m) name) → texts_of r ≡ paths_given import_app name words
texts_are m words name None rows got = no_values_are (λ (values : Bor (List (Bor Text))). map (λ (value : Bor Text). value.now) values.now) import_app m words name None rows got refl
texts_are m words name (Some values) rows got = values_are (λ (values : Bor (List (Bor Text))). map (λ (value : Bor Text). value.now) values.now) import_app m words name (Some values) values rows got refl

-- what rows have to have by one value more
pub wanted_more : (values : List (Bor Text)) (wanted more : List Wanted) (i : ℕ) (one : Wanted) (d : Bor Text) → i < length values → more ≡ wanted ++ one ∷ [] → IsWanted (slice_index_or values i d).now one
    → AreWanted (take i (map (λ value. value.now) values)) wanted → AreWanted (take (i + 1) (map (λ value. value.now) values)) more
wanted_more values wanted more i one d low pushed own so_far =
    let next : i + 1 ≡ suc i = omega arith in
    let step : take (suc i) (map (λ (value : Bor Text). value.now) values) ≡ take i (map (λ (value : Bor Text). value.now) values) ++ (slice_index_or values i d).now ∷ [] =
    take-map (λ (value : Bor Text). value.now) (suc i) values ∙ ap (map (λ (value : Bor Text). value.now)) (take-suc values i d low)
    ∙ map-append (λ (value : Bor Text). value.now) (take i values) (slice_index_or values i d ∷ [])
    ∙ ap (λ (l : List Text). l ++ (slice_index_or values i d).now ∷ []) (sym (take-map (λ (value : Bor Text). value.now) i values)) in
    subst (λ (n : ℕ). AreWanted (take n (map (λ (value : Bor Text). value.now) values)) more) (sym next)
    (subst (λ (shows : List Text). AreWanted shows more) (sym step)
    (subst (AreWanted (take i (map (λ (value : Bor Text). value.now) values) ++ (slice_index_or values i d).now ∷ [])) (sym pushed)
    (behind (take i (map (λ (value : Bor Text). value.now) values)) wanted (slice_index_or values i d).now one so_far own)))
  where
    behind : (values : List Text) (wanted : List Wanted) (value : Text) (one : Wanted) → AreWanted values wanted → IsWanted value one → AreWanted (values ++ value ∷ []) (wanted ++ one ∷ [])
    behind [] [] value one are is = (is, tt)
    behind [] (other ∷ wanted) value one are is = absurd are
    behind (first ∷ values) [] value one are is = absurd are
    behind (first ∷ values) (other ∷ wanted) value one (own, are) is = (own, behind values wanted value one are is)

-- ---- what the values say

-- the values that were looked at are those that the words give
pub sound_of : (words : List Text) (values : List Text) (delimiter decimals : Text) (conditions named digit : Bool) → values ≡ paths_given import_app (codes "where") words
    → delimiter ≡ text_or (codes "comma") import_app (codes "delimiter") words → decimals ≡ text_or (codes "2") import_app (codes "decimals") words
    → conditions ≡ list_all is_condition values → named ≡ is_delimiter delimiter → digit ≡ is_digit_text decimals → conditions ≡ true → named ≡ true → digit ≡ true → AreSound words
sound_of words values delimiter decimals conditions named digit v d n c e g first second third = (
  subst (λ (given : List Text). IsTrue (list_all is_condition given)) v (sym c ∙ first),
  subst (λ (given : Text). IsTrue (is_delimiter given)) d (sym e ∙ second),
  subst (λ (given : Text). IsTrue (is_digit_text given)) n (sym g ∙ third),
)

pub wrong_conditions : (words : List Text) (values : List Text) (conditions : Bool) → values ≡ paths_given import_app (codes "where") words → conditions ≡ list_all is_condition values
    → conditions ≡ false → ¬ AreSound words
wrong_conditions words values conditions v c told sound =
    false≢true (sym told ∙ c ∙ subst (λ (given : List Text). IsTrue (list_all is_condition given)) (sym v) sound.0)

-- a header is there where nothing says that there is none
pub not_flagged : (b : Bool) (P : Type 0) → IsTrue b ↔ P → IsTrue (not b) ↔ (¬ P)
not_flagged true P is = (λ none. cc none, λ none. absurd (none (is.0 refl)))
not_flagged false P is = (λ none p. false≢true (is.1 p), λ none. refl)

pub comma_of : (b : Bool) (mark : Mark) (P : Type 0) → mark ≡ mark_of b → IsTrue b ↔ P → (mark ≡ marks.Comma) ↔ P
comma_of true mark P same is = (λ comma. is.0 refl, λ p. same)
comma_of false mark P same is = (λ comma. absurd (no_comma (sym comma ∙ same)), λ p. absurd (false≢true (is.1 p)))
  where
    no_comma : ¬ (marks.Comma ≡ marks.Point)
    no_comma same = cc same
