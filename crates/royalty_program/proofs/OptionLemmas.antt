-- The options of a command, and what a parse of its words gives.
use Rattle.std.proofs.Common.{◌≡◌, ◌≢◌, ◌∙◌, ◌≤◌, ◌<◌, ◌++◌, ◌&&◌, ◌||◌, zero, suc, ap, ap₂, sym, subst, ℕ, Bool, List, [], ◌∷◌, length, map, not, is_some, get_or, Option, Some, None, true, false, refl, inl, inr, arith, codes, ℤ, pos, Result, Ok, Err}
use Rattle.std.specs.List.{list_any, slice_index_or}
use Rattle.std.specs.Str.{bytes_eq}
use Rattle.std.specs.Option.{IfNone, IfSome, IsSome, option_map, unwrap_or}
use Rattle.std.specs.Result.{IfErr, IsErrAnd}
use Rattle.std.specs.Borrow.{Bor}
use Rattle.std.proofs.lemmas.Bool.{false≢true}
use Rattle.std.proofs.lemmas.Slice.Eq.{bytes_eq-Decides}
use Rattle.std.proofs.lemmas.List.{get_or-map, length-map}
use Rattle.std.proofs.lemmas.List.Elements.{All-nil}
use Rattle.clap.specs.Words.{AddsArg, App, HasKind, HasMatchesOf, IsAmong, IsParsedFrom, IsPlain, IsPlainArg, Kinds, NarrowsTo, Rule, SameRules, Text, all_of, app_of, args_of, fault_of, first_of, first_value, found_of, groups_of, is_simple, is_simple_and_free, kind_of, matched_of, matches_of, one_of, one_text, raw_values, rows_of, rule_of, with_rule}
use Rattle.clap.specs.Built.{IsAuto}
use Rattle.clap.specs.declared.builder.arg.Arg.{Arg}
use Rattle.clap.specs.declared.builder.command.Command.{Command}
use Rattle.clap.specs.declared.builder.command.Command.TheViews.{out-Command as fields_of}
use Rattle.clap.specs.declared.builder.value_parser.ValueParser.{ValueParser}
use Rattle.clap.specs.declared.builder.value_parser.ValueParser.TheVariants as vp
use Rattle.clap.specs.declared.error.Error.{Error}
use Rattle.clap.specs.declared.error.kind.ErrorKind.{ErrorKind}
use Rattle.clap.specs.declared.error.kind.ErrorKind.TheVariants as kinds
use Rattle.clap.specs.declared.parser.matches.ArgMatches.{ArgMatches}
use Rattle.clap.proofs.CallerLemmas.{added_plain, present_has_entry, required_has_value, required_present}
use Rattle.clap.proofs.BuiltLemmas.{plain_same}
use Rattle.clap.proofs.CallerReads.{required_reads}
use Rattle.clap.proofs.WalkLemmas.{first_value-rows, one_text-rows, raw_values-rows}
use Rattle.royalty_program.specs.Asked.{AreAccepted, AskForHelp, IsErrorOf, number_given, number_in, path_given, path_if_given, paths_given}
use Rattle.royalty_program.specs.PlanWords.{FindsNumber}
use Rattle.royalty_program.specs.Args.{HasArgs, IsOptionalArg, IsRequiredArg}
use Rattle.royalty_program.proofs.SplitLemmas.{ReadsU64, unsigned_reads}

-- ---- the command

-- a new command has none
pub has_none : (start : Command) (app : App) → args_of start ≡ [] → groups_of start ≡ []
    → (fields_of start).has_globals ≡ false → (fields_of start).subcommand_negates_reqs ≡ false → app_of start ≡ app
    → HasArgs start [] app
has_none start app args groups globals negates shape = record {
  list = args;
  plain = (rw args (All-nil IsPlainArg), groups);
  globals = globals;
  negates = negates;
  shape = shape;
}

-- one more argument is added
pub has_more : (old new : Command) (a : Arg) (args : List Arg) (app : App) (name : List ℕ) (rule : Rule) → HasArgs old args app → (added : AddsArg old a new)
    → IsOptionalArg name a → rule_of a ≡ rule → HasArgs new (args ++ added.arg ∷ []) (with_rule app rule)
has_more old new a args app name rule has added needed is = record {
  list = added.args ∙ ap (λ l. l ++ added.arg ∷ []) has.list;
  plain = added_plain old new a added has.plain needed.plain;
  globals = rw (added.globals, has.globals, needed.local) refl;
  negates = added.negates ∙ has.negates;
  shape = added.shape needed.local ∙ ap₂ with_rule has.shape is;
}

-- what is asked of a required argument is asked of one that is not
pub as_optional : (name : List ℕ) (a : Arg) → IsRequiredArg name a → IsOptionalArg name a
as_optional name a needed = record { id = needed.id; plain = needed.plain; local = needed.local }

-- an argument that reads alike is one too
pub optional_same : (name : List ℕ) (a b : Arg) → SameRules a b → IsOptionalArg name a → IsOptionalArg name b
optional_same name a b same may = record { id = ap (λ x. x.now) same.id ∙ may.id; plain = plain_same a b same may.plain; local = same.global ∙ may.local }

-- a parser of numbers, with a range from 1
pub narrowed : (whole part : ValueParser) (least last : ℤ) (most : ℕ) → whole ≡ vp.Unsigned 0 18446744073709551615
    → NarrowsTo whole (Some least) (Some last) part → least ≡ pos 1 → last ≡ pos most
    → NarrowsTo (vp.Unsigned 0 18446744073709551615) (Some (pos 1)) (Some (pos most)) part
narrowed whole part least last most is narrows from to =
    subst (λ (b : ℤ). NarrowsTo (vp.Unsigned 0 18446744073709551615) (Some (pos 1)) (Some b) part) to
    (subst (λ (a : ℤ). NarrowsTo (vp.Unsigned 0 18446744073709551615) (Some a) (Some last) part) from
    (subst (λ (p : ValueParser). NarrowsTo p (Some least) (Some last) part) is narrows))

-- ---- the options of a parse

-- a name of one's own: it is not empty, nor that of an option that clap adds
abbrev pub is_own_name : Text → Bool
is_own_name name = not (bytes_eq name []) && (not (bytes_eq name (codes "help")) && not (bytes_eq name (codes "version")))

-- such names, each once
abbrev pub are_names : List Text → Bool
are_names [] = true
are_names (name ∷ later) = (is_own_name name && not (list_any (bytes_eq name) later)) && are_names later

both : (a b : Bool) → (a && b) ≡ true → (a ≡ true) × (b ≡ true)
both true b e = (refl, e)
both false b e = absurd (false≢true e)

not_both : (b : Bool) → not b ≡ true → b ≡ true → ⊥
not_both true against is = false≢true against
not_both false against is = false≢true is

bytes_same : (a b : Text) → a ≡ b → bytes_eq a b ≡ true
bytes_same a b same = (bytes_eq-Decides a b).1 same

-- a name that stands among others is any of them
among_any : (name : Text) (later : List Text) (k : ℕ) → k < length later → get_or later k [] ≡ name → list_any (bytes_eq name) later ≡ true
among_any name [] k low is = absurd (omega (arith, low))
among_any name (other ∷ later) zero low is = here (bytes_eq name other) (bytes_same name other (sym is))
  where
    here : (b : Bool) → b ≡ true → (b || list_any (bytes_eq name) later) ≡ true
    here true e = refl
    here false e = absurd (false≢true e)
among_any name (other ∷ later) (suc k) low is = there (bytes_eq name other) (among_any name later k (omega (arith, low)) is)
  where
    there : (b : Bool) → list_any (bytes_eq name) later ≡ true → (b || list_any (bytes_eq name) later) ≡ true
    there true e = refl
    there false e = e

-- so each stands in one place
one_place : (names : List Text) → are_names names ≡ true → (j k : ℕ) → j < length names → k < length names → get_or names j [] ≡ get_or names k [] → j ≡ k
one_place [] are j k j_low k_low same = absurd (omega (arith, j_low))
one_place (name ∷ later) are zero zero j_low k_low same = refl
one_place (name ∷ later) are zero (suc k) j_low k_low same =
    let first = both _ _ are in
    absurd (not_both (list_any (bytes_eq name) later) (both _ _ first.0).1 (among_any name later k (omega (arith, k_low)) (sym same)))
one_place (name ∷ later) are (suc j) zero j_low k_low same =
    let first = both _ _ are in
    absurd (not_both (list_any (bytes_eq name) later) (both _ _ first.0).1 (among_any name later j (omega (arith, j_low)) same))
one_place (name ∷ later) are (suc j) (suc k) j_low k_low same =
    ap suc (one_place later (both _ _ are).1 j k (omega (arith, j_low)) (omega (arith, k_low)) same)

own_at : (names : List Text) → are_names names ≡ true → (k : ℕ) → k < length names → is_own_name (get_or names k []) ≡ true
own_at [] are k low = absurd (omega (arith, low))
own_at (name ∷ later) are zero low = (both _ _ (both _ _ are).0).0
own_at (name ∷ later) are (suc k) low = own_at later (both _ _ are).1 k (omega (arith, low))

-- the command has options of these names, and is read as this one is
pub record HasOptions (c : Command) (names : List Text) (app : App) : Type 0 where
  pub ids : map (λ a. a.id.now) (args_of c) ≡ names
  pub are : are_names names ≡ true
  pub plain : IsPlain c
  pub globals : (fields_of c).has_globals ≡ false
  pub negates : (fields_of c).subcommand_negates_reqs ≡ false
  pub shape : app_of c ≡ app

pub options_of : (c : Command) (args : List Arg) (names : List Text) (app : App) → HasArgs c args app → map (λ a. a.id.now) args ≡ names → are_names names ≡ true → HasOptions c names app
options_of c args names app has ids are = record {
  ids = ap (map (λ (a : Arg). a.id.now)) has.list ∙ ids;
  are = are;
  plain = has.plain;
  globals = has.globals;
  negates = has.negates;
  shape = has.shape;
}

id_at : (c : Command) (names : List Text) (app : App) (k : ℕ) (d : Arg) → HasOptions c names app → k < length (args_of c) → (slice_index_or (args_of c) k d).id.now ≡ get_or names k []
id_at c names app k d has low = sym (get_or-map (λ (a : Arg). a.id.now) (args_of c) k d [] low) ∙ ap (λ (l : List Text). get_or l k []) has.ids

pub count : (c : Command) (names : List Text) (app : App) → HasOptions c names app → length (args_of c) ≡ length names
count c names app has = sym (length-map (args_of c) (λ (a : Arg). a.id.now)) ∙ ap length has.ids

-- so an option with the name of another is the other
pub only_one : (c : Command) (names : List Text) (app : App) (j k : ℕ) (e d : Arg) → HasOptions c names app → j < length (args_of c) → k < length (args_of c)
    → bytes_eq (slice_index_or (args_of c) j e).id.now (slice_index_or (args_of c) k d).id.now ≡ true → j ≡ k
only_one c names app j k e d has j_low k_low same =
    let one_id = (bytes_eq-Decides (slice_index_or (args_of c) j e).id.now (slice_index_or (args_of c) k d).id.now).0 same in
    let many = count c names app has in
    one_place names has.are j k (omega (arith, j_low, many)) (omega (arith, k_low, many)) (sym (id_at c names app j e has j_low) ∙ (one_id ∙ id_at c names app k d has k_low))

-- an option has a name, and is not one that clap adds
pub is_own : (c : Command) (names : List Text) (app : App) (k : ℕ) (d : Arg) → HasOptions c names app → k < length (args_of c)
    → ((slice_index_or (args_of c) k d).id.now ≡ [] → ⊥) × (IsAuto (slice_index_or (args_of c) k d) → ⊥)
unfolding is_own_name
is_own c names app k d has low =
    let id = id_at c names app k d has low in
    let name : Text = get_or names k [] in
    let own = own_at names has.are k (omega (arith, low, count c names app has)) in
    let named = both _ _ own in
    let added = both _ _ named.1 in (
      λ empty. not_both (bytes_eq name []) named.0 (bytes_same name [] (sym id ∙ empty)),
      λ auto. elim auto [
        | inl h ↦ not_both (bytes_eq name (codes "help")) added.0 (bytes_same name (codes "help") (sym id ∙ h))
        | inr h ↦ not_both (bytes_eq name (codes "version")) added.1 (bytes_same name (codes "version") (sym id ∙ h))
      ],
    )

-- an option that is required has a value
pub has_value : (c : Command) (names : List Text) (app : App) (m : ArgMatches) (name : Text) (a : Arg) (k : ℕ) → HasOptions c names app → IsParsedFrom c m
    → IsRequiredArg name a → slice_index_or (args_of c) k a ≡ a → k < length names
    → is_some (first_value (found_of m) name) ≡ true
has_value c names app m name a k s p needed here low =
    let value = needed.value in
    let id : (slice_index_or (args_of c) k a).id.now ≡ name = rw here needed.id in
    let under : k < length (args_of c) = omega (arith, low, count c names app s) in
    let own = is_own c names app k a s under in
    let has = required_has_value c m p s.plain s.globals s.negates k a under
    (rw here value.0) (rw here value.1) (rw here value.2) (rw here value.3)
    (λ j e j_low. only_one c names app j k e a s j_low under) own.0 own.1 in
    subst (λ x. is_some (first_value (found_of m) x) ≡ true) id has

-- and an entry, whatever it does with its values
pub has_entry : (c : Command) (names : List Text) (app : App) (m : ArgMatches) (name : Text) (a : Arg) (k : ℕ) → HasOptions c names app → IsParsedFrom c m
    → IsOptionalArg name a → a.required ≡ true → slice_index_or (args_of c) k a ≡ a → k < length names
    → is_some (matched_of (found_of m) name) ≡ true
has_entry c names app m name a k s p is needed here low =
    let id : (slice_index_or (args_of c) k a).id.now ≡ name = rw here is.id in
    let under : k < length (args_of c) = omega (arith, low, count c names app s) in
    let used = required_present c m p s.plain s.globals s.negates k a under (rw here needed) in
    present_has_entry (found_of m) name (rw id at used)

-- one with a number has a text that passed its range
pub finds_number : (c : Command) (names : List Text) (app : App) (m : ArgMatches) (name : Text) (most : ℕ) (a : Arg) (k : ℕ) → HasOptions c names app → IsParsedFrom c m
    → IsRequiredArg name a → slice_index_or (args_of c) k a ≡ a → k < length names → a.value_parser ≡ Some (vp.Unsigned 1 most)
    → FindsNumber m name most
finds_number c names app m name most a k s p needed here low parser =
    let value = needed.value in
    let id : (slice_index_or (args_of c) k a).id.now ≡ name = rw here needed.id in
    let under : k < length (args_of c) = omega (arith, low, count c names app s) in
    let own = is_own c names app k a s under in
    let got = required_reads c m p s.plain s.globals s.negates k a under
    (rw here value.0) (rw here value.1) (rw here value.2) (rw here value.3)
    (λ j e j_low. only_one c names app j k e a s j_low under) own.0 own.1
    (vp.Unsigned 1 most) (rw here parser) in
    (got.0, rw id at got.1, got.2)

-- the answer is what `get_one::<u64>` reads of an option
abbrev pub IsNumberOf : ArgMatches → Text → Option ℕ → Type 0
IsNumberOf m name r = (t : Text) → one_text (found_of m) name ≡ Some t → ReadsU64 t r

-- and it is a number from 1 to the most
abbrev pub IsUpTo : ℕ → Option ℕ → Type 0
IsUpTo most r = IsSome r × IfSome r (λ n. 1 ≤ n) × IfSome r (λ n. n ≤ most)

pub number_read : (m : ArgMatches) (name : Text) (most : ℕ) (r : Option ℕ) → FindsNumber m name most → IsNumberOf m name r → IsUpTo most r
number_read m name most r found reads = unsigned_reads 1 most found.0 r (reads found.0 found.1) found.2

-- an answer that comes where a fact holds is there, since it holds
pub some_by : {X P : Type 0} (o : Option X) → IfNone o (¬ P) → P → IsSome o
some_by None refuses holds = absurd (refuses holds)
some_by (Some x) refuses holds = refl

-- ---- what the words give

-- a parse finds what clap's reading of the words has
pub rows_are : (c : Command) (names : List Text) (app : App) (m : ArgMatches) (words : List Text) → HasOptions c names app → is_simple app ≡ true → HasMatchesOf (app_of c) words m
    → rows_of (found_of m) ≡ matches_of app words
rows_are c names app m words s simple found = (found (ap is_simple s.shape ∙ simple)).0 ∙ ap (λ (a : App). matches_of a words) s.shape

-- the path of an option is the one that it is given
pub path_is : (app : App) (m : ArgMatches) (words : List Text) (name : Text) (r : Option (Bor Text)) (v : Bor Text) → rows_of (found_of m) ≡ matches_of app words
    → option_map (λ s. s.now) r ≡ first_value (found_of m) name → r ≡ Some v → v.now ≡ path_given app name words
unfolding path_given
path_is app m words name r v are got is =
    let shown : first_of name (matches_of app words) ≡ Some v.now =
    sym (got ∙ first_value-rows (found_of m) name ∙ ap (first_of name) are) ∙ ap (option_map (λ (s : Bor Text). s.now)) is in
    sym (ap (λ (o : Option Text). unwrap_or o []) shown)

-- that of an option that need not be there, too
pub path_if_is : (app : App) (m : ArgMatches) (words : List Text) (name : Text) (r : Option (Bor Text)) → rows_of (found_of m) ≡ matches_of app words
    → option_map (λ s. s.now) r ≡ first_value (found_of m) name → option_map (λ s. s.now) r ≡ path_if_given app name words
unfolding path_if_given
path_if_is app m words name r are got = got ∙ first_value-rows (found_of m) name ∙ ap (first_of name) are

-- and so is its number
number_shown : (app : App) (m : ArgMatches) (words : List Text) (name text : Text) (r : Option ℕ) (n : ℕ) → rows_of (found_of m) ≡ matches_of app words
    → one_text (found_of m) name ≡ Some text → IsNumberOf m name r → r ≡ Some n → n ≡ number_given app name words
unfolding number_given
number_shown app m words name text r n are found reads is =
    let read : ReadsU64 text (Some n) = subst (ReadsU64 text) is (reads text found) in
    let shown : one_of name (matches_of app words) ≡ Some text = sym (one_text-rows (found_of m) name ∙ ap (one_of name) are) ∙ found in
    read.0.1 ∙ sym (ap (λ (o : Option Text). number_in (unwrap_or o [])) shown)

pub number_is : (app : App) (m : ArgMatches) (words : List Text) (name : Text) (most : ℕ) (r : Option ℕ) (n : ℕ) → rows_of (found_of m) ≡ matches_of app words
    → FindsNumber m name most → IsNumberOf m name r → r ≡ Some n → n ≡ number_given app name words
number_is app m words name most r n are found reads is = number_shown app m words name found.0 r n are found.1 reads is

-- the paths of an option that may stand several times are those that it is given
pub values_are : {X : Type 0} (f : X → List Text) (app : App) (m : ArgMatches) (words : List Text) (name : Text) (r : Option X) (v : X) → rows_of (found_of m) ≡ matches_of app words
    → option_map f r ≡ option_map raw_values (matched_of (found_of m) name) → r ≡ Some v → f v ≡ paths_given app name words
unfolding paths_given
values_are f app m words name r v are same is =
    let at : all_of name (matches_of app words) ≡ Some (f v) =
    ap (all_of name) (sym are) ∙ sym (raw_values-rows (found_of m) name) ∙ sym same ∙ ap (option_map f) is in
    sym (ap (λ (o : Option (List Text)). unwrap_or o []) at)

pub no_values_are : {X : Type 0} (f : X → List Text) (app : App) (m : ArgMatches) (words : List Text) (name : Text) (r : Option X) → rows_of (found_of m) ≡ matches_of app words
    → option_map f r ≡ option_map raw_values (matched_of (found_of m) name) → r ≡ None → [] ≡ paths_given app name words
unfolding paths_given
no_values_are f app m words name r are same is =
    let at : all_of name (matches_of app words) ≡ None =
    ap (all_of name) (sym are) ∙ sym (raw_values-rows (found_of m) name) ∙ sym same ∙ ap (option_map f) is in
    sym (ap (λ (o : Option (List Text)). unwrap_or o []) at)

-- ---- the error of a parse that fails

pub error_is : (c : Command) (names : List Text) (app : App) (words : List Text) (e : Error) → HasOptions c names app → is_simple_and_free app ≡ true
    → (is_simple_and_free (app_of c) ≡ true → HasKind (fault_of (app_of c) words) e) → IsErrorOf app words e
unfolding IsErrorOf
error_is c names app words e s free fails = subst (λ (a : App). HasKind (fault_of a words) e) s.shape (fails (ap is_simple_and_free s.shape ∙ free))

-- lack of memory may come at any words
pub memory_is : {T : Type 0} (app : App) (words : List Text) (r : Result T Error) → IsErrAnd r (λ e. kind_of e ≡ kinds.OutOfMemory) → IfErr r (IsErrorOf app words)
unfolding IsErrorOf
memory_is app words (Ok x) is = absurd is
memory_is app words (Err e) is = inl is

-- an error of words that ask for no help asks for none
pub no_help_given : (app : App) (words : List Text) (e : Error) → IsErrorOf app words e → ¬ AskForHelp app words → (kind_of e ≢ kinds.DisplayHelp) × (kind_of e ≢ kinds.DisplayVersion)
unfolding IsErrorOf AskForHelp
no_help_given app words e (inl memory) none = (
  λ help. let bad : kinds.OutOfMemory ≡ kinds.DisplayHelp = sym memory ∙ help in cc,
  λ version. let bad : kinds.OutOfMemory ≡ kinds.DisplayVersion = sym memory ∙ version in cc,
)
no_help_given app words e (inr among) none = (
  λ help. none (inl (subst (λ (k : ErrorKind). IsAmong k (fault_of app words)) help among)),
  λ version. none (inr (subst (λ (k : ErrorKind). IsAmong k (fault_of app words)) version among)),
)

-- and of words that are accepted there is none but lack of memory
pub accepted_is_memory : (app : App) (words : List Text) (e : Error) → IsErrorOf app words e → AreAccepted app words → kind_of e ≡ kinds.OutOfMemory
unfolding IsErrorOf AreAccepted
accepted_is_memory app words e (inl memory) accepted = memory
accepted_is_memory app words e (inr among) accepted = absurd (subst (λ (some : Kinds). IsAmong (kind_of e) some) accepted among)
