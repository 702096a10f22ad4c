-- What a parse gives of an option that need not be there.
use Rattle.std.proofs.Common.{◌≡◌, ◌≤◌, ◌<◌, ◌∙◌, ap, sym, subst, ℕ, Bool, true, List, [], ◌∷◌, codes, length, Option, Some, None, inl, inr, arith, refl}
use Rattle.std.specs.Borrow.{Bor}
use Rattle.std.specs.List.{All, slice_index_or}
use Rattle.std.specs.Option.{option_map, unwrap_or}
use Rattle.std.specs.Prelude.{slice_get}
use Rattle.std.specs.Str.{bytes_eq}
use Rattle.std.proofs.lemmas.List.Elements.{All-get_or}
use Rattle.std.proofs.lemmas.Slice.Eq.{bytes_eq-Decides}
use Rattle.clap.specs.Facts.{Entry, EntryPasses, HasReading, PassesArg, ValuesPass, parser_of_value}
use Rattle.clap.specs.Words.{Accepts, App, IsParsedFrom, IsUnsignedIn, Text, args_of, first_of, first_value, found_of, groups_of, matched_of, matches_of, one_of, one_text}
use Rattle.clap.specs.Words.{parser_of, read_as, reading_of, rows_of}
use Rattle.clap.specs.declared.builder.arg.Arg.{Arg}
use Rattle.clap.specs.declared.builder.command.Command.{Command}
use Rattle.clap.specs.declared.builder.value_parser.Reading.{Reading}
use Rattle.clap.specs.declared.builder.value_parser.Reading.TheVariants as reading
use Rattle.clap.specs.declared.builder.value_parser.ValueParser.{ValueParser}
use Rattle.clap.specs.declared.builder.value_parser.ValueParser.TheVariants as vp
use Rattle.clap.specs.declared.parser.matches.ArgMatches.{ArgMatches}
use Rattle.clap.specs.declared.parser.matches.Found.{Found}
use Rattle.clap.specs.declared.parser.matches.MatchedArg.{MatchedArg}
use Rattle.clap.proofs.CallerLemmas.{entry_by_id, same_rules_by_id}
use Rattle.clap.proofs.WalkLemmas.{first_value-rows, one_text-rows}
use Rattle.royalty_program.specs.Args.{IsOptionalArg}
use Rattle.royalty_program.specs.Asked.{number_in, number_or, some_unless_empty, text_or, title_given}
use Rattle.royalty_program.specs.PlanWords.{MayFindNumber}
use Rattle.royalty_program.proofs.OptionLemmas.{HasOptions, IsNumberOf, count, is_own, only_one}
use Rattle.royalty_program.proofs.SplitLemmas.{ReadsU64}

-- ---- a number that is there is in its range

-- each argument of a command with this name has this parser
abbrev AreParsedBy : Command → Text → ValueParser → Type 0
AreParsedBy c name parser =
    (j : ℕ) (x : Arg) → j < length (args_of c) → slice_index_or (args_of c) j x ≡ x → bytes_eq x.id.now name ≡ true → parser_of x ≡ parser

-- the first of values that pass is read as it is written
first_written : (P : Bor Text → Type 0) (how : Reading) (values : List (Bor Text)) (text : Text) → All P values → how ≡ reading.AsWritten
    → option_map (λ s. read_as how s.now) (slice_get values 0) ≡ Some text → (v : Bor Text) × (v.now ≡ text) × P v
first_written P how [] text all is found = cc
first_written P how (v ∷ more) text all is found =
    let same : Some v.now ≡ Some text = rw is at found in
    (v, (cc), All-get_or P (v ∷ more) 0 v (omega arith) all)

-- a value passes the parser of its argument
passed_by : (c : Command) (name : Text) (parser : ValueParser) (value : Text) → AreParsedBy c name parser → PassesArg c name value → (b : Bool) × Accepts b parser value
passed_by c name parser value are any =
    (any.1.ignore_case, subst (λ (p : ValueParser). Accepts any.1.ignore_case p value) (are any.0 any.1 any.2 any.3 any.4.0) any.4.1)

read_by : (c : Command) (name : Text) (parser : ValueParser) (how : Reading) → AreParsedBy c name parser → HasReading c name how → how ≡ reading_of parser
read_by c name parser how are any = sym any.4.1 ∙ ap reading_of (are any.0 any.1 any.2 any.3 any.4.0)

-- an entry of a command with no groups is of no group
of_no_group : (c : Command) (name : Text) (e : Entry) → groups_of c ≡ [] → ¬ (name ≡ []) → e.0.now ≡ name → EntryPasses c e → ¬ (e.1.is_group ≡ true)
of_no_group c name e no_groups named key pass group = elim (pass.3 group) [
  | inl empty ↦ named (sym key ∙ empty)
  | inr some ↦
      let bad : 0 < 0 = rw no_groups at some in
      omega arith
]

-- so its values pass the parser of its argument
values_pass : (c : Command) (name : Text) (x : MatchedArg) (e : Entry) → e.1 ≡ x → e.0.now ≡ name → ¬ (e.1.is_group ≡ true) → EntryPasses c e
    → All (λ v. PassesArg c name v.now) x.vals.items
values_pass c name x e same key alone pass = elim pass.0 [
  | inl group ↦ absurd (alone group)
  | inr values ↦ subst (λ (w : Text). All (λ v. PassesArg c w v.now) x.vals.items) key (rw same at values)
]

-- and are read as that says
read_so : (c : Command) (name : Text) (parser : ValueParser) (x : MatchedArg) (e : Entry) → AreParsedBy c name parser → e.1 ≡ x → e.0.now ≡ name
    → ¬ (e.1.is_group ≡ true) → EntryPasses c e → x.reading ≡ reading_of parser
read_so c name parser x e are same key alone pass = elim pass.4 [
  | inl group ↦ absurd (alone group)
  | inr has ↦ ap (λ (y : MatchedArg). y.reading) (sym same) ∙ read_by c name parser e.1.reading are (subst (λ (w : Text). HasReading c w e.1.reading) key has)
]

first_passes : (c : Command) (name : Text) (parser : ValueParser) (text : Text) → AreParsedBy c name parser
    → (v : Bor Text) × (v.now ≡ text) × PassesArg c name v.now → (b : Bool) × Accepts b parser text
first_passes c name parser text are first = passed_by c name parser text are (subst (λ (t : Text). PassesArg c name t) first.1 first.2)

entry_passes : (c : Command) (name : Text) (parser : ValueParser) (x : MatchedArg) (text : Text) (e : Entry) → AreParsedBy c name parser → reading_of parser ≡ reading.AsWritten
    → e.1 ≡ x → e.0.now ≡ name → ¬ (e.1.is_group ≡ true) → EntryPasses c e
    → option_map (λ s. read_as x.reading s.now) (slice_get x.vals.items 0) ≡ Some text → (b : Bool) × Accepts b parser text
entry_passes c name parser x text e are written same key alone pass found =
    first_passes c name parser text are
    (first_written (λ v. PassesArg c name v.now) x.reading x.vals.items text (values_pass c name x e same key alone pass) (read_so c name parser x e are same key alone pass ∙ written) found)

-- what a parse found of a name passes the parser of its argument
found_passes : (c : Command) (f : Found) (name : Text) (parser : ValueParser) (text : Text) → AreParsedBy c name parser → reading_of parser ≡ reading.AsWritten
    → groups_of c ≡ [] → ¬ (name ≡ []) → ValuesPass c f → one_text f name ≡ Some text → (b : Bool) × Accepts b parser text
found_passes c f name parser text are written no_groups named values found = go (matched_of f name) refl
  where
    go : (o : Option MatchedArg) → matched_of f name ≡ o → (b : Bool) × Accepts b parser text
    go None is =
        let none : None ≡ Some text = rw is at found in
        cc
    go (Some x) is =
        let got = entry_by_id (EntryPasses c) f.entries.items name x values is in
        let key : got.0.0.now ≡ name = (bytes_eq-Decides got.0.0.now name).0 got.2 in
        entry_passes c name parser x text got.0 are written got.1 key (of_no_group c name got.0 no_groups named key got.3) got.3 (rw is at found)

pub may_find_number : (c : Command) (names : List Text) (app : App) (m : ArgMatches) (name : Text) (least most : ℕ) (a : Arg) (k : ℕ) → HasOptions c names app → IsParsedFrom c m
    → IsOptionalArg name a → slice_index_or (args_of c) k a ≡ a → k < length names → a.value_parser ≡ Some (vp.Unsigned least most)
    → MayFindNumber m name least most
may_find_number c names app m name least most a k s p is here low parser text found =
    let id : (slice_index_or (args_of c) k a).id.now ≡ name = rw here is.id in
    let under : k < length (args_of c) = omega (arith, low, count c names app s) in
    let own = is_own c names app k a s under in
    let ranged : (slice_index_or (args_of c) k a).value_parser ≡ Some (vp.Unsigned least most) = rw here parser in
    let are : AreParsedBy p.built name (vp.Unsigned least most) = λ j x high at same.
    let rules = same_rules_by_id c m p k a under (λ i e i_low. only_one c names app i k e a s i_low under) own.1 j x high at (rw id same) in
    ap parser_of_value (rules.parser _ ranged) in
    (found_passes p.built (found_of m) name (vp.Unsigned least most) text are refl (p.from.plain s.plain).1 (λ empty. own.0 (id ∙ empty))
    (p.parsed (p.from.globals ∙ s.globals)).values found).1

-- ---- what the words give

-- a text that passed its range is read as its number
reads_number : (least most : ℕ) (text : Text) (r : Option ℕ) → ReadsU64 text r → IsUnsignedIn least most text → r ≡ Some (number_in text)
reads_number least most text (Some n) read passed = ap Some read.0.1
reads_number least most text None read passed = absurd (read.1.0 (passed.0, passed.1))

-- the answer is none where a parse found no text
abbrev pub IsNoneWithout : ArgMatches → Text → Option ℕ → Type 0
IsNoneWithout m name r = one_text (found_of m) name ≡ None → r ≡ None

number_found : (m : ArgMatches) (name : Text) (least most : ℕ) (r : Option ℕ) → MayFindNumber m name least most → IsNoneWithout m name r → IsNumberOf m name r
    → r ≡ option_map number_in (one_text (found_of m) name)
number_found m name least most r may none reads = go (one_text (found_of m) name) refl
  where
    go : (o : Option Text) → one_text (found_of m) name ≡ o → r ≡ option_map number_in (one_text (found_of m) name)
    go None is = rw is (none is)
    go (Some text) is = rw is (reads_number least most text r (reads text is) (may text is))

-- the number of an option that need not be there is the one that it is given, or the usual one
pub number_or_is : (missing least most : ℕ) (app : App) (m : ArgMatches) (words : List Text) (name : Text) (r : Option ℕ) → rows_of (found_of m) ≡ matches_of app words
    → MayFindNumber m name least most → IsNoneWithout m name r → IsNumberOf m name r → unwrap_or r missing ≡ number_or missing app name words
unfolding number_or
number_or_is missing least most app m words name r are may none reads =
    ap (λ (o : Option ℕ). unwrap_or o missing)
    (number_found m name least most r may none reads ∙ ap (option_map number_in) (one_text-rows (found_of m) name ∙ ap (one_of name) are))

-- and it is in its range, if the usual one is
shown_in_range : (least most missing : ℕ) (o : Option Text) → ((text : Text) → o ≡ Some text → IsUnsignedIn least most text) → least ≤ missing → missing ≤ most
    → (least ≤ unwrap_or (option_map number_in o) missing) × (unwrap_or (option_map number_in o) missing ≤ most)
shown_in_range least most missing None may low high = (low, high)
shown_in_range least most missing (Some text) may low high = ((may text refl).2, (may text refl).3)

pub number_in_range : (least most missing : ℕ) (m : ArgMatches) (name : Text) (r : Option ℕ) → MayFindNumber m name least most → IsNoneWithout m name r → IsNumberOf m name r
    → least ≤ missing → missing ≤ most → (least ≤ unwrap_or r missing) × (unwrap_or r missing ≤ most)
number_in_range least most missing m name r may none reads low high =
    subst (λ (o : Option ℕ). (least ≤ unwrap_or o missing) × (unwrap_or o missing ≤ most)) (sym (number_found m name least most r may none reads))
    (shown_in_range least most missing (one_text (found_of m) name) may low high)

-- the text of such an option, too
pub text_or_is : (missing : Text) (app : App) (m : ArgMatches) (words : List Text) (name : Text) (r : Option (Bor Text)) → rows_of (found_of m) ≡ matches_of app words
    → option_map (λ s. s.now) r ≡ first_value (found_of m) name → unwrap_or (option_map (λ s. s.now) r) missing ≡ text_or missing app name words
unfolding text_or
text_or_is missing app m words name r are got =
    ap (λ (o : Option Text). unwrap_or o missing) (got ∙ first_value-rows (found_of m) name ∙ ap (first_of name) are)

-- and the title, where an empty one counts as none
pub title_is : (app : App) (m : ArgMatches) (words : List Text) (r : Option (Bor Text)) → rows_of (found_of m) ≡ matches_of app words
    → option_map (λ s. s.now) r ≡ first_value (found_of m) (codes "title") → unwrap_or (some_unless_empty (option_map (λ s. s.now) r)) (codes "Distribution") ≡ title_given app words
unfolding title_given
title_is app m words r are got =
    ap (λ (o : Option Text). unwrap_or (some_unless_empty o) (codes "Distribution")) (got ∙ first_value-rows (found_of m) (codes "title") ∙ ap (first_of (codes "title")) are)
