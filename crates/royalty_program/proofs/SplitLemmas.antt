-- What a parse of the words of a division gives.
use Rattle.std.proofs.Common.{◌≡◌, ◌≢◌, ◌∙◌, ◌≤◌, ◌<◌, All, map, take, drop, sym, subst, ◌+◌, ◌++◌, zero, suc, ap, ap₂, ℕ, true, List, [], ◌∷◌, length, is_some, Option, Some, None, refl, inl, inr, arith, codes}
use Rattle.std.specs.List.{slice_index_or}
use Rattle.std.specs.Option.{IfSome, IsSome, option_map}
use Rattle.std.specs.Str.{bytes_eq}
use Rattle.std.specs.Str.Parse.{ExplainsUnsignedError, HasUnsignedDigitsIfOk, ParsesUnsigned}
use Rattle.std.specs.Borrow.{Bor}
use Rattle.std.proofs.Math.Seq.{take-suc}
use Rattle.std.proofs.lemmas.List.{map-append, take-map}
use Rattle.std.proofs.lemmas.Slice.Eq.{bytes_eq-Decides}
use Rattle.clap.specs.Words.{AddsArg, IsParsedFrom, IsUnsignedIn, ReadsOne, SameRules, args_of, found_of, matched_of, new_app, one_text, raw_values, app_of, rule_of, with_rule}
use Rattle.clap.specs.Words.{HasKind, HasMatchesOf, all_of, fault_of, is_simple, is_simple_and_free, kind_of, matches_of, one_of, rows_of}
use Rattle.clap.specs.declared.builder.action.ArgAction.TheVariants.{Set}
use Rattle.clap.specs.declared.builder.arg.Arg.{Arg}
use Rattle.clap.specs.declared.builder.command.Command.{Command}
use Rattle.clap.specs.declared.builder.value_parser.ValueParser.TheVariants as vp
use Rattle.clap.specs.declared.error.Error.{Error}
use Rattle.clap.specs.declared.error.kind.ErrorKind.TheVariants as kinds
use Rattle.clap.specs.declared.parser.matches.ArgMatches.{ArgMatches}
use Rattle.clap.proofs.BuiltLemmas.{plain_same}
use Rattle.clap.proofs.CallerLemmas.{added_plain, present_has_entry, required_present}
use Rattle.clap.proofs.CallerReads.{required_reads}
use Rattle.clap.proofs.WalkLemmas.{one_text-rows, raw_values-rows}
use Rattle.royalty_program.specs.Asked.{IsErrorOf, IsValue, number_in}
use Rattle.pair_split.specs.Pair.{word_at}
use Rattle.royalty_program.specs.Args.{HasArgs, IsRequiredArg}
use Rattle.royalty_program.specs.SplitCommand.{IsSplitCommand, amount_rule, pairs_rule, split_app}
use Rattle.royalty_program.proofs.Walked.{amount_is, kinds_no_help, pairs_are, split_free, split_simple}
use Rattle.line_split.specs.declared.TheConstants.{MOST_AMOUNT}

-- an argument stays required in the command that it is added to
pub required_same : (name : List ℕ) (a b : Arg) → SameRules a b → IsRequiredArg name a → IsRequiredArg name b
required_same name a b same needed = record {
  id = ap (λ x. x.now) same.id ∙ needed.id;
  value = (
    same.required ∙ needed.value.0,
    same.action Set needed.value.1,
    same.val_delim ∙ needed.value.2,
    same.least needed.value.1 needed.value.3,
  );
  plain = plain_same a b same needed.plain;
  local = same.global ∙ needed.local;
}

-- a new command with the two arguments is the command of a division
pub adds_two : (start mid c : Command) (a b : Arg) → HasArgs start [] (new_app (codes "split")) → AddsArg start a mid → AddsArg mid b c
    → IsRequiredArg (codes "AMOUNT") a → a.value_parser ≡ Some (vp.Unsigned 0 MOST_AMOUNT)
    → IsRequiredArg (codes "PARTY=SHARE") b → rule_of a ≡ amount_rule → rule_of b ≡ pairs_rule → IsSplitCommand c
adds_two start mid c a b begun first second amount parser pairs amount_is pairs_are =
    let mid_plain = added_plain start mid a first begun.plain amount.plain in record {
      amount = first.arg;
      pairs = second.arg;
      needs_amount = required_same _ a first.arg first.rules amount;
      in_range = first.rules.parser _ parser;
      needs_pairs = required_same _ b second.arg second.rules pairs;
      has = record {
        list = second.args ∙ ap (λ l. l ++ second.arg ∷ []) (first.args ∙ ap (λ l. l ++ first.arg ∷ []) begun.list);
        plain = added_plain mid c b second mid_plain pairs.plain;
        globals = rw (second.globals, first.globals, begun.globals, amount.local, pairs.local) refl;
        negates = second.negates ∙ first.negates ∙ begun.negates;
        shape = second.shape pairs.local ∙ ap₂ with_rule (first.shape amount.local ∙ ap₂ with_rule begun.shape amount_is) pairs_are;
      };
    }

-- how `get_one::<u64>` reads a text
abbrev pub ReadsU64 : List ℕ → Option ℕ → Type 0
ReadsU64 = ReadsOne (λ t r. ParsesUnsigned 64 10 t r × ExplainsUnsignedError 10 t r × HasUnsignedDigitsIfOk t r)

-- a text that passed a range reads as a number in it
pub unsigned_reads : (low high : ℕ) (t : List ℕ) (r : Option ℕ) → ReadsU64 t r → IsUnsignedIn low high t
    → IsSome r × IfSome r (λ n. low ≤ n) × IfSome r (λ n. n ≤ high)
unsigned_reads low high t (Some v) read passed = (refl, rw read.0.1 passed.2, rw read.0.1 passed.3)
unsigned_reads low high t None read passed = absurd (read.1.0 (passed.0, passed.1))

-- an argument with the id of the first of the two is the first
only_amount : (xs : List Arg) (a b : Arg) (j : ℕ) (e : Arg) → xs ≡ a ∷ b ∷ []
    → a.id.now ≡ codes "AMOUNT" → b.id.now ≡ codes "PARTY=SHARE"
    → j < length xs → bytes_eq (slice_index_or xs j e).id.now (slice_index_or xs 0 a).id.now ≡ true → j ≡ 0
only_amount xs a b zero e list first second low same = refl
only_amount xs a b (suc zero) e list first second low same =
    let at_two : bytes_eq b.id.now a.id.now ≡ true = rw list at same in
    let one_id : b.id.now ≡ a.id.now = (bytes_eq-Decides b.id.now a.id.now).0 at_two in
    cc
only_amount xs a b (suc (suc n)) e list first second low same = absurd (omega (arith, ap length list))

-- AMOUNT has a text that passed its range
amount_text : (c : Command) (m : ArgMatches) → IsSplitCommand c → IsParsedFrom c m
    → (t : List ℕ) × (one_text (found_of m) (codes "AMOUNT") ≡ Some t) × IsUnsignedIn 0 MOST_AMOUNT t
amount_text c m s p =
    let value = s.needs_amount.value in
    let first : slice_index_or (args_of c) 0 s.amount ≡ s.amount = rw s.has.list refl in
    let id : (slice_index_or (args_of c) 0 s.amount).id.now ≡ codes "AMOUNT" = rw first s.needs_amount.id in
    let got = required_reads c m p s.has.plain s.has.globals s.has.negates 0 s.amount (rw s.has.list (omega arith))
    (rw first value.0) (rw first value.1) (rw first value.2) (rw first value.3)
    (λ j e. only_amount (args_of c) s.amount s.pairs j e s.has.list s.needs_amount.id s.needs_pairs.id)
    (λ empty. cc)
    (λ auto. elim auto [ inl h ↦ cc | inr h ↦ cc ])
    (vp.Unsigned 0 MOST_AMOUNT) (rw first s.in_range) in
    (got.0, rw id at got.1, got.2)

-- so it reads as a number up to the most
pub amount_read : (c : Command) (m : ArgMatches) (r : Option ℕ) → IsSplitCommand c → IsParsedFrom c m
    → ((t : List ℕ) → one_text (found_of m) (codes "AMOUNT") ≡ Some t → ReadsU64 t r)
    → IsSome r × IfSome r (λ n. n ≤ MOST_AMOUNT)
amount_read c m r s p reads =
    let text = amount_text c m s p in
    let read = unsigned_reads 0 MOST_AMOUNT text.0 r (reads text.0 text.1) text.2 in
    (read.0, read.2)

-- an answer that shows the same as some value is some answer
pub some_of_map : {X Y Z : Type 0} (f : X → Z) (g : Y → Z) (r : Option X) (o : Option Y)
    → option_map f r ≡ option_map g o → is_some o ≡ true → IsSome r
some_of_map f g (Some x) o same given = refl
some_of_map f g None (Some y) same given = cc
some_of_map f g None None same given = given

-- PARTY=SHARE was used, so an answer that shows its values is some answer
pub pairs_read : {X : Type 0} (f : X → List (List ℕ)) (c : Command) (m : ArgMatches) (r : Option X)
    → IsSplitCommand c → IsParsedFrom c m
    → option_map f r ≡ option_map raw_values (matched_of (found_of m) (codes "PARTY=SHARE")) → IsSome r
pairs_read f c m r s p same =
    let second : slice_index_or (args_of c) 1 s.pairs ≡ s.pairs = rw s.has.list refl in
    let id : (slice_index_or (args_of c) 1 s.pairs).id.now ≡ codes "PARTY=SHARE" = rw second s.needs_pairs.id in
    let used = required_present c m p s.has.plain s.has.globals s.has.negates 1 s.pairs (rw s.has.list (omega arith))
    (rw second s.needs_pairs.value.0) in
    some_of_map f raw_values r _ same (present_has_entry (found_of m) _ (rw id at used))

-- what a parse finds of the words, where none is an option
rows_are : (c : Command) (m : ArgMatches) (words : List (List ℕ)) → IsSplitCommand c → HasMatchesOf (app_of c) words m
    → rows_of (found_of m) ≡ matches_of split_app words
rows_are c m words s found = (found (ap is_simple s.has.shape ∙ split_simple)).0 ∙ ap (λ a. matches_of a words) s.has.shape

-- then the amount is the number of the second word
pub amount_given : (c : Command) (m : ArgMatches) (words : List (List ℕ)) (r : Option ℕ) (n : ℕ) → IsSplitCommand c → IsParsedFrom c m
    → HasMatchesOf (app_of c) words m → All IsValue (drop 1 words)
    → ((t : List ℕ) → one_text (found_of m) (codes "AMOUNT") ≡ Some t → ReadsU64 t r) → r ≡ Some n → n ≡ number_in (word_at words 1)
amount_given c m words r n s p found are reads is =
    let text = amount_text c m s p in
    let at : one_of (codes "AMOUNT") (matches_of split_app words) ≡ Some text.0 =
    ap (one_of (codes "AMOUNT")) (sym (rows_are c m words s found)) ∙ sym (one_text-rows (found_of m) (codes "AMOUNT")) ∙ text.1 in
    let read : ReadsU64 text.0 (Some n) = subst (ReadsU64 text.0) is (reads text.0 text.1) in
    read.0.1 ∙ ap number_in (amount_is words text.0 are at)

-- and the values of PARTY=SHARE are the words after it
pub pairs_given : {X : Type 0} (f : X → List (List ℕ)) (c : Command) (m : ArgMatches) (words : List (List ℕ)) (r : Option X) (v : X) → IsSplitCommand c
    → HasMatchesOf (app_of c) words m → All IsValue (drop 1 words)
    → option_map f r ≡ option_map raw_values (matched_of (found_of m) (codes "PARTY=SHARE")) → r ≡ Some v → f v ≡ drop 2 words
pairs_given f c m words r v s found are same is =
    let at : all_of (codes "PARTY=SHARE") (matches_of split_app words) ≡ Some (f v) =
    ap (all_of (codes "PARTY=SHARE")) (sym (rows_are c m words s found)) ∙ sym (raw_values-rows (found_of m) (codes "PARTY=SHARE"))
    ∙ sym same ∙ ap (option_map f) is in
    pairs_are words (f v) are at

-- a parse that fails does not ask for help
pub error_given : (c : Command) (words : List (List ℕ)) (e : Error) → IsSplitCommand c
    → (is_simple_and_free (app_of c) ≡ true → HasKind (fault_of (app_of c) words) e) → All IsValue (drop 1 words)
    → (kind_of e ≢ kinds.DisplayHelp) × (kind_of e ≢ kinds.DisplayVersion)
error_given c words e s fails are =
    kinds_no_help words (kind_of e) are (subst (λ a. HasKind (fault_of a words) e) s.has.shape (fails (ap is_simple_and_free s.has.shape ∙ split_free)))

-- and has an error that clap has for the words
pub error_is_split : (c : Command) (words : List (List ℕ)) (e : Error) → IsSplitCommand c
    → (is_simple_and_free (app_of c) ≡ true → HasKind (fault_of (app_of c) words) e) → IsErrorOf split_app words e
unfolding IsErrorOf
error_is_split c words e s fails = subst (λ a. HasKind (fault_of a words) e) s.has.shape (fails (ap is_simple_and_free s.has.shape ∙ split_free))

-- one more word of those that a parse gives is copied
pub copied_more : {S : Type 0} (bytes : S → List ℕ) (words : List (Bor (List ℕ))) (copies more : List S) (i : ℕ) (copy : S) (d : Bor (List ℕ)) → i < length words
    → more ≡ copies ++ copy ∷ [] → bytes copy ≡ (slice_index_or words i d).now
    → map bytes copies ≡ take i (map (λ word. word.now) words) → map bytes more ≡ take (i + 1) (map (λ word. word.now) words)
copied_more bytes words copies more i copy d lt pushed same so_far =
    let next : i + 1 ≡ suc i = omega arith in
    let step : map (λ word. word.now) (take (suc i) words) ≡ map (λ word. word.now) (take i words) ++ (slice_index_or words i d).now ∷ [] =
    ap (map (λ (word : Bor (List ℕ)). word.now)) (take-suc words i d lt) ∙ map-append (λ word. word.now) (take i words) (slice_index_or words i d ∷ []) in
    ap (map bytes) pushed ∙ map-append bytes copies (copy ∷ [])
    ∙ ap (λ l. l ++ bytes copy ∷ []) so_far ∙ ap (λ l. l ++ bytes copy ∷ []) (take-map (λ word. word.now) i words)
    ∙ ap (λ b. map (λ word. word.now) (take i words) ++ b ∷ []) same
    ∙ sym step ∙ sym (take-map (λ word. word.now) (suc i) words) ∙ ap (λ n. take n (map (λ word. word.now) words)) (sym next)
