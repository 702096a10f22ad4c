-- What a parse finds in the words of a division, none of which is an option, and why it may fail.
use Rattle.std.proofs.Common.{◌≡◌, ◌≢◌, ◌∙◌, ◌++◌, ◌⊎◌, List, [], ◌∷◌, Some, None, sym, subst, ap, refl, inl, inr, arith, true, false, codes, drop, append-nil, append_assoc, length}
use Rattle.std.specs.List.{All, fold}
use Rattle.std.proofs.lemmas.List.Elements.{All-tail}
use Rattle.clap.specs.Words.{IsAmong, Rule, Shape, Text, all_of, is_simple, matches_of, one_of, built, fault_of, is_simple_and_free}
use Rattle.clap.specs.Faults.{defaults_fault, turn_fault, walk_fault}
use Rattle.clap.specs.Kinds.{or_else}
use Rattle.clap.specs.Lexer.{usize_max}
use Rattle.clap.specs.Walk.{Walk, after_step, finished, idle, nothing_held, positional, value, walk, walk_from, walked}
use Rattle.clap.specs.declared.builder.value_parser.ValueParser.TheVariants as vp
use Rattle.clap.specs.declared.error.kind.ErrorKind.{ErrorKind}
use Rattle.clap.specs.declared.error.kind.ErrorKind.TheVariants as kinds
use Rattle.line_split.specs.declared.TheConstants.{MOST_AMOUNT}
use Rattle.royalty_program.specs.Asked.{IsValue}
use Rattle.pair_split.specs.Pair.{word_at}
use Rattle.royalty_program.specs.SplitCommand.{split_app}
use Rattle.royalty_program.proofs.NoHelp.{NoHelp, fault_after, in_turn, no_kind, one_kind, range_no_help, values_no_help}
use Rattle.royalty_program.proofs.ValueWords.{row, turn_step, value_met}

pub split_simple : is_simple split_app ≡ true
split_simple = refl

pub split_free : is_simple_and_free split_app ≡ true
split_free = refl

-- the command and its arguments, as clap builds them
abbrev split : Shape
split = (built split_app).top

abbrev rules : List Rule
rules = split.rules

-- ---- the walk over the words

abbrev before_words : Walk
before_words = walk_from nothing_held

-- the walk once the amount is read
abbrev past_amount : Text → Walk
past_amount amount = record {
  held = record { rows = []; pending = Some (codes "AMOUNT", amount ∷ []); skip = 0 };
  waiting = idle;
  position = 2;
  is_trailing = false;
  stopped = None;
}

-- the walk once some pairs are read too
abbrev past_pairs : Text → List Text → Walk
past_pairs amount pairs = record {
  held = record { rows = row (codes "AMOUNT") (amount ∷ []) ∷ []; pending = Some (codes "PARTY=SHARE", pairs); skip = 0 };
  waiting = positional;
  position = 2;
  is_trailing = false;
  stopped = None;
}

reads_amount : (amount : Text) → IsValue amount → walked rules [] before_words amount ≡ past_amount amount
unfolding walked
reads_amount amount is = ap (λ met. after_step rules amount before_words met.0 met.1) (value_met rules idle 1 amount nothing_held (nothing_held, value) is refl refl)

reads_first : (amount pair : Text) → IsValue pair → walked rules [] (past_amount amount) pair ≡ past_pairs amount (pair ∷ [])
unfolding walked
reads_first amount pair is = ap (λ met. after_step rules pair (past_amount amount) met.0 met.1) (value_met rules idle 2 pair (past_amount amount).held ((past_amount amount).held, value) is refl refl)

reads_pair : (amount pair : Text) (pairs : List Text) → IsValue pair → walked rules [] (past_pairs amount pairs) pair ≡ past_pairs amount (pairs ++ pair ∷ [])
unfolding walked
reads_pair amount pair pairs is = ap (λ met. after_step rules pair (past_pairs amount pairs) met.0 met.1) (value_met rules positional 2 pair (past_pairs amount pairs).held ((past_pairs amount pairs).held, value) is refl refl)

reads_pairs : (amount : Text) (pairs more : List Text) → All IsValue more → fold (walked rules []) (past_pairs amount pairs) more ≡ past_pairs amount (pairs ++ more)
reads_pairs amount pairs [] are = ap (past_pairs amount) (sym (append-nil pairs))
reads_pairs amount pairs (pair ∷ more) are =
    ap (λ w. fold (walked rules []) w more) (reads_pair amount pair pairs (are 0 pair (omega arith)))
    ∙ reads_pairs amount (pairs ++ pair ∷ []) more (All-tail IsValue pair more are)
    ∙ ap (past_pairs amount) (append_assoc pairs (pair ∷ []) more)

walks_amount : (amount : Text) → IsValue amount → walk rules [] nothing_held (amount ∷ []) ≡ past_amount amount
walks_amount amount is = reads_amount amount is

walks_all : (amount pair : Text) (pairs : List Text) → All IsValue (amount ∷ pair ∷ pairs)
    → walk rules [] nothing_held (amount ∷ pair ∷ pairs) ≡ past_pairs amount (pair ∷ pairs)
walks_all amount pair pairs are =
    let rest = All-tail IsValue amount (pair ∷ pairs) are in
    ap (λ w. fold (walked rules []) w (pair ∷ pairs)) (reads_amount amount (are 0 amount (omega arith)))
    ∙ ap (λ w. fold (walked rules []) w pairs) (reads_first amount pair (rest 0 pair (omega arith)))
    ∙ reads_pairs amount (pair ∷ []) pairs (All-tail IsValue pair pairs rest)

-- ---- the matches

matches_amount : (first amount : Text) → IsValue amount → matches_of split_app (first ∷ amount ∷ []) ≡ row (codes "AMOUNT") (amount ∷ []) ∷ []
matches_amount first amount is = ap (λ w. finished rules w.held) (walks_amount amount is)

matches_all : (first amount pair : Text) (pairs : List Text) → All IsValue (amount ∷ pair ∷ pairs)
    → matches_of split_app (first ∷ amount ∷ pair ∷ pairs) ≡ row (codes "AMOUNT") (amount ∷ []) ∷ row (codes "PARTY=SHARE") (pair ∷ pairs) ∷ []
matches_all first amount pair pairs are = ap (λ w. finished rules w.held) (walks_all amount pair pairs are)

-- the text of AMOUNT is the second word
pub amount_is : (words : List Text) (text : Text) → All IsValue (drop 1 words)
    → one_of (codes "AMOUNT") (matches_of split_app words) ≡ Some text → text ≡ word_at words 1
amount_is [] text are is = cc
amount_is (first ∷ []) text are is = cc
amount_is (first ∷ amount ∷ []) text are is =
    let here : Some amount ≡ Some text = rw (matches_amount first amount (are 0 amount (omega arith))) at is in cc
amount_is (first ∷ amount ∷ pair ∷ pairs) text are is =
    let here : Some amount ≡ Some text = rw (matches_all first amount pair pairs are) at is in cc

-- the values of PARTY=SHARE are the words after it
pub pairs_are : (words values : List Text) → All IsValue (drop 1 words)
    → all_of (codes "PARTY=SHARE") (matches_of split_app words) ≡ Some values → values ≡ drop 2 words
pairs_are [] values are is = cc
pairs_are (first ∷ []) values are is = cc
pairs_are (first ∷ amount ∷ []) values are is =
    let here : None ≡ Some values = rw (matches_amount first amount (are 0 amount (omega arith))) at is in cc
pairs_are (first ∷ amount ∷ pair ∷ pairs) values are is =
    let here : Some (pair ∷ pairs) ≡ Some values = rw (matches_all first amount pair pairs are) at is in cc

-- ---- the kinds of error

amount_turn : (amount : Text) → IsValue amount → turn_fault split [] before_words amount ≡ []
amount_turn amount is = turn_step split before_words amount (nothing_held, value) is refl refl refl refl

first_turn : (amount pair : Text) → IsValue pair → NoHelp (turn_fault split [] (past_amount amount) pair)
first_turn amount pair is = subst NoHelp (sym (turn_step split (past_amount amount) pair ((past_amount amount).held, value) is refl refl refl refl))
    (values_no_help (vp.Unsigned 0 MOST_AMOUNT) (one_kind kinds.ValueValidation (λ e. cc) (λ e. cc)) (amount ∷ []))

pair_turn : (amount pair : Text) (pairs : List Text) → IsValue pair → turn_fault split [] (past_pairs amount pairs) pair ≡ []
pair_turn amount pair pairs is = turn_step split (past_pairs amount pairs) pair ((past_pairs amount pairs).held, value) is refl refl refl refl

pairs_turns : (amount : Text) (pairs more : List Text) → All IsValue more → walk_fault split [] (past_pairs amount pairs) more ≡ []
unfolding walk_fault
pairs_turns amount pairs [] are = refl
pairs_turns amount pairs (pair ∷ more) are =
    let is = are 0 pair (omega arith) in
    ap (λ f. or_else f (walk_fault split [] (walked rules [] (past_pairs amount pairs) pair) more)) (pair_turn amount pair pairs is)
    ∙ ap (λ w. walk_fault split [] w more) (reads_pair amount pair pairs is)
    ∙ pairs_turns amount (pairs ++ pair ∷ []) more (All-tail IsValue pair more are)

none_after : NoHelp (fault_after split_app before_words)
unfolding defaults_fault
none_after = one_kind kinds.MissingRequiredArgument (λ e. cc) (λ e. cc)

amount_after : (amount : Text) → NoHelp (fault_after split_app (past_amount amount))
unfolding defaults_fault
amount_after amount = in_turn _ _
    (values_no_help (vp.Unsigned 0 MOST_AMOUNT) (one_kind kinds.ValueValidation (λ e. cc) (λ e. cc)) (amount ∷ []))
    (one_kind kinds.MissingRequiredArgument (λ e. cc) (λ e. cc))

pairs_after : (amount pair : Text) (pairs : List Text) → NoHelp (fault_after split_app (past_pairs amount (pair ∷ pairs)))
unfolding defaults_fault
pairs_after amount pair pairs = in_turn _ _
    (in_turn _ _ (range_no_help 1 usize_max (length (pair ∷ pairs)))
    (values_no_help vp.String (one_kind kinds.ValueValidation (λ e. cc) (λ e. cc)) (pair ∷ pairs)))
    no_kind

fault_no_help : (words : List Text) → All IsValue (drop 1 words) → NoHelp (fault_of split_app words)
unfolding walk_fault
fault_no_help [] are = none_after
fault_no_help (first ∷ []) are = none_after
fault_no_help (first ∷ amount ∷ []) are =
    let is = are 0 amount (omega arith) in
    in_turn _ _ (subst NoHelp (sym (ap (λ f. or_else f []) (amount_turn amount is))) no_kind)
    (subst (λ w. NoHelp (fault_after split_app w)) (sym (walks_amount amount is)) (amount_after amount))
fault_no_help (first ∷ amount ∷ pair ∷ pairs) are =
    let is = are 0 amount (omega arith) in
    let rest = All-tail IsValue amount (pair ∷ pairs) are in
    let first_is = rest 0 pair (omega arith) in
    let at_pairs : NoHelp (walk_fault split [] (past_amount amount) (pair ∷ pairs)) = in_turn _ _ (first_turn amount pair first_is)
    (subst NoHelp (sym (ap (λ w. walk_fault split [] w pairs) (reads_first amount pair first_is) ∙ pairs_turns amount (pair ∷ []) pairs (All-tail IsValue pair pairs rest))) no_kind) in
    in_turn _ _
    (in_turn _ _ (subst NoHelp (sym (amount_turn amount is)) no_kind)
    (subst (λ w. NoHelp (walk_fault split [] w (pair ∷ pairs))) (sym (reads_amount amount is)) at_pairs))
    (subst (λ w. NoHelp (fault_after split_app w)) (sym (walks_all amount pair pairs are)) (pairs_after amount pair pairs))

-- so an error that has one of the kinds asks for neither
pub kinds_no_help : (words : List Text) (k : ErrorKind) → All IsValue (drop 1 words) → (k ≡ kinds.OutOfMemory) ⊎ IsAmong k (fault_of split_app words)
    → (k ≢ kinds.DisplayHelp) × (k ≢ kinds.DisplayVersion)
kinds_no_help words k are (inl memory) = (λ e. cc, λ e. cc)
kinds_no_help words k are (inr among) = (fault_no_help words are).asks k among
