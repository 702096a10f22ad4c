-- A payee more is compared.
use Rattle.std.proofs.Common.{◌≡◌, ◌∙◌, ◌^◌, ◌+◌, ◌≤◌, ◌<◌, ◌+ℤ◌, ◌++◌, ◌∷◌, [], ℕ, ℤ, pos, Bool, true, false, List, Option, All, length, get_or, ap, refl, sym, subst, arith, inl, unsigned_abs}
use Rattle.std.specs.Prelude.{flat_map, sum_by}
use Rattle.std.specs.Cmp.Lexicographic.{nat_list_cmp_total}
use Rattle.std.specs.Io.KnownBytes.{Appends}
use Rattle.std.specs.List.{AllByRecursion}
use Rattle.std.specs.List.Sorted.{IsStrictlySortedBy}
use Rattle.std.specs.Ordering.{is_eq, ordering_reverse}
use Rattle.std.specs.Str.{bytes_eq}
use Rattle.std.specs.declared.cmp.Ordering.{Ordering}
use Rattle.std.specs.declared.cmp.Ordering.TheVariants.{Less, Equal, Greater}
use Rattle.std.proofs.KnownBytes.{Appends-nil, Appends-trans, Consumes-kept, Consumes-nil}
use Rattle.std.proofs.lemmas.Int.{ints}
use Rattle.std.proofs.lemmas.List.{append-nil, length-append}
use Rattle.std.proofs.lemmas.List.Elements.{All-append, All-cons, All-head, All-nil, All-push, All-tail, All-weaker}
use Rattle.std.proofs.lemmas.Map.Text.{is_eq-slice_cmp}
use Rattle.std.proofs.lemmas.Slice.Eq.{bytes_eq-Decides}
use Rattle.csv_table.specs.Written.{text_of}
use Rattle.line_split.specs.Signs.{int_sum_by}
use Rattle.line_split.proofs.IntSums.{int_sum_by_push, plus_none}
use Rattle.merge_statements.specs.Places.{At}
use Rattle.merge_statements.specs.SoFar.{HasLeast, HasPassed, IsBehind, IsNext, IsRead, TakesOne, Unread, order, payees_of, portions_in, total_of_portions}
use Rattle.merge_statements.specs.SoFar.TakesEach.{none as none_of, more as more_of}
use Rattle.merge_statements.specs.Statements.{IsName, IsPortion, IsStatement, Portion, Statement, statement_rows, total_of}
use Rattle.merge_statements.proofs.Counting.{portions_counted}
use Rattle.merge_statements.proofs.Whole.{statements_small}
use Rattle.merge_statements.proofs.ReadBack.{the_statement}
use Rattle.merge_statements.proofs.SoFar.{IsDone, IsFound, all_of_own, behind_least, count_more, found, known_fact, next_behind, none_of_another, none_with, one_done, portions_more, rises_more, rows_more, some_taken}
use Rattle.adjust_statements.specs.Differences.{AreRowsOfDifferences}
use Rattle.adjust_statements.specs.SoFar.{AdjustsPayee, AreAdjustedSoFar, AreUpTo, IsOpen, statement_of}
use Rattle.adjust_statements.proofs.DifferenceLemmas.{no_rows}

-- ---- byte order

not_itself : (name : List ℕ) → ¬ (order name name ≡ Less)
not_itself name less = by (sym less ∙ (nat_list_cmp_total.antisymm name name ∙ ap ordering_reverse less))
  where
    by : Less ≡ Greater → ⊥
    by is = cc is

-- what is not behind a name comes before what is
before : (name last next : List ℕ) → ¬ (order last name ≡ Less) → order last next ≡ Less → order name next ≡ Less
before name last next not_behind less = by (order name last) refl
  where
    by : (o : Ordering) → order name last ≡ o → order name next ≡ Less
    by Less is = nat_list_cmp_total.trans name last next is less
    by Equal is = subst (λ (n : List ℕ). order n next ≡ Less) (sym ((bytes_eq-Decides name last).0 (sym (is_eq-slice_cmp name last) ∙ ap is_eq is))) less
    by Greater is = absurd (not_behind (nat_list_cmp_total.antisymm last name ∙ ap ordering_reverse is))

all_before : (last next : List ℕ) (statements : List Statement) → order last next ≡ Less → AreUpTo last statements → AllByRecursion (λ name. order name next ≡ Less) (payees_of statements)
all_before last next [] less are = tt
all_before last next (statement ∷ statements) less are = (
  before statement.payee last next (All-head (λ (s : Statement). ¬ (order last s.payee ≡ Less)) statement statements are) less,
  all_before last next statements less (All-tail (λ (s : Statement). ¬ (order last s.payee ≡ Less)) statement statements are),
)

-- what is up to a name is up to one that comes behind it
further : (last next : List ℕ) (statements : List Statement) → order last next ≡ Less → AreUpTo last statements → AreUpTo next statements
further last next [] less are = All-nil (λ (s : Statement). ¬ (order next s.payee ≡ Less))
further last next (statement ∷ statements) less are =
    All-cons (λ (s : Statement). ¬ (order next s.payee ≡ Less)) statement statements
    (λ behind. All-head (λ (s : Statement). ¬ (order last s.payee ≡ Less)) statement statements are (nat_list_cmp_total.trans last next statement.payee less behind))
    (further last next statements less (All-tail (λ (s : Statement). ¬ (order last s.payee ≡ Less)) statement statements are))

-- ---- one text

up_to_more : (payee : List ℕ) (start : Option (List ℕ)) (new : Unread) (done : List Statement) (portions : List Portion) (is : IsDone payee start new done portions)
    → AreUpTo payee done → AreUpTo payee is.more
up_to_more payee start new done portions is are =
    let own = λ (s : Statement). s.payee ≡ payee in
    let up_to = λ (s : Statement). ¬ (order payee s.payee ≡ Less) in
    subst (AreUpTo payee) (sym is.grown.1) (All-append up_to done is.grown.0 are
    (All-weaker own up_to (λ (s : Statement) same less. not_itself payee (subst (λ (name : List ℕ). order payee name ≡ Less) same less)) is.grown.0 is.grown.2))

pub takes_read : (payee : List ℕ) (old new : Unread) (portions : List Portion) → TakesOne payee old new portions → (start : Option (List ℕ)) → IsRead start old → IsRead start new
takes_read payee old new portions takes start read = (portions_counted payee).reads old new portions takes start read

-- ---- the statement of differences, if there are any

statement_count : (payee : List ℕ) (rows : List Portion) → sum_by (λ s. length s.portions) (statement_of payee rows) ≡ length rows
statement_count payee [] = refl
statement_count payee (row ∷ rows) = omega arith

module _ (payee : List ℕ) (answer : List Statement) where
  abbrev with_rows_of : List Portion → List Statement
  with_rows_of rows = answer ++ statement_of payee rows

  more_sound : (rows : List Portion) → IsName payee → All IsPortion rows → All IsStatement answer → All IsStatement (with_rows_of rows)
  more_sound [] name sound are = subst (All IsStatement) (sym (append-nil answer)) are
  more_sound (row ∷ rows) name sound are = All-push IsStatement answer (the_statement payee (row ∷ rows)) are record { payee = name; some = omega arith; portions = sound }

  more_rise : (rows : List Portion) → IsStrictlySortedBy order (payees_of answer) → AllByRecursion (λ name. order name payee ≡ Less) (payees_of answer)
      → IsStrictlySortedBy order (payees_of (with_rows_of rows))
  more_rise [] rising earlier = subst (λ (l : List Statement). IsStrictlySortedBy order (payees_of l)) (sym (append-nil answer)) rising
  more_rise (row ∷ rows) rising earlier = rises_more answer (the_statement payee (row ∷ rows)) rising earlier

  more_up_to : (rows : List Portion) → AreUpTo payee answer → AreUpTo payee (with_rows_of rows)
  more_up_to [] are = subst (AreUpTo payee) (sym (append-nil answer)) are
  more_up_to (row ∷ rows) are = All-push (λ (s : Statement). ¬ (order payee s.payee ≡ Less)) answer (the_statement payee (row ∷ rows)) are (not_itself payee)

  more_counted : (rows : List Portion) → sum_by (λ s. length s.portions) (with_rows_of rows) ≡ sum_by (λ s. length s.portions) answer + length rows
  more_counted [] = ap (sum_by (λ (s : Statement). length s.portions)) (append-nil answer) ∙ omega arith
  more_counted (row ∷ rows) = count_more answer (the_statement payee (row ∷ rows))

  more_total : (rows : List Portion) → int_sum_by total_of (with_rows_of rows) ≡ int_sum_by total_of answer +ℤ total_of_portions rows
  more_total [] = ap (int_sum_by total_of) (append-nil answer) ∙ sym (plus_none (int_sum_by total_of answer))
  more_total (row ∷ rows) = int_sum_by_push total_of answer (the_statement payee (row ∷ rows))

  more_text : (rows : List Portion) → text_of (flat_map statement_rows answer) ++ text_of (flat_map statement_rows (statement_of payee rows)) ≡ text_of (flat_map statement_rows (with_rows_of rows))
  more_text [] = append-nil (text_of (flat_map statement_rows answer)) ∙ ap (λ (l : List Statement). text_of (flat_map statement_rows l)) (sym (append-nil answer))
  more_text (row ∷ rows) =
      ap (λ (l : List (List (List ℕ))). text_of (flat_map statement_rows answer) ++ text_of l) (append-nil (statement_rows (the_statement payee (row ∷ rows))))
      ∙ rows_more answer (the_statement payee (row ∷ rows))

  more_of_another : (rows : List Portion) (other : List ℕ) → bytes_eq payee other ≡ false → portions_in other (with_rows_of rows) ≡ portions_in other answer
  more_of_another [] other apart = ap (portions_in other) (append-nil answer)
  more_of_another (row ∷ rows) other apart =
      portions_more other answer (the_statement payee (row ∷ rows))
      ∙ ap (λ (l : List Portion). portions_in other answer ++ l) (none_of_another other (the_statement payee (row ∷ rows)) apart)
      ∙ append-nil (portions_in other answer)

  more_of_own : (rows : List Portion) (other : List ℕ) → bytes_eq payee other ≡ true → portions_in other answer ≡ [] → portions_in other (with_rows_of rows) ≡ rows
  more_of_own [] other own nothing = ap (portions_in other) (append-nil answer) ∙ nothing
  more_of_own (row ∷ rows) other own nothing =
      portions_more other answer (the_statement payee (row ∷ rows))
      ∙ (λ i. nothing i ++ portions_in other (the_statement payee (row ∷ rows) ∷ []))
      ∙ all_of_own other (the_statement payee (row ∷ rows)) own

-- ---- a payee more

added_up : (a b c d e f : ℤ) → a +ℤ b ≡ c → d +ℤ e ≡ f → (a +ℤ d) +ℤ (b +ℤ e) ≡ c +ℤ f
added_up a b c d e f one two = omega (arith, ints, one, two)

pub payee_adjusted : (paid_start right_start : Option (List ℕ)) (paid right paid_new right_new : Unread) (least : List ℕ) (first middle after : Option (List ℕ)) (count own all : ℕ) (total sum whole : ℤ)
    → AreAdjustedSoFar paid_start right_start paid right first middle count total → HasLeast (paid ∷ right ∷ []) least true
    → AdjustsPayee least paid right paid_new right_new middle after own sum
    → all ≡ count + own → whole ≡ total +ℤ sum → AreAdjustedSoFar paid_start right_start paid_new right_new first after all whole
payee_adjusted paid_start right_start paid right paid_new right_new least first middle after count own all total sum whole was has more number comes = record {
  last = least;
  paid_done = paid_is.more;
  right_done = right_is.more;
  answer = was.answer ++ statement_of least rows;
  paid_passed = paid_is.passed;
  right_passed = right_is.passed;
  paid_behind = All-head (IsBehind least) paid_new (right_new ∷ []) behind;
  right_behind = All-head (IsBehind least) right_new [] (All-tail (IsBehind least) paid_new (right_new ∷ []) behind);
  paid_up_to = up_to_more least paid_start paid_new was.paid_done more.paid paid_is (further was.last least was.paid_done less was.paid_up_to);
  right_up_to = up_to_more least right_start right_new was.right_done more.right right_is (further was.last least was.right_done less was.right_up_to);
  up_to = more_up_to least was.answer rows (further was.last least was.answer less was.up_to);
  sound = more_sound least was.answer rows next.name more.wrote.sound was.sound;
  rising = more_rise least was.answer rows was.rising (all_before was.last least was.answer less was.up_to);
  each = λ payee. by payee (bytes_eq least payee) refl;
  adds =
      (λ i. paid_is.sum i +ℤ more_total least was.answer rows i)
      ∙ added_up (int_sum_by total_of was.paid_done) (int_sum_by total_of was.answer) (int_sum_by total_of was.right_done) (total_of_portions more.paid) (total_of_portions rows) (total_of_portions more.right) was.adds more.wrote.adds
      ∙ sym right_is.sum;
  counted = omega (arith, number, was.counted, more.wrote.counted, more_counted least was.answer rows);
  few = omega (arith, number, was.few, more.wrote.counted, more.wrote.few, paid_read, right_read);
  read = more.read;
  sum = comes ∙ (λ i. was.sum i +ℤ more.wrote.sum i) ∙ sym (more_total least was.answer rows);
  written = subst (λ (t : List ℕ). Appends first after t) (more_text least was.answer rows)
      (Appends-trans first middle after (text_of (flat_map statement_rows was.answer)) (text_of (flat_map statement_rows (statement_of least rows))) was.written more.wrote.written);
}
  where
    rows : List Portion
    rows = more.wrote.rows

    paid_is : IsDone least paid_start paid_new was.paid_done more.paid
    paid_is = one_done least paid_start paid paid_new was.paid_done more.paid was.paid_passed more.paid_taken

    right_is : IsDone least right_start right_new was.right_done more.right
    right_is = one_done least right_start right right_new was.right_done more.right was.right_passed more.right_taken

    paid_read : paid_new.at.portions ≡ paid.at.portions + length more.paid
    paid_read = (portions_counted least).counts paid paid_new more.paid more.paid_taken

    right_read : right_new.at.portions ≡ right.at.portions + length more.right
    right_read = (portions_counted least).counts right right_new more.right more.right_taken

    behind : All (IsBehind least) (paid_new ∷ right_new ∷ [])
    behind = behind_least least (paid ∷ right ∷ []) (paid_new ∷ right_new ∷ []) (more.paid ++ (more.right ++ []))
        (more_of paid paid_new (right ∷ []) (right_new ∷ []) more.paid (more.right ++ []) more.paid_taken
        (more_of right right_new [] [] more.right [] more.right_taken none_of)) (has.least_of refl)

    at : IsFound (paid ∷ right ∷ []) least
    at = found (paid ∷ right ∷ []) least (has.some refl)

    part : Unread
    part = get_or (paid ∷ right ∷ []) at.place at.default

    next : IsNext part.at part.line least
    next = known_fact (λ p. IsNext part.at part.line p) part.payee least at.is (has.sound at.place at.default at.low)

    all_behind : All (IsBehind was.last) (paid ∷ right ∷ [])
    all_behind = All-cons (IsBehind was.last) paid (right ∷ []) was.paid_behind (All-cons (IsBehind was.last) right [] was.right_behind (All-nil (IsBehind was.last)))

    less : order was.last least ≡ Less
    less = known_fact (λ p. order was.last p ≡ Less) part.payee least at.is
        (next_behind was.last part (all_behind at.place at.default at.low) (has.sound at.place at.default at.low))

    none_in : (payee : List ℕ) (statements : List Statement) → bytes_eq least payee ≡ true → AreUpTo was.last statements → portions_in payee statements ≡ []
    none_in payee statements one are = none_with statements payee
        (subst (λ (p : List ℕ). AllByRecursion (λ name. order name p ≡ Less) (payees_of statements)) ((bytes_eq-Decides least payee).0 one) (all_before was.last least statements less are))

    by : (payee : List ℕ) (told : Bool) → bytes_eq least payee ≡ told
        → AreRowsOfDifferences (portions_in payee paid_is.more) (portions_in payee right_is.more) (portions_in payee (was.answer ++ statement_of least rows))
    by payee false apart = rw (paid_is.others payee apart, right_is.others payee apart, more_of_another least was.answer rows payee apart) (was.each payee)
    by payee true one = rw (
      paid_is.own payee one (none_in payee was.paid_done one was.paid_up_to),
      right_is.own payee one (none_in payee was.right_done one was.right_up_to),
      more_of_own least was.answer rows payee one (none_in payee was.answer one was.up_to),
    ) more.wrote.are

-- ---- before the first payee

pub none_adjusted : (paid_start right_start : Option (List ℕ)) (paid right : Unread) (first : Option (List ℕ)) → IsOpen paid_start paid → IsOpen right_start right
    → AreAdjustedSoFar paid_start right_start paid right first first 0 (pos 0)
unfolding IsStrictlySortedBy
none_adjusted paid_start right_start paid right first paid_open right_open = record {
  last = [];
  paid_done = [];
  right_done = [];
  answer = [];
  paid_passed = nothing paid_start paid paid_open;
  right_passed = nothing right_start right right_open;
  paid_behind = inl (ap (λ (a : At). a.payee) paid_open.at);
  right_behind = inl (ap (λ (a : At). a.payee) right_open.at);
  paid_up_to = All-nil (λ (s : Statement). ¬ (order [] s.payee ≡ Less));
  right_up_to = All-nil (λ (s : Statement). ¬ (order [] s.payee ≡ Less));
  up_to = All-nil (λ (s : Statement). ¬ (order [] s.payee ≡ Less));
  sound = All-nil IsStatement;
  rising = tt;
  each = λ payee. no_rows [];
  adds = refl;
  counted = refl;
  few = omega arith;
  read = omega (arith, ap (λ (a : At). a.portions) paid_open.at, ap (λ (a : At). a.portions) right_open.at);
  sum = refl;
  written = Appends-nil first;
}
  where
    nothing : (start : Option (List ℕ)) (part : Unread) → IsOpen start part → HasPassed start part []
    nothing start part is = record {
      sound = All-nil IsStatement;
      rising = tt;
      at = is.at;
      consumed = Consumes-kept start start part.left [] (Consumes-nil start) is.left;
      read = is.read;
      looked = is.looked;
    }

-- ---- what is so of the payee that comes next

pub least_named : (paid right : Unread) (least : List ℕ) → HasLeast (paid ∷ right ∷ []) least true → IsName least
least_named paid right least has =
    let at = found (paid ∷ right ∷ []) least (has.some refl) in
    let part = get_or (paid ∷ right ∷ []) at.place at.default in
    (known_fact (λ p. IsNext part.at part.line p) part.payee least at.is (has.sound at.place at.default at.low)).name

-- it has a portion
pub least_read : (paid right paid_new right_new : Unread) (least : List ℕ) (paid_portions right_portions : List Portion) → HasLeast (paid ∷ right ∷ []) least true
    → TakesOne least paid paid_new paid_portions → TakesOne least right right_new right_portions → 0 < length paid_portions + length right_portions
least_read paid right paid_new right_new least paid_portions right_portions has paid_taken right_taken =
    let at = found (paid ∷ right ∷ []) least (has.some refl) in
    let some = some_taken least (paid ∷ right ∷ []) (paid_new ∷ right_new ∷ []) (paid_portions ++ (right_portions ++ []))
    (more_of paid paid_new (right ∷ []) (right_new ∷ []) paid_portions (right_portions ++ []) paid_taken (more_of right right_new [] [] right_portions [] right_taken none_of)) at.place at.default at.low at.is in
    omega (arith, some, length-append paid_portions (right_portions ++ []), length-append right_portions [])

-- what was written is small
pub so_far_small : (paid_start right_start : Option (List ℕ)) (paid right : Unread) (first after : Option (List ℕ)) (count : ℕ) (total : ℤ) → AreAdjustedSoFar paid_start right_start paid right first after count total
    → (count ≤ 10 ^ 18) × (unsigned_abs total ≤ 10 ^ 30)
so_far_small paid_start right_start paid right first after count total was =
    let small = statements_small was.answer was.sound in
    let few : count ≤ 10 ^ 18 = omega (arith, was.few, was.read) in
    (few, omega (arith, small, few, was.counted, ap unsigned_abs was.sum))
