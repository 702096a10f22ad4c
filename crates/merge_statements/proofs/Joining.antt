-- Statements whose sums are in their limits have a merge.
use Rattle.std.proofs.Common.{◌≡◌, ◌∙◌, ◌^◌, ◌≤◌, ◌++◌, ◌∷◌, [], ℕ, ℤ, ◌+ℤ◌, unsigned_abs, Bool, true, false, List, All, ap, refl, sym, subst, append_assoc, arith}
use Rattle.std.specs.Prelude.{filter, flat_map, if◌then◌else◌, sum_by}
use Rattle.std.specs.Cmp.Lexicographic.{nat_list_cmp_total}
use Rattle.std.specs.List.{AllByRecursion}
use Rattle.std.specs.List.Sorted.{IsStrictlySortedBy}
use Rattle.std.specs.Ordering.{is_eq, ordering_reverse}
use Rattle.std.specs.Str.{bytes_eq}
use Rattle.std.specs.declared.cmp.Ordering.{Ordering}
use Rattle.std.specs.declared.cmp.Ordering.TheVariants.{Less, Equal, Greater}
use Rattle.std.proofs.lemmas.Int.{ints}
use Rattle.std.proofs.lemmas.List.{append-nil, length-append}
use Rattle.std.proofs.lemmas.List.Elements.{All-append, All-cons, All-head, All-nil, All-tail, All-weaker}
use Rattle.std.proofs.lemmas.Map.Text.{is_eq-slice_cmp}
use Rattle.std.proofs.lemmas.Slice.Eq.{bytes_eq-Decides}
use Rattle.line_split.specs.Signs.{int_sum_by}
use Rattle.line_split.proofs.IntSums.{int_sum_by-append, int_sum_by-cons, none_plus, plus_none}
use Rattle.merge_statements.specs.Merged.{AreInLimits, AreMerged, portions_of}
use Rattle.merge_statements.specs.Statements.{AreStatements, IsPortion, IsRest, IsStatement, Portion, Rest, Statement, Statements, total_of, total_of_rests}
use Rattle.merge_statements.proofs.OneMerge.{all_after, first_has, first_kept, none_before, order, payees_of, portions_in}
use Rattle.merge_statements.proofs.ReadBack.{the_statement}

swapped : (a b : ℤ) → a +ℤ b ≡ b +ℤ a
swapped a b = omega (arith, ints)

moved : (a b c : ℤ) → (a +ℤ b) +ℤ c ≡ (a +ℤ c) +ℤ b
moved a b c = omega (arith, ints)

joined : (a b c : ℤ) → a +ℤ (b +ℤ c) ≡ (a +ℤ b) +ℤ c
joined a b c = omega (arith, ints)

-- One statement more

-- what it becomes beside the first, by which payee comes before the other
abbrev beside : Ordering → (statement first : Statement) → (others later : List Statement) → List Statement
beside Less statement first others later = statement ∷ first ∷ others
beside Equal statement first others later = the_statement first.payee (first.portions ++ statement.portions) ∷ others
beside Greater statement first others later = first ∷ later

-- statements in order with one more in its place
abbrev with_statement : Statement → List Statement → List Statement
with_statement statement [] = statement ∷ []
with_statement statement (first ∷ others) = beside (order statement.payee first.payee) statement first others (with_statement statement others)

-- the portions that a payee has of one statement
abbrev its_portions : List ℕ → Statement → List Portion
its_portions payee statement = if bytes_eq statement.payee payee then statement.portions else []

portions_first : (payee : List ℕ) (statement : Statement) (others : List Statement) → portions_in payee (statement ∷ others) ≡ its_portions payee statement ++ portions_in payee others
portions_first payee statement others = first_kept (bytes_eq statement.payee payee) statement (filter (λ s. bytes_eq s.payee payee) others)

turned : (payee other : List ℕ) → order payee other ≡ Greater → order other payee ≡ Less
turned payee other is = nat_list_cmp_total.antisymm other payee ∙ ap ordering_reverse is

level : (payee other : List ℕ) → order payee other ≡ Equal → payee ≡ other
level payee other is = (bytes_eq-Decides payee other).0 (sym (is_eq-slice_cmp payee other) ∙ ap is_eq is)

module _ (statement : Statement) where
  with_after : (payee : List ℕ) (others : List Statement) → order payee statement.payee ≡ Less → AllByRecursion (λ next. order payee next ≡ Less) (payees_of others)
      → AllByRecursion (λ next. order payee next ≡ Less) (payees_of (with_statement statement others))
  with_after payee [] less after = (less, tt)
  with_after payee (first ∷ others) less after = on (order statement.payee first.payee) (with_after payee others less after.1)
    where
      on : (o : Ordering) → AllByRecursion (λ next. order payee next ≡ Less) (payees_of (with_statement statement others))
          → AllByRecursion (λ next. order payee next ≡ Less) (payees_of (beside o statement first others (with_statement statement others)))
      on Less later = (less, after)
      on Equal later = after
      on Greater later = (after.0, later)

  with_rises : (others : List Statement) → IsStrictlySortedBy order (payees_of others) → IsStrictlySortedBy order (payees_of (with_statement statement others))
  unfolding IsStrictlySortedBy
  with_rises [] rising = (tt, tt)
  with_rises (first ∷ others) rising = on (order statement.payee first.payee) refl (with_rises others rising.1)
    where
      on : (o : Ordering) → order statement.payee first.payee ≡ o → IsStrictlySortedBy order (payees_of (with_statement statement others))
          → IsStrictlySortedBy order (payees_of (beside o statement first others (with_statement statement others)))
      on Less is later = ((is, all_after statement.payee first.payee (payees_of others) is rising.0), rising)
      on Equal is later = rising
      on Greater is later = (with_after first.payee others (turned statement.payee first.payee is) rising.0, later)

  with_portions : (payee : List ℕ) (others : List Statement) → IsStrictlySortedBy order (payees_of others)
      → portions_in payee (with_statement statement others) ≡ portions_in payee others ++ its_portions payee statement
  unfolding IsStrictlySortedBy
  with_portions payee [] rising = portions_first payee statement [] ∙ append-nil (its_portions payee statement)
  with_portions payee (first ∷ others) rising = on (order statement.payee first.payee) refl (with_portions payee others rising.1)
    where
      before : (told : Bool) → bytes_eq statement.payee payee ≡ told → order statement.payee first.payee ≡ Less
          → (if told then statement.portions else []) ++ portions_in payee (first ∷ others) ≡ portions_in payee (first ∷ others) ++ (if told then statement.portions else [])
      before false other is = sym (append-nil (portions_in payee (first ∷ others)))
      before true own is =
          let after : AllByRecursion (λ next. order statement.payee next ≡ Less) (payees_of (first ∷ others)) = (is, all_after statement.payee first.payee (payees_of others) is rising.0) in
          let none : portions_in payee (first ∷ others) ≡ [] =
          none_before payee (first ∷ others) (subst (λ (p : List ℕ). AllByRecursion (λ next. order p next ≡ Less) (payees_of (first ∷ others))) ((bytes_eq-Decides statement.payee payee).0 own) after) in
          (λ i. statement.portions ++ none i) ∙ append-nil statement.portions ∙ (λ i. sym none i ++ statement.portions)

      same : (told : Bool) → bytes_eq first.payee payee ≡ told
          → (if told then first.portions ++ statement.portions else []) ++ portions_in payee others
          ≡ ((if told then first.portions else []) ++ portions_in payee others) ++ (if told then statement.portions else [])
      same false other = sym (append-nil (portions_in payee others))
      same true own =
          let none : portions_in payee others ≡ [] =
          none_before payee others (subst (λ (p : List ℕ). AllByRecursion (λ next. order p next ≡ Less) (payees_of others)) ((bytes_eq-Decides first.payee payee).0 own) rising.0) in
          (λ i. (first.portions ++ statement.portions) ++ none i)
          ∙ append-nil (first.portions ++ statement.portions)
          ∙ ap (λ (l : List Portion). l ++ statement.portions) (sym (append-nil first.portions))
          ∙ (λ i. (first.portions ++ sym none i) ++ statement.portions)

      on : (o : Ordering) → order statement.payee first.payee ≡ o → portions_in payee (with_statement statement others) ≡ portions_in payee others ++ its_portions payee statement
          → portions_in payee (beside o statement first others (with_statement statement others)) ≡ portions_in payee (first ∷ others) ++ its_portions payee statement
      on Less is later = portions_first payee statement (first ∷ others) ∙ before (bytes_eq statement.payee payee) refl is
      on Equal is later =
          let one = level statement.payee first.payee is in
          portions_first payee (the_statement first.payee (first.portions ++ statement.portions)) others
          ∙ same (bytes_eq first.payee payee) refl
          ∙ (λ i. sym (portions_first payee first others) i ++ (if bytes_eq (sym one i) payee then statement.portions else []))
      on Greater is later =
          portions_first payee first (with_statement statement others)
          ∙ ap (λ (l : List Portion). its_portions payee first ++ l) later
          ∙ sym (append_assoc (its_portions payee first) (portions_in payee others) (its_portions payee statement))
          ∙ ap (λ (l : List Portion). l ++ its_portions payee statement) (sym (portions_first payee first others))

  with_sound : (others : List Statement) → All IsStatement others → IsStatement statement → All IsStatement (with_statement statement others)
  with_sound [] sound is = All-cons IsStatement statement [] is sound
  with_sound (first ∷ others) sound is =
      on (order statement.payee first.payee) (with_sound others (All-tail IsStatement first others sound) is)
    where
      head : IsStatement first
      head = All-head IsStatement first others sound

      on : (o : Ordering) → All IsStatement (with_statement statement others) → All IsStatement (beside o statement first others (with_statement statement others))
      on Less later = All-cons IsStatement statement (first ∷ others) is sound
      on Equal later =
          All-cons IsStatement (the_statement first.payee (first.portions ++ statement.portions)) others record {
            payee = head.payee;
            some = omega (arith, head.some, length-append first.portions statement.portions);
            portions = All-append IsPortion first.portions statement.portions head.portions is.portions;
          } (All-tail IsStatement first others sound)
      on Greater later = All-cons IsStatement first (with_statement statement others) head later

  with_total : (others : List Statement) → int_sum_by total_of (with_statement statement others) ≡ int_sum_by total_of others +ℤ total_of statement
  with_total [] = refl
  with_total (first ∷ others) = on (order statement.payee first.payee) (with_total others)
    where
      first_is : int_sum_by total_of (first ∷ others) ≡ total_of first +ℤ int_sum_by total_of others
      first_is = int_sum_by-cons total_of first others

      on : (o : Ordering) → int_sum_by total_of (with_statement statement others) ≡ int_sum_by total_of others +ℤ total_of statement
          → int_sum_by total_of (beside o statement first others (with_statement statement others)) ≡ int_sum_by total_of (first ∷ others) +ℤ total_of statement
      on Less later = int_sum_by-cons total_of statement (first ∷ others) ∙ swapped (total_of statement) (int_sum_by total_of (first ∷ others))
      on Equal later =
          int_sum_by-cons total_of (the_statement first.payee (first.portions ++ statement.portions)) others
          ∙ ap (λ (z : ℤ). z +ℤ int_sum_by total_of others) (int_sum_by-append (λ (portion : Portion). portion.amount) first.portions statement.portions)
          ∙ moved (total_of first) (total_of statement) (int_sum_by total_of others)
          ∙ ap (λ (z : ℤ). z +ℤ total_of statement) (sym first_is)
      on Greater later =
          int_sum_by-cons total_of first (with_statement statement others)
          ∙ ap (λ (z : ℤ). total_of first +ℤ z) later
          ∙ joined (total_of first) (int_sum_by total_of others) (total_of statement)
          ∙ ap (λ (z : ℤ). z +ℤ total_of statement) (sym first_is)

-- Statements more

abbrev with_statements : List Statement → List Statement → List Statement
with_statements all [] = all
with_statements all (statement ∷ more) = with_statements (with_statement statement all) more

all_rise : (all more : List Statement) → IsStrictlySortedBy order (payees_of all) → IsStrictlySortedBy order (payees_of (with_statements all more))
all_rise all [] rising = rising
all_rise all (statement ∷ more) rising = all_rise (with_statement statement all) more (with_rises statement all rising)

all_sound : (all more : List Statement) → All IsStatement all → All IsStatement more → All IsStatement (with_statements all more)
all_sound all [] sound are = sound
all_sound all (statement ∷ more) sound are =
    all_sound (with_statement statement all) more (with_sound statement all sound (All-head IsStatement statement more are)) (All-tail IsStatement statement more are)

all_portions : (payee : List ℕ) (all more : List Statement) → IsStrictlySortedBy order (payees_of all)
    → portions_in payee (with_statements all more) ≡ portions_in payee all ++ portions_in payee more
all_portions payee all [] rising = sym (append-nil (portions_in payee all))
all_portions payee all (statement ∷ more) rising =
    all_portions payee (with_statement statement all) more (with_rises statement all rising)
    ∙ ap (λ (l : List Portion). l ++ portions_in payee more) (with_portions statement payee all rising)
    ∙ append_assoc (portions_in payee all) (its_portions payee statement) (portions_in payee more)
    ∙ ap (λ (l : List Portion). portions_in payee all ++ l) (sym (portions_first payee statement more))

all_total : (all more : List Statement) → int_sum_by total_of (with_statements all more) ≡ int_sum_by total_of all +ℤ int_sum_by total_of more
all_total all [] = sym (plus_none (int_sum_by total_of all))
all_total all (statement ∷ more) =
    all_total (with_statement statement all) more
    ∙ ap (λ (z : ℤ). z +ℤ int_sum_by total_of more) (with_total statement all)
    ∙ sym (joined (int_sum_by total_of all) (total_of statement) (int_sum_by total_of more))
    ∙ ap (λ (z : ℤ). int_sum_by total_of all +ℤ z) (sym (int_sum_by-cons total_of statement more))

-- and those of all parts
abbrev with_parts : List Statement → List Statements → List Statement
with_parts all [] = all
with_parts all (part ∷ parts) = with_parts (with_statements all part.payees) parts

parts_rise : (all : List Statement) (parts : List Statements) → IsStrictlySortedBy order (payees_of all) → IsStrictlySortedBy order (payees_of (with_parts all parts))
parts_rise all [] rising = rising
parts_rise all (part ∷ parts) rising = parts_rise (with_statements all part.payees) parts (all_rise all part.payees rising)

parts_sound : (all : List Statement) (parts : List Statements) → All IsStatement all → All AreStatements parts → All IsStatement (with_parts all parts)
parts_sound all [] sound are = sound
parts_sound all (part ∷ parts) sound are =
    parts_sound (with_statements all part.payees) parts (all_sound all part.payees sound (All-head AreStatements part parts are).payees) (All-tail AreStatements part parts are)

parts_portions : (payee : List ℕ) (all : List Statement) (parts : List Statements) → IsStrictlySortedBy order (payees_of all)
    → portions_in payee (with_parts all parts) ≡ portions_in payee all ++ flat_map (portions_of payee) parts
parts_portions payee all [] rising = sym (append-nil (portions_in payee all))
parts_portions payee all (part ∷ parts) rising =
    parts_portions payee (with_statements all part.payees) parts (all_rise all part.payees rising)
    ∙ ap (λ (l : List Portion). l ++ flat_map (portions_of payee) parts) (all_portions payee all part.payees rising)
    ∙ append_assoc (portions_in payee all) (portions_of payee part) (flat_map (portions_of payee) parts)

-- Sums

-- what lists come to that are joined end to end
pub sum_joined : {X Y : Type 0} (list : X → List Y) (f : Y → ℤ) (xs : List X) → int_sum_by f (flat_map list xs) ≡ int_sum_by (λ x. int_sum_by f (list x)) xs
sum_joined list f [] = refl
sum_joined list f (x ∷ xs) =
    int_sum_by-append f (list x) (flat_map list xs)
    ∙ ap (λ (z : ℤ). int_sum_by f (list x) +ℤ z) (sum_joined list f xs)
    ∙ sym (int_sum_by-cons (λ y. int_sum_by f (list y)) x xs)

abbrev paid_in : Statements → ℤ
paid_in part = int_sum_by total_of part.payees

abbrev left_in : Statements → ℤ
left_in part = total_of_rests part.rests

parts_total : (all : List Statement) (parts : List Statements) → int_sum_by total_of (with_parts all parts) ≡ int_sum_by total_of all +ℤ int_sum_by paid_in parts
parts_total all [] = sym (plus_none (int_sum_by total_of all))
parts_total all (part ∷ parts) =
    parts_total (with_statements all part.payees) parts
    ∙ ap (λ (z : ℤ). z +ℤ int_sum_by paid_in parts) (all_total all part.payees)
    ∙ sym (joined (int_sum_by total_of all) (paid_in part) (int_sum_by paid_in parts))
    ∙ ap (λ (z : ℤ). int_sum_by total_of all +ℤ z) (sym (int_sum_by-cons paid_in part parts))

rests_total : (parts : List Statements) → total_of_rests (flat_map (λ part. part.rests) parts) ≡ int_sum_by left_in parts
rests_total parts = sum_joined (λ (part : Statements). part.rests) (λ (rest : Rest). rest.amount) parts

rests_sound : (parts : List Statements) → All AreStatements parts → All IsRest (flat_map (λ part. part.rests) parts)
rests_sound [] are = All-nil IsRest
rests_sound (part ∷ parts) are =
    All-append IsRest part.rests (flat_map (λ p. p.rests) parts) (All-head AreStatements part parts are).rests (rests_sound parts (All-tail AreStatements part parts are))

crossed : (a b c d : ℤ) → (a +ℤ b) +ℤ (c +ℤ d) ≡ (a +ℤ c) +ℤ (b +ℤ d)
crossed a b c d = omega (arith, ints)

sums_add_up : (parts : List Statements) → All AreStatements parts → int_sum_by paid_in parts +ℤ int_sum_by left_in parts ≡ int_sum_by (λ part. part.amount) parts
sums_add_up [] are = refl
sums_add_up (part ∷ parts) are =
    (λ i. int_sum_by-cons paid_in part parts i +ℤ int_sum_by-cons left_in part parts i)
    ∙ crossed (paid_in part) (int_sum_by paid_in parts) (left_in part) (int_sum_by left_in parts)
    ∙ (λ i. (All-head AreStatements part parts are).adds_up i +ℤ sums_add_up parts (All-tail AreStatements part parts are) i)
    ∙ sym (int_sum_by-cons (λ (p : Statements). p.amount) part parts)

-- a payee that comes after another has nothing of its
not_later : (statement : Statement) (others : List Statement) → AllByRecursion (λ next. order statement.payee next ≡ Less) (payees_of others)
    → All (λ other. bytes_eq statement.payee other.payee ≡ false) others
not_later statement [] after = All-nil (λ other. bytes_eq statement.payee other.payee ≡ false)
not_later statement (other ∷ others) after =
    All-cons (λ next. bytes_eq statement.payee next.payee ≡ false) other others (sym (is_eq-slice_cmp statement.payee other.payee) ∙ ap is_eq after.0) (not_later statement others after.1)

-- in order, each statement has its payee's portions
each_own : (all : List Statement) → IsStrictlySortedBy order (payees_of all) → All (λ statement. portions_in statement.payee all ≡ statement.portions) all
unfolding IsStrictlySortedBy
each_own [] rising = All-nil (λ statement. portions_in statement.payee [] ≡ statement.portions)
each_own (first ∷ others) rising =
    All-cons (λ statement. portions_in statement.payee (first ∷ others) ≡ statement.portions) first others (first_has first others rising.0)
    (λ k d within. rw (not_later first others rising.0 k d within) (each_own others rising.1 k d within))

none_rise : IsStrictlySortedBy order []
unfolding IsStrictlySortedBy
none_rise = tt

-- parts have a merge
pub have_merge : (parts : List Statements) → All AreStatements parts → AreInLimits parts → (whole : Statements) × AreMerged parts whole
have_merge parts are limits =
    let payees = with_parts [] parts in
    let rises = parts_rise [] parts none_rise in
    let portions : (payee : List ℕ) → portions_in payee payees ≡ flat_map (portions_of payee) parts = λ payee. parts_portions payee [] parts none_rise in
    let small : All (λ statement. unsigned_abs (total_of statement) ≤ 10 ^ 30) payees =
    All-weaker (λ statement. portions_in statement.payee payees ≡ statement.portions) (λ statement. unsigned_abs (total_of statement) ≤ 10 ^ 30)
    (λ statement own. subst (λ (list : List Portion). unsigned_abs (int_sum_by (λ portion. portion.amount) list) ≤ 10 ^ 30) (sym (portions statement.payee) ∙ own) (limits.totals statement.payee))
    payees (each_own payees rises) in
    let whole : Statements = record {
      payees = payees;
      rests = flat_map (λ part. part.rests) parts;
      lines = sum_by (λ part. part.lines) parts;
      amount = int_sum_by (λ part. part.amount) parts;
    } in
    let adds_up : int_sum_by total_of payees +ℤ total_of_rests (flat_map (λ part. part.rests) parts) ≡ int_sum_by (λ part. part.amount) parts =
    (λ i. (parts_total [] parts ∙ none_plus (int_sum_by paid_in parts)) i +ℤ rests_total parts i) ∙ sums_add_up parts are in (
      whole,
      record {
        sound = record {
          rising = rises;
          payees = parts_sound [] parts (All-nil IsStatement) are;
          rests = rests_sound parts are;
          adds_up = adds_up;
          lines = limits.lines;
          amount = limits.amount;
          totals = small;
          rest = limits.rest;
        };
        portions = portions;
        rests = refl;
        lines = refl;
        amount = refl;
      },
    )
