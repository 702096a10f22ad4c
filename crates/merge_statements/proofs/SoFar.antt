-- Statements are merged payee by payee.
use Rattle.std.proofs.Common.{◌≡◌, ◌∙◌, inl, inr, ◌<◌, ◌+◌, ◌+ℤ◌, ◌++◌, ◌∷◌, ℕ, ℤ, zero, suc, pos, List, [], Option, Some, None, Bool, true, false, All, Contains, length, map, get_or, ap, sym, refl, subst, arith, codes}
use Rattle.std.specs.Prelude.{IfSome, filter, flat_map, sum_by}
use Rattle.std.specs.Cmp.Lexicographic.{nat_list_cmp_total}
use Rattle.std.specs.Io.KnownBytes.{Appends, Consumes}
use Rattle.std.specs.List.{AllByRecursion}
use Rattle.std.specs.List.Sorted.{IsStrictlySortedBy}
use Rattle.std.specs.Ordering.{is_eq, ordering_reverse}
use Rattle.std.specs.Str.{bytes_eq}
use Rattle.std.specs.declared.cmp.Ordering.{Ordering}
use Rattle.std.specs.declared.cmp.Ordering.TheVariants.{Less, Equal, Greater}
use Rattle.std.proofs.KnownBytes.{Appends-nil, Appends-trans, Consumes-kept, Consumes-nil, Consumes-trans}
use Rattle.std.proofs.lemmas.Int.{ints}
use Rattle.std.proofs.lemmas.List.{append-nil, get_or-map, length-append, length-map}
use Rattle.std.proofs.lemmas.List.Elements.{All-cons, All-head, All-nil, All-push, All-tail, filter-append}
use Rattle.std.proofs.lemmas.List.Sums.{sum_by-append, sum_by-cons}
use Rattle.std.proofs.lemmas.Grind.{flat_map-append}
use Rattle.std.proofs.lemmas.Map.Text.{is_eq-slice_cmp}
use Rattle.std.proofs.lemmas.Slice.Eq.{bytes_eq-Decides}
use Rattle.csv_table.specs.Written.{text_of, text_of_row}
use Rattle.line_split.specs.Signs.{int_sum_by}
use Rattle.line_split.proofs.IntSums.{int_sum_by-append, int_sum_by-cons, int_sum_by_push, none_plus, plus_none}
use Rattle.merge_statements.specs.SoFar.{AreMergedSoFar, AreOpen, HasLeast, HasPassed, HavePassed, IsBehind, IsNext, IsNextSound, PassesStatement}
use Rattle.merge_statements.specs.SoFar.{TakesEach, TakesOne, Unread, WritesAll, last_payee, order, payees_of, portions_in, portions_read}
use Rattle.merge_statements.specs.SoFar.{total_of_portions}
use Rattle.merge_statements.specs.SoFar.AreOpen.{none as no_open, more as more_open}
use Rattle.merge_statements.specs.SoFar.HavePassed.{none as no_passed, more as more_passed}
use Rattle.merge_statements.specs.SoFar.TakesEach.{none as none_of, more as more_of}
use Rattle.merge_statements.specs.SoFar.TakesOne.{taken as taken_of, left as left_of}
use Rattle.merge_statements.specs.Places.{At}
use Rattle.merge_statements.specs.Statements.{IsCount, IsStatement, Portion, Statement, portion_row, statement_rows, total_of, total_row}
use Rattle.merge_statements.specs.declared.walk.Place.TheVariants.{Between}
use Rattle.merge_statements.proofs.Counting.{each_counts, portions_counted}
use Rattle.merge_statements.proofs.Passing.{text_more}
use Rattle.merge_statements.proofs.ReadBack.{the_statement}

-- ---- byte order

pub lesser : (a b : List ℕ) → ¬ (a ≡ b) → ¬ (order b a ≡ Less) → order a b ≡ Less
lesser a b apart behind = by (order a b) refl
  where
    by : (o : Ordering) → order a b ≡ o → order a b ≡ Less
    by Less is = is
    by Equal is = absurd (apart ((bytes_eq-Decides a b).0 (sym (is_eq-slice_cmp a b) ∙ ap is_eq is)))
    by Greater is = absurd (behind (nat_list_cmp_total.antisymm b a ∙ ap ordering_reverse is))

not_same : (a b : List ℕ) → order a b ≡ Less → bytes_eq a b ≡ false
not_same a b less = sym (is_eq-slice_cmp a b) ∙ ap is_eq less

-- what is behind the last payee is behind all
pub all_before : (statements : List Statement) (payee : List ℕ) → IsStrictlySortedBy order (payees_of statements) → order (last_payee statements) payee ≡ Less
    → AllByRecursion (λ name. order name payee ≡ Less) (payees_of statements)
unfolding IsStrictlySortedBy
all_before [] payee rising less = tt
all_before (statement ∷ []) payee rising less = (less, tt)
all_before (statement ∷ next ∷ others) payee rising less =
    let later = all_before (next ∷ others) payee rising.1 less in
    (nat_list_cmp_total.trans statement.payee next.payee payee rising.0.0 later.0, later)

rises_after : (payee : List ℕ) (statements : List Statement) (last : Statement) → AllByRecursion (λ name. order payee name ≡ Less) (payees_of statements)
    → order payee last.payee ≡ Less → AllByRecursion (λ name. order payee name ≡ Less) (payees_of (statements ++ last ∷ []))
rises_after payee [] last after less = (less, tt)
rises_after payee (statement ∷ statements) last after less = (after.0, rises_after payee statements last after.1 less)

pub rises_more : (statements : List Statement) (last : Statement) → IsStrictlySortedBy order (payees_of statements)
    → AllByRecursion (λ name. order name last.payee ≡ Less) (payees_of statements) → IsStrictlySortedBy order (payees_of (statements ++ last ∷ []))
unfolding IsStrictlySortedBy
rises_more [] last rising before = (tt, tt)
rises_more (statement ∷ statements) last rising before =
    (rises_after statement.payee statements last rising.0 before.0, rises_more statements last rising.1 before.1)

pub none_with : (statements : List Statement) (payee : List ℕ) → AllByRecursion (λ name. order name payee ≡ Less) (payees_of statements) → portions_in payee statements ≡ []
none_with [] payee before = refl
none_with (statement ∷ statements) payee before = rw (not_same statement.payee payee before.0) (none_with statements payee before.1)

pub last_is : (statements : List Statement) (last : Statement) → last_payee (statements ++ last ∷ []) ≡ last.payee
last_is [] last = refl
last_is (statement ∷ []) last = refl
last_is (statement ∷ next ∷ others) last = last_is (next ∷ others) last

-- ---- a statement more

pub portions_more : (payee : List ℕ) (statements : List Statement) (last : Statement) → portions_in payee (statements ++ last ∷ []) ≡ portions_in payee statements ++ portions_in payee (last ∷ [])
portions_more payee statements last =
    ap (flat_map (λ (s : Statement). s.portions)) (filter-append (λ (s : Statement). bytes_eq s.payee payee) statements (last ∷ []))
    ∙ flat_map-append (λ (s : Statement). s.portions) (filter (λ s. bytes_eq s.payee payee) statements) (filter (λ s. bytes_eq s.payee payee) (last ∷ []))

pub none_of_another : (payee : List ℕ) (last : Statement) → bytes_eq last.payee payee ≡ false → portions_in payee (last ∷ []) ≡ []
none_of_another payee last other = rw other refl

pub all_of_own : (payee : List ℕ) (last : Statement) → bytes_eq last.payee payee ≡ true → portions_in payee (last ∷ []) ≡ last.portions
all_of_own payee last own = rw own (append-nil last.portions)

pub count_more : (statements : List Statement) (last : Statement)
    → sum_by (λ s. length s.portions) (statements ++ last ∷ []) ≡ sum_by (λ s. length s.portions) statements + length last.portions
count_more statements last = sum_by-append (λ (s : Statement). length s.portions) statements (last ∷ []) ∙ omega arith

pub rows_more : (statements : List Statement) (last : Statement)
    → text_of (flat_map statement_rows statements) ++ text_of (statement_rows last) ≡ text_of (flat_map statement_rows (statements ++ last ∷ []))
rows_more statements last =
    sym (flat_map-append text_of_row (flat_map statement_rows statements) (statement_rows last))
    ∙ ap text_of (ap (λ (rows : List (List (List ℕ))). flat_map statement_rows statements ++ rows) (sym (append-nil (statement_rows last))) ∙ sym (flat_map-append statement_rows statements (last ∷ [])))

-- ---- one text

pub passed_more : (start : Option (List ℕ)) (old new : Unread) (done : List Statement) (statement : Statement) → HasPassed start old done → PassesStatement old new statement
    → HasPassed start new (done ++ statement ∷ [])
passed_more start old new done statement was passes =
    let last : old.at.payee ≡ last_payee done = ap (λ (at : At). at.payee) was.at in
    let less : order (last_payee done) statement.payee ≡ Less = subst (λ (p : List ℕ). order p statement.payee ≡ Less) last passes.after in
    record {
      sound = All-push IsStatement done statement was.sound passes.sound;
      rising = rises_more done statement was.rising (all_before done statement.payee was.rising less);
      at = passes.at ∙ (λ i. record {
        place = Between;
        payee = sym (last_is done statement) i;
        portions = counted i;
        total = summed i;
      });
      consumed = subst (λ (t : List ℕ). Consumes start new.left t) (rows_more done statement)
          (Consumes-trans start old.left new.left (text_of (flat_map statement_rows done)) (text_of (statement_rows statement)) was.consumed passes.consumed);
      read = passes.reads start was.read;
      looked = passes.looked;
    }
  where
    counted : old.at.portions + length statement.portions ≡ sum_by (λ s. length s.portions) (done ++ statement ∷ [])
    counted = ap (λ (at : At). at.portions + length statement.portions) was.at ∙ sym (count_more done statement)

    summed : old.at.total +ℤ total_of statement ≡ int_sum_by total_of (done ++ statement ∷ [])
    summed = ap (λ (at : At). at.total +ℤ total_of statement) was.at ∙ sym (int_sum_by_push total_of done statement)

-- ---- all texts

-- lists that come to nothing together are nothing
both_nothing : {X : Type 0} (xs ys : List X) → xs ++ ys ≡ [] → (xs ≡ []) × (ys ≡ [])
both_nothing [] ys e = (refl, e)
both_nothing (x ∷ xs) ys e = cc e

-- what a payee's statements in all texts make of what was done
record AreDone (payee : List ℕ) (starts : List (Option (List ℕ))) (news : List Unread) (dones : List (List Statement)) (portions : List Portion) : Type 0 where
  pub more : List (List Statement)
  pub passed : HavePassed starts news more
  pub others : (other : List ℕ) → bytes_eq payee other ≡ false → flat_map (portions_in other) more ≡ flat_map (portions_in other) dones
  pub own : (other : List ℕ) → bytes_eq payee other ≡ true → flat_map (portions_in other) dones ≡ [] → flat_map (portions_in other) more ≡ portions
  pub sums : int_sum_by (λ done. int_sum_by total_of done) more ≡ int_sum_by (λ done. int_sum_by total_of done) dones +ℤ total_of_portions portions

-- the same of one text
pub record IsDone (payee : List ℕ) (start : Option (List ℕ)) (new : Unread) (done : List Statement) (portions : List Portion) : Type 0 where
  pub more : List Statement
  pub passed : HasPassed start new more
  pub others : (other : List ℕ) → bytes_eq payee other ≡ false → portions_in other more ≡ portions_in other done
  pub own : (other : List ℕ) → bytes_eq payee other ≡ true → portions_in other done ≡ [] → portions_in other more ≡ portions
  pub sum : int_sum_by total_of more ≡ int_sum_by total_of done +ℤ total_of_portions portions
  pub grown : (others : List Statement) × (more ≡ done ++ others) × All (λ statement. statement.payee ≡ payee) others

pub one_done : (payee : List ℕ) (start : Option (List ℕ)) (old new : Unread) (done : List Statement) (portions : List Portion) → HasPassed start old done → TakesOne payee old new portions
    → IsDone payee start new done portions
one_done payee start old new done _ was (taken_of statement passes same) = record {
  more = done ++ statement ∷ [];
  passed = passed_more start old new done statement was passes;
  others = λ other apart.
      portions_more other done statement
      ∙ (ap (λ (l : List Portion). portions_in other done ++ l) (none_of_another other statement (ap (λ (p : List ℕ). bytes_eq p other) same ∙ apart)) ∙ append-nil (portions_in other done));
  own = λ other one nothing.
      portions_more other done statement
      ∙ ((λ i. nothing i ++ portions_in other (statement ∷ [])) ∙ all_of_own other statement (ap (λ (p : List ℕ). bytes_eq p other) same ∙ one));
  sum = int_sum_by_push total_of done statement;
  grown = (statement ∷ [], refl, All-cons (λ (s : Statement). s.payee ≡ payee) statement [] same (All-nil (λ (s : Statement). s.payee ≡ payee)));
}
one_done payee start old new done _ was (left_of other same) = record {
  more = done;
  passed = subst (λ (part : Unread). HasPassed start part done) (sym same) was;
  others = λ name apart. refl;
  own = λ name one nothing. nothing;
  sum = sym (plus_none (int_sum_by total_of done));
  grown = ([], sym (append-nil done), All-nil (λ (s : Statement). s.payee ≡ payee));
}

pub moved : (a b c d : ℤ) → (a +ℤ b) +ℤ (c +ℤ d) ≡ (a +ℤ c) +ℤ (b +ℤ d)
moved a b c d = omega (arith, ints)

all_done : (payee : List ℕ) (starts : List (Option (List ℕ))) (olds news : List Unread) (dones : List (List Statement)) (portions : List Portion) → HavePassed starts olds dones
    → TakesEach (TakesOne payee) olds news portions → AreDone payee starts news dones portions
all_done payee _ _ _ _ _ no_passed none_of = record {
  more = [];
  passed = no_passed;
  others = λ other apart. refl;
  own = λ other one nothing. refl;
  sums = refl;
}
all_done payee _ _ _ _ _ (more_passed start part done starts parts dones has have) (more_of old new olds news own others takes each) =
    let first = one_done payee start part new done own has takes in
    let rest = all_done payee starts parts news dones others have each in
    record {
      more = first.more ∷ rest.more;
      passed = more_passed start new first.more starts news rest.more first.passed rest.passed;
      others = λ other apart. (λ i. first.others other apart i ++ rest.others other apart i);
      own = λ other one nothing.
          let none = both_nothing (portions_in other done) (flat_map (portions_in other) dones) nothing in
          (λ i. first.own other one none.0 i ++ rest.own other one none.1 i);
      sums =
          int_sum_by-cons (λ (d : List Statement). int_sum_by total_of d) first.more rest.more
          ∙ ((λ i. first.sum i +ℤ rest.sums i)
          ∙ (moved (int_sum_by total_of done) (total_of_portions own) (int_sum_by (λ (d : List Statement). int_sum_by total_of d) dones) (total_of_portions others)
          ∙ (λ i. sym (int_sum_by-cons (λ (d : List Statement). int_sum_by total_of d) done dones) i +ℤ sym (int_sum_by-append (λ (p : Portion). p.amount) own others) i)));
    }

-- ---- which payee can come next

-- the payee that comes next comes behind the last of all
pub next_behind : (last : List ℕ) (part : Unread) → IsBehind last part → IsNextSound part → IfSome part.payee (λ payee. order last payee ≡ Less)
next_behind last part behind next = by part.payee refl
  where
    by : (known : Option (List ℕ)) → part.payee ≡ known → IfSome known (λ payee. order last payee ≡ Less)
    by None is = tt
    by (Some payee) is = elim behind [
      | inl same ↦ subst (λ (p : List ℕ). order p payee ≡ Less) same (subst (λ (o : Option (List ℕ)). IfSome o (λ p. IsNext part.at part.line p)) is next).after
      | inr less ↦ subst (λ (o : Option (List ℕ)). IfSome o (λ p. order last p ≡ Less)) is less
    ]

-- a fact of the payee that comes next
pub known_fact : (P : List ℕ → Type 0) (known : Option (List ℕ)) (payee : List ℕ) → known ≡ Some payee → IfSome known P → P payee
known_fact P known payee is holds = subst (λ (o : Option (List ℕ)). IfSome o P) is holds

-- the text in which the least comes next
pub record IsFound (parts : List Unread) (least : List ℕ) : Type 0 where
  pub place : ℕ
  pub low : place < length parts
  pub default : Unread
  pub is : (get_or parts place default).payee ≡ Some least

pub found : (parts : List Unread) (least : List ℕ) → Contains (map (λ part. part.payee) parts) (Some least) → IsFound parts least
found [] least (k, low, is) = absurd (omega (arith, low))
found (part ∷ parts) least (k, low, is) =
    let whole : length (map (λ (p : Unread). p.payee) (part ∷ parts)) ≡ length (part ∷ parts) = length-map (part ∷ parts) (λ (p : Unread). p.payee) in
    let within : k < length (part ∷ parts) = omega (arith, low, whole) in
    record {
      place = k;
      low = within;
      default = part;
      is = sym (get_or-map (λ (p : Unread). p.payee) (part ∷ parts) k part (Some least) within) ∙ is;
    }

-- behind the payee whose statements were passed over comes every payee that is next
pub behind_least : (least : List ℕ) (olds news : List Unread) (portions : List Portion) → TakesEach (TakesOne least) olds news portions
    → All (λ part. IfSome part.payee (λ payee. ¬ (order payee least ≡ Less))) olds → All (IsBehind least) news
behind_least least _ _ _ none_of at = All-nil (IsBehind least)
behind_least least _ _ _ (more_of old new olds news own others takes each) at =
    All-cons (IsBehind least) new news (one takes) (behind_least least olds news others each (All-tail (λ (part : Unread). IfSome part.payee (λ payee. ¬ (order payee least ≡ Less))) old olds at))
  where
    from : ¬ (old.payee ≡ Some least) → IfSome old.payee (λ payee. ¬ (order payee least ≡ Less)) → IfSome old.payee (λ payee. order least payee ≡ Less)
    from other behind = by old.payee refl
      where
        by : (known : Option (List ℕ)) → old.payee ≡ known → IfSome known (λ payee. order least payee ≡ Less)
        by None is = tt
        by (Some payee) is = lesser least payee (λ same. other (is ∙ ap Some (sym same))) (known_fact (λ p. ¬ (order p least ≡ Less)) old.payee payee is behind)

    one : {portions : List Portion} → TakesOne least old new portions → IsBehind least new
    one (taken_of statement passes same) = inl (ap (λ (at : At). at.payee) passes.at ∙ same)
    one (left_of other same) = inr (subst (λ (part : Unread). IfSome part.payee (λ payee. order least payee ≡ Less)) (sym same)
        (from other (All-head (λ (part : Unread). IfSome part.payee (λ payee. ¬ (order payee least ≡ Less))) old olds at)))

-- where a payee comes next it has a portion
pub some_taken : (least : List ℕ) (olds news : List Unread) (portions : List Portion) → TakesEach (TakesOne least) olds news portions → (k : ℕ) (d : Unread) → k < length olds
    → (get_or olds k d).payee ≡ Some least → 0 < length portions
some_taken least _ _ _ none_of k d low is = absurd (omega (arith, low))
some_taken least _ _ _ (more_of old new olds news own others takes each) zero d low is = omega (arith, one takes, length-append own others)
  where
    one : {portions : List Portion} → TakesOne least old new portions → 0 < length portions
    one (taken_of statement passes same) = passes.sound.some
    one (left_of other same) = absurd (other is)
some_taken least _ _ _ (more_of old new olds news own others takes each) (suc k) d low is =
    omega (arith, some_taken least olds news others each k d (omega (arith, low)) is, length-append own others)

-- so it has a portion in all
pub some_paid : (least : List ℕ) (olds news : List Unread) (before after : Option (List ℕ)) (count : ℕ) (total : ℤ) → HasLeast olds least true → WritesAll least olds news before after count total
    → 0 < count
some_paid least olds news before after count total has wrote =
    let at = found olds least (has.some refl) in
    omega (arith, wrote.counted, some_taken least olds news wrote.portions wrote.taken at.place at.default at.low at.is)

-- ---- a payee more

pub payee_merged : (starts : List (Option (List ℕ))) (olds news : List Unread) (least : List ℕ) (before middle written after : Option (List ℕ)) (count own all : ℕ) (total sum whole : ℤ)
    → AreMergedSoFar starts olds before middle count total → HasLeast olds least true → WritesAll least olds news middle written own sum
    → Appends written after (text_of_row (total_row (codes "S") least own sum)) → all ≡ count + own → whole ≡ total +ℤ sum → IsCount all
    → AreMergedSoFar starts news before after all whole
payee_merged starts olds news least before middle written after count own all total sum whole was has wrote ended counted comes few = record {
  dones = done.more;
  whole = was.whole ++ statement ∷ [];
  passed = done.passed;
  sound = All-push IsStatement was.whole statement was.sound record { payee = next.name; some = some_taken least olds news wrote.portions wrote.taken at.place at.default at.low at.is; portions = wrote.sound };
  rising = rises_more was.whole statement was.rising earlier;
  behind = subst (λ (last : List ℕ). All (IsBehind last) news) (sym (last_is was.whole statement)) (behind_least least olds news wrote.portions wrote.taken (has.least_of refl));
  portions = λ payee. portions_more payee was.whole statement ∙ by payee (bytes_eq least payee) refl;
  counted = omega (arith, counted, was.counted, wrote.counted, count_more was.whole statement);
  sum = comes ∙ ((λ i. was.sum i +ℤ wrote.sum i) ∙ sym (int_sum_by_push total_of was.whole statement));
  sums = int_sum_by_push total_of was.whole statement ∙ (ap (λ (n : ℤ). n +ℤ total_of statement) was.sums ∙ sym done.sums);
  few = few;
  read = omega (arith, counted, was.read, wrote.counted, each_counts (TakesOne least) length (portions_counted least) olds news wrote.portions wrote.taken);
  written = subst (λ (t : List ℕ). Appends before after t) (rows_more was.whole statement)
      (Appends-trans before middle after (text_of (flat_map statement_rows was.whole)) (text_of (statement_rows statement)) was.written
      (subst (λ (t : List ℕ). Appends middle after t) whole_text (Appends-trans middle written after (text_of (map (portion_row least) wrote.portions)) (text_of_row (total_row (codes "S") least own sum)) wrote.written ended)));
}
  where
    at : IsFound olds least
    at = found olds least (has.some refl)

    part : Unread
    part = get_or olds at.place at.default

    next : IsNext part.at part.line least
    next = known_fact (λ p. IsNext part.at part.line p) part.payee least at.is (has.sound at.place at.default at.low)

    statement : Statement
    statement = the_statement least wrote.portions

    earlier : AllByRecursion (λ name. order name least ≡ Less) (payees_of was.whole)
    earlier = all_before was.whole least was.rising
        (known_fact (λ p. order (last_payee was.whole) p ≡ Less) part.payee least at.is (next_behind (last_payee was.whole) part (was.behind at.place at.default at.low) (has.sound at.place at.default at.low)))

    done : AreDone least starts news was.dones wrote.portions
    done = all_done least starts olds news was.dones wrote.portions was.passed wrote.taken

    by : (payee : List ℕ) (told : Bool) → bytes_eq least payee ≡ told → portions_in payee was.whole ++ portions_in payee (statement ∷ []) ≡ flat_map (portions_in payee) done.more
    by payee false apart =
        ap (λ (l : List Portion). portions_in payee was.whole ++ l) (none_of_another payee statement apart) ∙ append-nil (portions_in payee was.whole) ∙ was.portions payee ∙ sym (done.others payee apart)
    by payee true one =
        let nothing : portions_in payee was.whole ≡ [] = none_with was.whole payee (subst (λ (p : List ℕ). AllByRecursion (λ name. order name p ≡ Less) (payees_of was.whole)) ((bytes_eq-Decides least payee).0 one) earlier) in
        (λ i. nothing i ++ portions_in payee (statement ∷ [])) ∙ all_of_own payee statement one ∙ sym (done.own payee one (sym (was.portions payee) ∙ nothing))

    whole_text : text_of (map (portion_row least) wrote.portions) ++ text_of_row (total_row (codes "S") least own sum) ≡ text_of (statement_rows statement)
    whole_text =
        ap (λ (row : List (List ℕ)). text_of (map (portion_row least) wrote.portions) ++ text_of_row row) (λ i. total_row (codes "S") least (wrote.counted i) (wrote.sum i))
        ∙ text_more (map (portion_row least) wrote.portions) (total_row (codes "S") least (length wrote.portions) (total_of_portions wrote.portions))

-- ---- before the first payee

pub none_merged : (starts : List (Option (List ℕ))) (parts : List Unread) (before : Option (List ℕ)) → AreOpen starts parts → AreMergedSoFar starts parts before before 0 (pos 0)
unfolding IsStrictlySortedBy
none_merged starts parts before open_ = record {
  dones = dones starts parts open_;
  whole = [];
  passed = passed starts parts open_;
  sound = All-nil IsStatement;
  rising = tt;
  behind = behind starts parts open_;
  portions = λ payee. nothing payee starts parts open_;
  counted = refl;
  sum = refl;
  sums = nought starts parts open_;
  few = omega arith;
  read = none_read starts parts open_;
  written = Appends-nil before;
}
  where
    none_read : (starts : List (Option (List ℕ))) (parts : List Unread) → AreOpen starts parts → 0 ≡ portions_read parts
    none_read _ _ no_open = refl
    none_read _ _ (more_open start part starts parts at left read looked others) =
        omega (arith, none_read starts parts others, ap (λ (a : At). a.portions) at, sum_by-cons (λ (p : Unread). p.at.portions) part parts)

    dones : (starts : List (Option (List ℕ))) (parts : List Unread) → AreOpen starts parts → List (List Statement)
    dones _ _ no_open = []
    dones _ _ (more_open start part starts parts at left read looked others) = [] ∷ dones starts parts others

    passed : (starts : List (Option (List ℕ))) (parts : List Unread) (are : AreOpen starts parts) → HavePassed starts parts (dones starts parts are)
    passed _ _ no_open = no_passed
    passed _ _ (more_open start part starts parts at left read looked others) =
        more_passed start part [] starts parts (dones starts parts others)
        record { sound = All-nil IsStatement; rising = tt; at = at; consumed = Consumes-kept start start part.left [] (Consumes-nil start) left; read = read; looked = looked } (passed starts parts others)

    behind : (starts : List (Option (List ℕ))) (parts : List Unread) → AreOpen starts parts → All (IsBehind []) parts
    behind _ _ no_open = All-nil (IsBehind [])
    behind _ _ (more_open start part starts parts at left read looked others) = All-cons (IsBehind []) part parts (inl (ap (λ (a : At). a.payee) at)) (behind starts parts others)

    nothing : (payee : List ℕ) (starts : List (Option (List ℕ))) (parts : List Unread) (are : AreOpen starts parts) → ◌≡◌ {A = List Portion} [] (flat_map (portions_in payee) (dones starts parts are))
    nothing payee _ _ no_open = refl
    nothing payee _ _ (more_open start part starts parts at left read looked others) = nothing payee starts parts others

    nought : (starts : List (Option (List ℕ))) (parts : List Unread) (are : AreOpen starts parts) → pos 0 ≡ int_sum_by (λ done. int_sum_by total_of done) (dones starts parts are)
    nought _ _ no_open = refl
    nought _ _ (more_open start part starts parts at left read looked others) =
        nought starts parts others ∙ (sym (none_plus (int_sum_by (λ done. int_sum_by total_of done) (dones starts parts others))) ∙ sym (int_sum_by-cons (λ (done : List Statement). int_sum_by total_of done) [] (dones starts parts others)))
