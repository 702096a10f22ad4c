-- Statements are passed over in many texts.
use Rattle.std.proofs.Common.{◌≡◌, ◌∙◌, ◌<◌, ◌≤◌, ◌+◌, ◌-◌, ◌+ℤ◌, take, drop, set, ◌++◌, ◌∷◌, ℕ, ℤ, suc, pos, List, [], Option, Some, None, Bool, true, false, All, Contains, length, map, get_or, ap, sym, refl, subst, append_assoc, arith}
use Rattle.std.specs.Prelude.{IfSome}
use Rattle.std.specs.Cmp.Lexicographic.{nat_list_cmp_total}
use Rattle.std.specs.Io.KnownBytes.{Appends}
use Rattle.std.specs.declared.cmp.Ordering.{Ordering}
use Rattle.std.specs.declared.cmp.Ordering.TheVariants.{Less, Equal, Greater}
use Rattle.std.proofs.KnownBytes.{Appends-nil, Appends-trans}
use Rattle.std.proofs.Math.Seq.{take-length, take-suc}
use Rattle.std.proofs.lemmas.List.{append-nil, get_or-set_other, length-append, length-set, take_all, take_more_set}
use Rattle.std.proofs.lemmas.List.Elements.{All-append, All-cons, All-nil, All-weaker}
use Rattle.csv_table.specs.Written.{text_of}
use Rattle.line_split.proofs.IntSums.{int_sum_by-append}
use Rattle.merge_statements.specs.SoFar.{HasLeast, HoldsOfFirst, IsNext, IsNextSound, TakesEach, TakesOne, Unread, WritesAll, WritesOne, WritesStatement, order}
use Rattle.merge_statements.specs.SoFar.TakesEach.{none as none_of, more as more_of}
use Rattle.merge_statements.specs.SoFar.TakesOne.{taken as taken_of, left as left_of}
use Rattle.merge_statements.specs.Places.{At}
use Rattle.merge_statements.specs.Statements.{IsCount, IsPortion, Portion, portion_row}
use Rattle.merge_statements.proofs.Passing.{elements_more}

-- ---- one text

some_same : {X : Type 0} (a b : X) → Some a ≡ Some b → a ≡ b
some_same a b same = ap (λ o. by a o) same
  where
    by : {X : Type 0} → X → Option X → X
    by d None = d
    by d (Some x) = x

pub one_written : (payee : List ℕ) (old new : Unread) (before after : Option (List ℕ)) (count : ℕ) (total : ℤ) → old.payee ≡ Some payee
    → WritesStatement old new before after count total → WritesOne payee old new before after count total
one_written payee old new before after count total next was =
    let same : was.statement.payee ≡ payee = some_same was.statement.payee payee (sym was.passed.due ∙ next) in
    record {
      portions = was.statement.portions;
      taken = taken_of was.statement was.passed same;
      sound = was.passed.sound.portions;
      counted = was.counted;
      sum = was.sum;
      few = omega (arith, was.counted, was.passed.few, ap (λ (at : At). at.portions) was.passed.at);
      written = subst (λ (p : List ℕ). Appends before after (text_of (map (portion_row p) was.statement.portions))) same was.written;
    }

pub none_written : (payee : List ℕ) (part : Unread) (before : Option (List ℕ)) → ¬ (part.payee ≡ Some payee) → WritesOne payee part part before before 0 (pos 0)
none_written payee part before other = record {
  portions = [];
  taken = left_of other refl;
  sound = All-nil IsPortion;
  counted = refl;
  sum = refl;
  few = omega arith;
  written = Appends-nil before;
}

-- ---- all texts

pub no_texts : (payee : List ℕ) (before : Option (List ℕ)) → WritesAll payee [] [] before before 0 (pos 0)
no_texts payee before = record {
  portions = [];
  taken = none_of;
  sound = All-nil IsPortion;
  counted = refl;
  sum = refl;
  few = omega arith;
  written = Appends-nil before;
}

-- one text more at the end
pub takes_push : {X : Type 0} (One : Unread → Unread → List X → Type 0) (olds news : List Unread) (old new : Unread) (xs own : List X) → TakesEach One olds news xs → One old new own
    → TakesEach One (olds ++ old ∷ []) (news ++ new ∷ []) (xs ++ own)
takes_push One _ _ old new _ own none_of takes = subst (TakesEach One (old ∷ []) (new ∷ [])) (append-nil own) (more_of old new [] [] own [] takes none_of)
takes_push One _ _ old new _ own (more_of first next olds news its others takes all) one =
    subst (TakesEach One (first ∷ (olds ++ old ∷ [])) (next ∷ (news ++ new ∷ []))) (sym (append_assoc its others own))
    (more_of first next (olds ++ old ∷ []) (news ++ new ∷ []) its (others ++ own) takes (takes_push One olds news old new others own all one))

pub texts_more : (payee : List ℕ) (old new : Unread) (olds news : List Unread) (before middle after : Option (List ℕ)) (own so_far count : ℕ) (sum rest total : ℤ)
    → WritesAll payee olds news before middle so_far rest → WritesOne payee old new middle after own sum
    → count ≡ so_far + own → total ≡ rest +ℤ sum → IsCount count → WritesAll payee (olds ++ old ∷ []) (news ++ new ∷ []) before after count total
texts_more payee old new olds news before middle after own so_far count sum rest total was one counted comes few = record {
  portions = was.portions ++ one.portions;
  taken = takes_push (TakesOne payee) olds news old new was.portions one.portions was.taken one.taken;
  sound = All-append IsPortion was.portions one.portions was.sound one.sound;
  counted = omega (arith, counted, was.counted, one.counted, length-append was.portions one.portions);
  sum = comes ∙ ((λ i. was.sum i +ℤ one.sum i) ∙ sym (int_sum_by-append (λ (p : Portion). p.amount) was.portions one.portions));
  few = few;
  written = subst (λ (t : List ℕ). Appends before after t) (elements_more (portion_row payee) was.portions one.portions)
      (Appends-trans before middle after (text_of (map (portion_row payee) was.portions)) (text_of (map (portion_row payee) one.portions)) was.written one.written);
}

-- ---- by places

pub holds_of_none : (P : List Unread → List Unread → Type 0) (parts : List Unread) → P [] [] → HoldsOfFirst P parts parts 0
holds_of_none P parts holds = record {
  whole = refl;
  others = λ k d behind. refl;
  so_far = subst (λ (few : List Unread). P few few) (nothing_of parts) holds;
}
  where
    nothing_of : (parts : List Unread) → ◌≡◌ {A = List Unread} [] (take 0 parts)
    nothing_of [] = refl
    nothing_of (part ∷ parts) = refl

pub holds_of_more : (P Q : List Unread → List Unread → Type 0) (olds news : List Unread) (old new : Unread) (place : ℕ) → place < length news → old ≡ get_or news place old
    → HoldsOfFirst P olds news place → (P (take place olds) (take place news) → Q (take place olds ++ old ∷ []) (take place news ++ new ∷ []))
    → HoldsOfFirst Q olds (set news place new) (place + 1)
holds_of_more P Q olds news old new place low is was one = record {
  whole = length-set news place new ∙ was.whole;
  others = λ k d behind. get_or-set_other news place k new d (λ same. omega (arith, same, behind)) ∙ was.others k d (omega (arith, behind));
  so_far = subst (λ (l : List Unread). Q l (take (place + 1) (set news place new))) (sym olds_more)
      (subst (λ (l : List Unread). Q (take place olds ++ old ∷ []) l) (sym (take_more_set news place new low)) (one was.so_far));
}
  where
    low_old : place < length olds
    low_old = omega (arith, low, was.whole)

    olds_more : take (place + 1) olds ≡ take place olds ++ old ∷ []
    olds_more =
        let more : place + 1 ≡ suc place = omega arith in
        rw more (take-suc olds place old low_old ∙ ap (λ (part : Unread). take place olds ++ part ∷ []) (sym (was.others place old (omega arith)) ∙ sym is))

pub holds_of_all : (P : List Unread → List Unread → Type 0) (olds news : List Unread) (place : ℕ) → length news ≤ place → HoldsOfFirst P olds news place → P olds news
holds_of_all P olds news place end was =
    subst (λ (l : List Unread). P l news) (take_all place olds (omega (arith, end, was.whole))) (subst (λ (l : List Unread). P (take place olds) l) (take_all place news end) was.so_far)

-- ---- the least payee

abbrev IsAtLeast : List ℕ → Unread → Type 0
IsAtLeast least part = IfSome part.payee (λ payee. ¬ (order payee least ≡ Less))

abbrev HasNone : Unread → Type 0
HasNone part = part.payee ≡ None

abbrev payees : List Unread → List (Option (List ℕ))
payees parts = map (λ part. part.payee) parts

pub least_of_none : (least : List ℕ) → HasLeast [] least false
least_of_none least = record {
  sound = All-nil IsNextSound;
  none = λ is. All-nil HasNone;
  least_of = λ is. cc is;
  some = λ is. cc is;
}

-- a fact of what is none
if_none : (P : List ℕ → Type 0) (known : Option (List ℕ)) → known ≡ None → IfSome known P
if_none P None is = tt
if_none P (Some x) is = cc is

pub least_without : (first : Unread) (others : List Unread) (least : List ℕ) (found : Bool) → first.payee ≡ None → HasLeast others least found → HasLeast (first ∷ others) least found
least_without first others least found none has = record {
  sound = All-cons IsNextSound first others (if_none (λ p. IsNext first.at first.line p) first.payee none) has.sound;
  none = λ is. All-cons HasNone first others none (has.none is);
  least_of = λ is. All-cons (IsAtLeast least) first others (if_none (λ p. ¬ (order p least ≡ Less)) first.payee none) (has.least_of is);
  some = λ is. later (has.some is);
}
  where
    later : Contains (payees others) (Some least) → Contains (payees (first ∷ others)) (Some least)
    later (k, within, there) = (suc k, omega (arith, within), there)

-- what is not before a payee is not before one that comes before it
not_before : (least payee other : List ℕ) → order payee least ≡ Less → ¬ (order other least ≡ Less) → ¬ (order other payee ≡ Less)
not_before least payee other less not before = not (nat_list_cmp_total.trans other payee least before less)

not_before_itself : (payee : List ℕ) → ¬ (order payee payee ≡ Less)
not_before_itself payee less = by (sym less ∙ (nat_list_cmp_total.antisymm payee payee ∙ ap turned less))
  where
    turned : Ordering → Ordering
    turned Less = Greater
    turned Equal = Equal
    turned Greater = Less

    by : Less ≡ Greater → ⊥
    by is = cc is

weaker_known : (P Q : List ℕ → Type 0) (known : Option (List ℕ)) → ((p : List ℕ) → P p → Q p) → IfSome known P → IfSome known Q
weaker_known P Q None weaker is = tt
weaker_known P Q (Some x) weaker is = weaker x is

of_some : (P : List ℕ → Type 0) (known : Option (List ℕ)) (payee : List ℕ) → Some payee ≡ known → P payee → IfSome known P
of_some P None payee is holds = cc is
of_some P (Some x) payee is holds = subst P (some_same payee x is) holds

-- the first payee is the least, where none was found or it comes before the one that was
pub least_is_first : (first : Unread) (others : List Unread) (payee least : List ℕ) (found : Bool) → Some payee ≡ first.payee → IsNext first.at first.line payee
    → HasLeast others least found → (found ≡ true → order payee least ≡ Less) → HasLeast (first ∷ others) payee true
least_is_first first others payee least found is next has less = record {
  sound = All-cons IsNextSound first others (of_some (λ p. IsNext first.at first.line p) first.payee payee is next) has.sound;
  none = λ e. cc e;
  least_of = λ e. All-cons (IsAtLeast payee) first others (of_some (λ p. ¬ (order p payee ≡ Less)) first.payee payee is (not_before_itself payee)) (behind found refl);
  some = λ e. (0, omega arith, sym is);
}
  where
    behind : (told : Bool) → found ≡ told → All (IsAtLeast payee) others
    behind true e = All-weaker (IsAtLeast least) (IsAtLeast payee)
        (λ part at. weaker_known (λ p. ¬ (order p least ≡ Less)) (λ p. ¬ (order p payee ≡ Less)) part.payee (λ p. not_before least payee p (less e)) at) others (has.least_of e)
    behind false e = All-weaker HasNone (IsAtLeast payee) (λ part none. if_none (λ p. ¬ (order p payee ≡ Less)) part.payee none) others (has.none e)

-- or the one that was found stays the least
pub least_stays : (first : Unread) (others : List Unread) (payee least : List ℕ) → Some payee ≡ first.payee → IsNext first.at first.line payee
    → HasLeast others least true → ¬ (order payee least ≡ Less) → HasLeast (first ∷ others) least true
least_stays first others payee least is next has not = record {
  sound = All-cons IsNextSound first others (of_some (λ p. IsNext first.at first.line p) first.payee payee is next) has.sound;
  none = λ e. cc e;
  least_of = λ e. All-cons (IsAtLeast least) first others (of_some (λ p. ¬ (order p least ≡ Less)) first.payee payee is not) (has.least_of refl);
  some = λ e. later (has.some refl);
}
  where
    later : Contains (payees others) (Some least) → Contains (payees (first ∷ others)) (Some least)
    later (k, within, there) = (suc k, omega (arith, within), there)

-- ---- a list as its first and the others

pub none_of_few : (parts : List Unread) → length parts < 1 → parts ≡ []
none_of_few [] few = refl
none_of_few (part ∷ parts) few = absurd (omega (arith, few))

pub parts_whole : (parts : List Unread) (first : Unread) → 1 ≤ length parts → first ≡ get_or parts 0 first → parts ≡ first ∷ take (length parts - 1) (drop 1 parts)
parts_whole [] first some is = absurd (omega (arith, some))
parts_whole (part ∷ parts) first some is =
    let size : length (part ∷ parts) - 1 ≡ length parts = omega arith in
    (λ i. sym is i ∷ parts) ∙ ap (λ (others : List Unread). first ∷ others) (sym (take-length parts) ∙ ap (λ (n : ℕ). take n parts) (sym size))
