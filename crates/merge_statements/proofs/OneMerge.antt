-- Statements in order are known from what each payee has.
use Rattle.std.proofs.Common.{◌≡◌, ◌∙◌, ◌<◌, ◌++◌, ◌∷◌, [], ℕ, Bool, true, false, List, All, length, map, ap, refl, sym, subst, arith}
use Rattle.std.specs.Prelude.{filter, flat_map, if◌then◌else◌}
use Rattle.std.specs.Cmp.Lexicographic.{nat_list_cmp_total, slice_cmp}
use Rattle.std.specs.List.{AllByRecursion}
use Rattle.std.specs.List.Sorted.{IsStrictlySortedBy}
use Rattle.std.specs.Ordering.{is_eq, nat_cmp, ordering_reverse}
use Rattle.std.specs.Str.{bytes_eq}
use Rattle.std.specs.declared.cmp.Ordering.{Ordering}
use Rattle.std.specs.declared.cmp.Ordering.TheVariants.{Less, Equal, Greater}
use Rattle.std.proofs.lemmas.List.{append-nil}
use Rattle.std.proofs.lemmas.List.Elements.{All-head, All-tail}
use Rattle.std.proofs.lemmas.Map.Text.{is_eq-slice_cmp}
use Rattle.std.proofs.lemmas.Slice.Eq.{bytes_eq-Decides}
use Rattle.merge_statements.specs.Statements.{Portion, Statement}

abbrev pub order : List ℕ → List ℕ → Ordering
order = slice_cmp nat_cmp

-- a payee's portions in a list of statements
abbrev pub portions_in : List ℕ → List Statement → List Portion
portions_in payee payees = flat_map (λ statement. statement.portions) (filter (λ statement. bytes_eq statement.payee payee) payees)

abbrev pub payees_of : List Statement → List (List ℕ)
payees_of payees = map (λ statement. statement.payee) payees

abbrev pub HasPortion : Statement → Type 0
HasPortion statement = 0 < length statement.portions

-- a payee that comes after another is not the same
pub differs : (payee later : List ℕ) → order payee later ≡ Less → bytes_eq later payee ≡ false
differs payee later less = sym (is_eq-slice_cmp later payee) ∙ (ap is_eq (nat_list_cmp_total.antisymm later payee) ∙ ap (λ (o : Ordering). is_eq (ordering_reverse o)) less)

itself : (payee : List ℕ) → bytes_eq payee payee ≡ true
itself payee = (bytes_eq-Decides payee payee).1 refl

-- a payee that stands before all has no portion
pub none_before : (payee : List ℕ) (payees : List Statement) → AllByRecursion (λ other. order payee other ≡ Less) (payees_of payees) → portions_in payee payees ≡ []
none_before payee [] after = refl
none_before payee (statement ∷ payees) after = rw (differs payee statement.payee after.0) (none_before payee payees after.1)

-- a statement's portions stand first, if it is the payee's
pub first_kept : (kept : Bool) (statement : Statement) (others : List Statement)
    → flat_map (λ s. s.portions) (if kept then statement ∷ others else others) ≡ (if kept then statement.portions else []) ++ flat_map (λ s. s.portions) others
first_kept true statement others = refl
first_kept false statement others = refl

-- what the first payee has
pub first_has : (statement : Statement) (payees : List Statement) → AllByRecursion (λ other. order statement.payee other ≡ Less) (payees_of payees)
    → portions_in statement.payee (statement ∷ payees) ≡ statement.portions
first_has statement payees after =
    rw (itself statement.payee) (ap (λ (others : List Portion). statement.portions ++ others) (none_before statement.payee payees after) ∙ append-nil statement.portions)

-- what comes before a payee comes before those behind it
pub all_after : (payee next : List ℕ) (payees : List (List ℕ)) → order payee next ≡ Less → AllByRecursion (λ other. order next other ≡ Less) payees
    → AllByRecursion (λ other. order payee other ≡ Less) payees
all_after payee next [] less after = tt
all_after payee next (other ∷ payees) less after = (nat_list_cmp_total.trans payee next other less after.0, all_after payee next payees less after.1)

-- a statement with portions is not missing
not_missing : (statement : Statement) (payees others : List Statement) → AllByRecursion (λ other. order statement.payee other ≡ Less) (payees_of payees)
    → AllByRecursion (λ other. order statement.payee other ≡ Less) (payees_of others) → HasPortion statement
    → portions_in statement.payee (statement ∷ payees) ≡ portions_in statement.payee others → ⊥
not_missing statement payees others after missing some same =
    let none : statement.portions ≡ [] = sym (first_has statement payees after) ∙ same ∙ none_before statement.payee others missing in
    omega (arith, some, ap length none)

-- what payees have in the later statements, where the first are of one payee
later_same : (first other : Statement) (payees others : List Statement) (payee : List ℕ) → first.payee ≡ other.payee
    → AllByRecursion (λ next. order first.payee next ≡ Less) (payees_of payees) → AllByRecursion (λ next. order other.payee next ≡ Less) (payees_of others)
    → portions_in payee (first ∷ payees) ≡ portions_in payee (other ∷ others) → portions_in payee payees ≡ portions_in payee others
later_same first other payees others payee one after behind same = on (bytes_eq first.payee payee) refl
  where
    on : (told : Bool) → bytes_eq first.payee payee ≡ told → portions_in payee payees ≡ portions_in payee others
    on true is =
        let own : first.payee ≡ payee = (bytes_eq-Decides first.payee payee).0 is in
        let its : other.payee ≡ payee = sym one ∙ own in
        none_before payee payees (subst (λ p. AllByRecursion (λ next. order p next ≡ Less) (payees_of payees)) own after)
        ∙ sym (none_before payee others (subst (λ p. AllByRecursion (λ next. order p next ≡ Less) (payees_of others)) its behind))
    on false is =
        let its : bytes_eq other.payee payee ≡ false = ap (λ p. bytes_eq p payee) (sym one) ∙ is in
        rw (is, its) at same

-- two lists of statements in order, in which every payee has the same, are one
pub one_list : (payees others : List Statement) → IsStrictlySortedBy order (payees_of payees) → IsStrictlySortedBy order (payees_of others)
    → All HasPortion payees → All HasPortion others → ((payee : List ℕ) → portions_in payee payees ≡ portions_in payee others) → payees ≡ others
unfolding IsStrictlySortedBy
one_list [] [] rising rises some each same = refl
one_list [] (other ∷ others) rising rises some each same =
    absurd (not_missing other others [] rises.0 tt (All-head HasPortion other others each) (sym (same other.payee)))
one_list (first ∷ payees) [] rising rises some each same =
    absurd (not_missing first payees [] rising.0 tt (All-head HasPortion first payees some) (same first.payee))
one_list (first ∷ payees) (other ∷ others) rising rises some each same =
    on (order first.payee other.payee) refl (one_list payees others rising.1 rises.1 (All-tail HasPortion first payees some) (All-tail HasPortion other others each))
  where
    on : (told : Ordering) → order first.payee other.payee ≡ told
        → (((payee : List ℕ) → portions_in payee payees ≡ portions_in payee others) → payees ≡ others) → first ∷ payees ≡ other ∷ others
    on Less is later =
        absurd (not_missing first payees (other ∷ others) rising.0 (is, all_after first.payee other.payee (payees_of others) is rises.0)
        (All-head HasPortion first payees some) (same first.payee))
    on Greater is later =
        let less : order other.payee first.payee ≡ Less = nat_list_cmp_total.antisymm other.payee first.payee ∙ ap ordering_reverse is in
        absurd (not_missing other others (first ∷ payees) rises.0 (less, all_after other.payee first.payee (payees_of payees) less rising.0)
        (All-head HasPortion other others each) (sym (same other.payee)))
    on Equal is later =
        let one : first.payee ≡ other.payee = (bytes_eq-Decides first.payee other.payee).0 (sym (is_eq-slice_cmp first.payee other.payee) ∙ ap is_eq is) in
        let portions : first.portions ≡ other.portions =
        sym (first_has first payees rising.0) ∙ same first.payee ∙ ap (λ p. portions_in p (other ∷ others)) one ∙ first_has other others rises.0 in
        let rest = later (λ payee. later_same first other payees others payee one rising.0 rises.0 (same payee)) in
        let here : first ≡ other = λ i. record { payee = one i; portions = portions i } in
        λ i. here i ∷ rest i
