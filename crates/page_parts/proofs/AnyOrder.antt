-- No order changes what rows come to.
use Rattle.std.proofs.Common.{◌≡◌, ◌≢◌, ◌==◌, ◌⊎◌, ◌∙◌, ◌+ℤ◌, ◌<◌, ◌∷◌, [], ℕ, ℤ, zero, suc, List, IsPermutation, ap, arith, get_or, get_or-set_other, get_or-set_same, inl, inr, length, length-set, refl, set, sym, ⊎_elim}
use Rattle.std.proofs.lemmas.Bool.{cases_Bool, eqb-false, eqb-true}
use Rattle.std.proofs.lemmas.Int.{ints}
use Rattle.std.proofs.lemmas.List.Edits.{swap_is}
use Rattle.std.proofs.lemmas.List.Sorted.{IsPermutation-keeps}
use Rattle.line_split.proofs.IntSums.{int_sum_by-cons}
use Rattle.line_split.specs.Signs.{int_sum_by}

-- one element is put in another's place
int_sum_by-set : {X : Type 0} (f : X → ℤ) (xs : List X) (i : ℕ) (y d : X) → i < length xs → int_sum_by f (set xs i y) +ℤ f (get_or xs i d) ≡ int_sum_by f xs +ℤ f y
int_sum_by-set f [] i y d below = absurd (omega (arith, below))
int_sum_by-set f (x ∷ xs) zero y d below = omega (arith, ints, int_sum_by-cons f x xs, int_sum_by-cons f y xs)
int_sum_by-set f (x ∷ xs) (suc i) y d below =
    omega (arith, ints, int_sum_by-cons f x xs, int_sum_by-cons f x (set xs i y), int_sum_by-set f xs i y d (omega (arith, below)))

exchanged : (a b c p q : ℤ) → b +ℤ p ≡ a +ℤ q → c +ℤ q ≡ b +ℤ p → c ≡ a
exchanged a b c p q one two = omega (arith, ints, one, two)

first_of : {X : Type 0} (xs : List X) → 0 < length xs → X
first_of [] some = absurd (omega (arith, some))
first_of (x ∷ xs) some = x

same_or_not : (i j : ℕ) → (i ≡ j) ⊎ (i ≢ j)
same_or_not i j = elim (cases_Bool (i == j)) [
  | inl is ↦ inl (eqb-true i j is)
  | inr isnt ↦ inr (eqb-false i j isnt)
]

pub int_sum_by-IsPermutation : {X : Type 0} (f : X → ℤ) (xs ys : List X) → IsPermutation xs ys → int_sum_by f ys ≡ int_sum_by f xs
int_sum_by-IsPermutation {X} f xs ys = IsPermutation-keeps xs (λ l. int_sum_by f l ≡ int_sum_by f xs) refl (λ l i j p q h.
    let d : X = first_of l (omega (arith, p)) in
    let w : List X = set l i (get_or l j d) in
    let long = length-set l i (get_or l j d) in
    let there : get_or w j d ≡ get_or l j d =
    ⊎_elim (λ e. ap (λ n. get_or w n d) e ∙ get_or-set_same l i (get_or l j d) d p) (λ n. get_or-set_other l i j (get_or l j d) d n) (same_or_not j i) in
    let first = int_sum_by-set f l i (get_or l j d) d p in
    let second = int_sum_by-set f w j (get_or l i d) d (omega (arith, q, long)) in
    let same : int_sum_by f (set w j (get_or l i d)) ≡ int_sum_by f l =
    exchanged (int_sum_by f l) (int_sum_by f w) (int_sum_by f (set w j (get_or l i d))) (f (get_or l i d)) (f (get_or l j d)) first
    (ap (λ (x : X). int_sum_by f (set w j (get_or l i d)) +ℤ f x) (sym there) ∙ second) in
    ap (int_sum_by f) (sym (swap_is l i j d p q)) ∙ same ∙ h) ys
