-- Groups of payees.
use Rattle.std.proofs.Common.{◌≡◌, ◌∙◌, ◌+ℤ◌, ◌∷◌, [], ℤ, Bool, true, false, List, ap, arith, cond, filter, int_lt, not, pos, refl}
use Rattle.std.specs.Bool.{beq}
use Rattle.std.proofs.lemmas.Int.{ints}
use Rattle.line_split.proofs.IntSums.{int_sum_by-cons}
use Rattle.line_split.specs.Signs.{int_sum_by}
use Rattle.overview_documents.specs.Payees.{PayeeLine}

abbrev pub is_of : (is_owed : Bool) → PayeeLine → Bool
is_of is_owed payee = beq (int_lt payee.total (pos 0)) is_owed

-- those who owe, or those who do not
abbrev pub those_of : (is_owed : Bool) → List PayeeLine → List PayeeLine
those_of is_owed payees = filter (is_of is_owed) payees

-- a payee owes, or does not
pub either : (payee : PayeeLine) → is_of true payee ≡ not (is_of false payee)
either payee = by (int_lt payee.total (pos 0))
  where
    by : (is_negative : Bool) → beq is_negative true ≡ not (beq is_negative false)
    by true = refl
    by false = refl

module _ {X : Type 0} (p q : X → Bool) (other : (x : X) → q x ≡ not (p x)) (f : X → ℤ) where
  -- what passes one test or its opposite comes to all
  pub int_sum_by-filter_both : (xs : List X) → int_sum_by f (filter p xs) +ℤ int_sum_by f (filter q xs) ≡ int_sum_by f xs
  int_sum_by-filter_both [] = refl
  int_sum_by-filter_both (x ∷ xs) =
      ap (λ (b : Bool). int_sum_by f (filter p (x ∷ xs)) +ℤ int_sum_by f (cond b (x ∷ filter q xs) (filter q xs))) (other x)
      ∙ by (p x) (int_sum_by-filter_both xs)
    where
      by : (b : Bool) → int_sum_by f (filter p xs) +ℤ int_sum_by f (filter q xs) ≡ int_sum_by f xs
          → int_sum_by f (cond b (x ∷ filter p xs) (filter p xs)) +ℤ int_sum_by f (cond (not b) (x ∷ filter q xs) (filter q xs)) ≡ int_sum_by f (x ∷ xs)
      by true rest = omega (arith, ints, rest, int_sum_by-cons f x (filter p xs), int_sum_by-cons f x xs)
      by false rest = omega (arith, ints, rest, int_sum_by-cons f x (filter q xs), int_sum_by-cons f x xs)
