-- The first items of a list in an order, and one item more.
use Rattle.std.proofs.Common.{◌≡◌, ◌∙◌, ◌+◌, ◌-◌, ◌<◌, ◌≤◌, ◌∷◌, [], ℕ, zero, suc, Bool, true, false, List, ap, arith, cond, get_or, length, refl, sym, take}
use Rattle.std.specs.Cmp.{IsStrictWeakOrder}
use Rattle.std.specs.List.{insert}
use Rattle.std.specs.List.Sorted.{IsPartitionPoint, IsPartitionedBy, IsPermutation, IsSorted}
use Rattle.std.specs.Ordering.{is_lt}
use Rattle.std.specs.declared.cmp.Ordering.{Ordering}
use Rattle.std.proofs.lemmas.Bool.{false≢true}
use Rattle.std.proofs.lemmas.List.{get_or-take, length-take, take-take, take_at}
use Rattle.std.proofs.lemmas.List.Edits.{insert_end}
use Rattle.std.proofs.lemmas.List.Sorted.{IsPermutation-cons, IsPermutation-middle, IsPermutation-refl, IsPermutation-trans, sorted_far}
use Rattle.usage_totals.specs.Greatest.{AreFirst}

-- a list in order, by its first item and the rest
module _ {X : Type 0} (cmp : X → X → Ordering) (x : X) (xs : List X) where
  sorted_cons : ((d : X) → 0 < length xs → is_lt (cmp (get_or xs 0 d) x) ≡ false) → IsSorted cmp xs → IsSorted cmp (x ∷ xs)
  sorted_cons head rest zero d low below = head d (omega (arith, below))
  sorted_cons head rest (suc k) d low below =
      let next : suc k + 1 ≡ suc (k + 1) = omega arith in
      ap (λ n. is_lt (cmp (get_or (x ∷ xs) n d) (get_or xs k d))) next ∙ rest k d (omega arith) (omega (arith, below))

  sorted_head : IsSorted cmp (x ∷ xs) → (d : X) → 0 < length xs → is_lt (cmp (get_or xs 0 d) x) ≡ false
  sorted_head order d some = order 0 d (omega arith) (omega (arith, some))

  sorted_tail : IsSorted cmp (x ∷ xs) → IsSorted cmp xs
  sorted_tail order k d low below =
      let here : suc k ≡ k + 1 = omega arith in
      let next : suc (k + 1) ≡ k + 1 + 1 = omega arith in
      (λ i. is_lt (cmp (get_or (x ∷ xs) (next i) d) (get_or (x ∷ xs) (here i) d))) ∙ order (k + 1) d (omega arith) (omega (arith, below))

module _ {X : Type 0} (cmp : X → X → Ordering) (ranks : IsStrictWeakOrder (λ (x y : X). is_lt (cmp x y))) (item : X) where
  abbrev pub goes_before : X → Bool
  goes_before x = is_lt (cmp x item)

  -- the item in a list in order, behind those that come before it
  abbrev placed : List X → List X
  placed [] = item ∷ []
  placed (x ∷ xs) = cond (goes_before x) (x ∷ placed xs) (item ∷ x ∷ xs)

  placed_same : (xs : List X) → IsPermutation (item ∷ xs) (placed xs)
  placed_same [] = IsPermutation-refl (item ∷ [])
  placed_same (x ∷ xs) = by (goes_before x) (placed_same xs)
    where
      by : (b : Bool) → IsPermutation (item ∷ xs) (placed xs) → IsPermutation (item ∷ x ∷ xs) (cond b (x ∷ placed xs) (item ∷ x ∷ xs))
      by true rest = IsPermutation-trans (item ∷ x ∷ xs) (x ∷ item ∷ xs) (x ∷ placed xs) (IsPermutation-middle (item ∷ []) x xs) (IsPermutation-cons x (item ∷ xs) (placed xs) rest)
      by false rest = IsPermutation-refl (item ∷ x ∷ xs)

  placed_sorted : (xs : List X) → IsSorted cmp xs → IsSorted cmp (placed xs)
  placed_sorted [] order = λ k d low below. absurd (omega (arith, below))
  placed_sorted (x ∷ xs) order = by (goes_before x) refl (placed_sorted xs (sorted_tail cmp x xs order))
    where
      head : goes_before x ≡ true → (ys : List X) → IsSorted cmp (x ∷ ys) → (d : X) → 0 < length (placed ys) → is_lt (cmp (get_or (placed ys) 0 d) x) ≡ false
      head told [] up d some = ranks.one_way x item told
      head told (y ∷ ys) up d some = first (goes_before y)
        where
          first : (b : Bool) → is_lt (cmp (get_or (cond b (y ∷ placed ys) (item ∷ y ∷ ys)) 0 d) x) ≡ false
          first true = sorted_head cmp x (y ∷ ys) up d (omega arith)
          first false = ranks.one_way x item told

      by : (b : Bool) → goes_before x ≡ b → IsSorted cmp (placed xs) → IsSorted cmp (cond b (x ∷ placed xs) (item ∷ x ∷ xs))
      by true told rest = sorted_cons cmp x (placed xs) (head told xs order) rest
      by false told rest = sorted_cons cmp item (x ∷ xs) (λ d some. told) order

  -- the first of the list with the item are those of the first and the item
  placed_first : (most : ℕ) (xs : List X) → take most (placed (take most xs)) ≡ take most (placed xs)
  placed_first zero xs = refl
  placed_first (suc most) [] = refl
  placed_first (suc most) (x ∷ xs) = by (goes_before x) (placed_first most xs)
    where
      behind : (n : ℕ) → take n (x ∷ take n xs) ≡ take n (x ∷ xs)
      behind zero = refl
      behind (suc n) = ap {B = List X} (λ ys. x ∷ ys) (take-take n (suc n) xs (omega arith))

      by : (b : Bool) → take most (placed (take most xs)) ≡ take most (placed xs)
          → take (suc most) (cond b (x ∷ placed (take most xs)) (item ∷ x ∷ take most xs)) ≡ take (suc most) (cond b (x ∷ placed xs) (item ∷ x ∷ xs))
      by true rest = ap {B = List X} (λ ys. x ∷ ys) rest
      by false rest = ap {B = List X} (λ ys. item ∷ ys) (behind most)

  -- its place, as a search finds it
  placed_at : (xs : List X) (place : ℕ) → place ≤ length xs → IsPartitionPoint (λ x. goes_before x ≡ true) (λ x. goes_before x ≡ false) xs place → insert xs place item ≡ placed xs
  placed_at [] zero within point = refl
  placed_at [] (suc place) within point = absurd (omega (arith, within))
  placed_at (x ∷ xs) zero within point = ap (λ (b : Bool). cond b (x ∷ placed xs) (item ∷ x ∷ xs)) (sym (point.1 0 x (omega arith) (omega arith)))
  placed_at (x ∷ xs) (suc place) within point =
      ap {B = List X} (λ ys. x ∷ ys) (placed_at xs place (omega (arith, within)) (λ k d low below. point.0 (suc k) d (omega arith) (omega (arith, below)), λ k d low below. point.1 (suc k) d (omega (arith, low)) (omega (arith, below))))
      ∙ ap (λ (b : Bool). cond b (x ∷ placed xs) (item ∷ x ∷ xs)) (sym (point.0 0 x (omega arith) (omega arith)))

  -- where it is among the first, the last of them falls off
  put_first : (xs : List X) (place rest : ℕ) → place ≤ length xs → place ≤ rest → insert (take rest xs) place item ≡ take (suc rest) (insert xs place item)
  put_first xs zero rest within among = refl
  put_first [] (suc place) rest within among = absurd (omega (arith, within))
  put_first (x ∷ xs) (suc place) zero within among = absurd (omega (arith, among))
  put_first (x ∷ xs) (suc place) (suc rest) within among = ap {B = List X} (λ ys. x ∷ ys) (put_first xs place rest (omega (arith, within)) (omega (arith, among)))

  module _ (most place : ℕ) (all shown : List X) (first : AreFirst cmp most all shown) where
    few : length shown ≤ most
    few = omega (arith, ap (λ (l : List X). length l) first.first, length-take most first.sorted)

    -- what comes before the item comes first
    first_parted : IsPartitionedBy goes_before shown
    first_parted i j d le below before =
        let whole : length shown ≤ length first.sorted = omega (arith, ap (λ (l : List X). length l) first.first, length-take most first.sorted) in
        let at : (k : ℕ) → k < length shown → get_or shown k d ≡ get_or first.sorted k d = λ k within. ap (λ (l : List X). get_or l k d) first.first ∙ get_or-take most first.sorted k d (omega (arith, few)) in
        let apart : is_lt (cmp (get_or shown j d) (get_or shown i d)) ≡ false =
        (λ n. is_lt (cmp (at j below n) (at i (omega arith) n))) ∙ sorted_far (λ (x y : X). is_lt (cmp x y)) ranks first.sorted first.order i j d le (omega (arith, whole)) in
        by (goes_before (get_or shown i d)) refl apart
      where
        by : (b : Bool) → goes_before (get_or shown i d) ≡ b → is_lt (cmp (get_or shown j d) (get_or shown i d)) ≡ false → goes_before (get_or shown i d) ≡ true
        by true told apart = told
        by false told apart = absurd (false≢true (sym (ranks.chain (get_or shown j d) (get_or shown i d) item apart told) ∙ before))

    -- The place is where a search of these parts them.
    module _ (looked : List X) (same : looked ≡ shown) (bound : place ≤ length looked)
        (parts : IsPartitionedBy goes_before looked → IsPartitionPoint (λ x. goes_before x ≡ true) (λ x. goes_before x ≡ false) looked place) where
      within : place ≤ length shown
      within = omega (arith, bound, ap (λ (l : List X). length l) same)

      point : IsPartitionPoint (λ x. goes_before x ≡ true) (λ x. goes_before x ≡ false) shown place
      point = rw same at (parts (rw same first_parted))

      with_item : (after : List X) → after ≡ take most (insert shown place item) → AreFirst cmp most (item ∷ all) after
      with_item after is = record {
        sorted = placed first.sorted;
        same = IsPermutation-trans (item ∷ all) (item ∷ first.sorted) (placed first.sorted) (IsPermutation-cons item all first.sorted first.same) (placed_same first.sorted);
        order = placed_sorted first.sorted first.order;
        first =
            is ∙ ap (take most) (placed_at shown place within point)
            ∙ ap (λ (l : List X). take most (placed l)) first.first ∙ placed_first most first.sorted;
      }

      -- the item is among the first, where its place is, and the last may fall off
      pub first_with : place < most → (cut after : List X) → cut ≡ take (most - 1) shown → after ≡ insert cut place item → AreFirst cmp most (item ∷ all) after
      first_with among cut after shorter is =
          let one_less : suc (most - 1) ≡ most = omega arith in
          with_item after
          (is ∙ ap (λ (l : List X). insert l place item) shorter ∙ put_first shown place (most - 1) within (omega arith) ∙ ap (λ n. take n (insert shown place item)) one_less)

      -- or it is not
      pub first_without : most ≤ place → AreFirst cmp most (item ∷ all) shown
      first_without beyond =
          let full : length shown ≡ most = omega (arith, few, within) in
          let end : place ≡ length shown = omega (arith, few, within) in
          with_item shown
          (sym (take_at shown (item ∷ []) most full) ∙ ap (take most) (sym (insert_end shown item)) ∙ ap (λ n. take most (insert shown n item)) (sym end))

-- no items
pub first_of_none : {X : Type 0} (cmp : X → X → Ordering) (most : ℕ) → AreFirst cmp most [] []
first_of_none cmp most = record { sorted = []; same = IsPermutation-refl []; order = λ k d low below. absurd (omega (arith, below)); first = none most }
  where
    none : {X : Type 0} (n : ℕ) → [] ≡ take {A = X} n []
    none zero = refl
    none (suc n) = refl
