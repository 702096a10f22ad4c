-- Sums of signed numbers.
use Rattle.std.proofs.Common.{◌≡◌, ◌∙◌, ◌+◌, ◌*◌, ◌^◌, ◌<◌, ◌≤◌, ◌++◌, ◌∷◌, [], ℕ, ℤ, pos, ◌+ℤ◌, zero, suc, unsigned_abs, List, All, fold, length, get_or, take, ap, sym, refl, w64, to_z, of_z, arith}
use Rattle.std.proofs.lemmas.Int.{fits_signed_from_abs, ints, to_z-of_z}
use Rattle.std.proofs.lemmas.List.Sums.{fold-append, fold_more}
use Rattle.line_split.specs.Signs.{int_sum_by}

plus_assoc : (a b c : ℤ) → a +ℤ b +ℤ c ≡ a +ℤ (b +ℤ c)
plus_assoc a b c = omega (arith, ints)

pub plus_none : (a : ℤ) → a +ℤ pos 0 ≡ a
plus_none a = omega (arith, ints)

pub none_plus : (a : ℤ) → pos 0 +ℤ a ≡ a
none_plus a = omega (arith, ints)

-- the size of a sum is at most the sum of the sizes
pub size_plus : (a b : ℤ) (m n : ℕ) → unsigned_abs a ≤ m → unsigned_abs b ≤ n → unsigned_abs (a +ℤ b) ≤ m + n
size_plus a b m n left right = omega (arith, ints)

-- a sum that is not too large is what the code's sum gives
pub sum_handed_on : (total amount : ℤ) (m n : ℕ) → unsigned_abs total ≤ m → unsigned_abs amount ≤ n → m + n < 2 ^ 63
    → to_z w64 (of_z w64 (total +ℤ to_z w64 (of_z w64 amount))) ≡ total +ℤ amount
sum_handed_on total amount m n so_far next fits =
    let term : to_z w64 (of_z w64 amount) ≡ amount = to_z-of_z w64 amount (fits_signed_from_abs w64 amount (omega (arith, next, fits))) in
    let whole : unsigned_abs (total +ℤ amount) < 2 ^ 63 = omega (arith, size_plus total amount m n so_far next, fits) in
    ap (λ (z : ℤ). to_z w64 (of_z w64 (total +ℤ z))) term ∙ to_z-of_z w64 (total +ℤ amount) (fits_signed_from_abs w64 (total +ℤ amount) whole)

module _ {X : Type 0} (f : X → ℤ) where
  abbrev added : ℤ → List X → ℤ
  added a xs = fold (λ (sum : ℤ) (x : X). sum +ℤ f x) a xs

  -- a sum that is begun at a number and another
  from_both : (a b : ℤ) (xs : List X) → added (a +ℤ b) xs ≡ a +ℤ added b xs
  from_both a b [] = refl
  from_both a b (x ∷ xs) = ap (λ (s : ℤ). added s xs) (plus_assoc a b (f x)) ∙ from_both a (b +ℤ f x) xs

  pub int_sum_by_from : (a : ℤ) (xs : List X) → added a xs ≡ a +ℤ int_sum_by f xs
  int_sum_by_from a xs = ap (λ (s : ℤ). added s xs) (sym (plus_none a)) ∙ from_both a (pos 0) xs

  pub int_sum_by-cons : (x : X) (xs : List X) → int_sum_by f (x ∷ xs) ≡ f x +ℤ int_sum_by f xs
  int_sum_by-cons x xs = ap (λ (s : ℤ). added s xs) (none_plus (f x)) ∙ int_sum_by_from (f x) xs

  pub int_sum_by-append : (xs ys : List X) → int_sum_by f (xs ++ ys) ≡ int_sum_by f xs +ℤ int_sum_by f ys
  int_sum_by-append xs ys = fold-append (λ (sum : ℤ) (x : X). sum +ℤ f x) (pos 0) xs ys ∙ int_sum_by_from (int_sum_by f xs) ys

  pub int_sum_by_push : (xs : List X) (y : X) → int_sum_by f (xs ++ y ∷ []) ≡ int_sum_by f xs +ℤ f y
  int_sum_by_push xs y = fold-append (λ (sum : ℤ) (x : X). sum +ℤ f x) (pos 0) xs (y ∷ [])

  pub int_sum_by_more : (xs : List X) (i : ℕ) (d : X) → i < length xs → int_sum_by f (take (i + 1) xs) ≡ int_sum_by f (take i xs) +ℤ f (get_or xs i d)
  int_sum_by_more xs i d below = fold_more (λ (sum : ℤ) (x : X). sum +ℤ f x) (pos 0) xs i d below

  -- a sum of so many numbers of a size at most
  pub int_sum_by_size : (most : ℕ) (xs : List X) → All (λ x. unsigned_abs (f x) ≤ most) xs → unsigned_abs (int_sum_by f xs) ≤ length xs * most
  int_sum_by_size most [] small = omega arith
  int_sum_by_size most (x ∷ xs) small =
      let rest = int_sum_by_size most xs (λ k d below. small (suc k) d (omega (arith, below))) in
      let first : unsigned_abs (f x) ≤ most = small 0 x (omega arith) in
      let both = size_plus (f x) (int_sum_by f xs) most (length xs * most) first rest in
      let is = int_sum_by-cons x xs in
      omega (arith, both, ap unsigned_abs is)

-- ---- sums over the places below a number

abbrev pub int_sum_below : ℕ → (ℕ → ℤ) → ℤ
int_sum_below zero f = pos 0
int_sum_below (suc n) f = f 0 +ℤ int_sum_below n (λ i. f (suc i))

pub int_sum_by-places : {X : Type 0} (f : X → ℤ) (xs : List X) (d : X) → int_sum_by f xs ≡ int_sum_below (length xs) (λ i. f (get_or xs i d))
int_sum_by-places f [] d = refl
int_sum_by-places f (x ∷ xs) d = int_sum_by-cons f x xs ∙ ap (λ (n : ℤ). f x +ℤ n) (int_sum_by-places f xs d)

pub same_int_sums : (n : ℕ) (f g : ℕ → ℤ) → ((i : ℕ) → i < n → f i ≡ g i) → int_sum_below n f ≡ int_sum_below n g
same_int_sums zero f g h = refl
same_int_sums (suc n) f g h =
    let first : f 0 ≡ g 0 = h 0 (omega arith) in
    let rest = same_int_sums n (λ i. f (suc i)) (λ i. g (suc i)) (λ i lt. h (suc i) (omega (arith, lt))) in
    λ i. first i +ℤ rest i

crossed : (a b c d : ℤ) → a +ℤ b +ℤ (c +ℤ d) ≡ a +ℤ c +ℤ (b +ℤ d)
crossed a b c d = omega (arith, ints)

pub int_sum_below-add : (n : ℕ) (f g : ℕ → ℤ) → int_sum_below n (λ i. f i +ℤ g i) ≡ int_sum_below n f +ℤ int_sum_below n g
int_sum_below-add zero f g = refl
int_sum_below-add (suc n) f g =
    ap (λ (s : ℤ). f 0 +ℤ g 0 +ℤ s) (int_sum_below-add n (λ i. f (suc i)) (λ i. g (suc i)))
    ∙ crossed (f 0) (g 0) (int_sum_below n (λ i. f (suc i))) (int_sum_below n (λ i. g (suc i)))

pub int_sum_below-none : (n : ℕ) → int_sum_below n (λ i. pos 0) ≡ pos 0
int_sum_below-none zero = refl
int_sum_below-none (suc n) = ap (λ (s : ℤ). pos 0 +ℤ s) (int_sum_below-none n)

-- sums in either order
pub int_sums_exchanged : {X : Type 0} (n : ℕ) (f : ℕ → X → ℤ) (xs : List X) → int_sum_below n (λ i. int_sum_by (f i) xs) ≡ int_sum_by (λ x. int_sum_below n (λ i. f i x)) xs
int_sums_exchanged n f [] = int_sum_below-none n
int_sums_exchanged n f (x ∷ xs) =
    same_int_sums n (λ i. int_sum_by (f i) (x ∷ xs)) (λ i. f i x +ℤ int_sum_by (f i) xs) (λ i lt. int_sum_by-cons (f i) x xs)
    ∙ (int_sum_below-add n (λ i. f i x) (λ i. int_sum_by (f i) xs)
    ∙ (ap (λ (s : ℤ). int_sum_below n (λ i. f i x) +ℤ s) (int_sums_exchanged n f xs)
    ∙ sym (int_sum_by-cons (λ x. int_sum_below n (λ i. f i x)) x xs)))

-- sums of what is the same of each
pub int_sum_by_same : {X : Type 0} (f g : X → ℤ) → ((x : X) → f x ≡ g x) → (xs : List X) → int_sum_by f xs ≡ int_sum_by g xs
int_sum_by_same f g same [] = refl
int_sum_by_same f g same (x ∷ xs) = int_sum_by-cons f x xs ∙ ((λ i. same x i +ℤ int_sum_by_same f g same xs i) ∙ sym (int_sum_by-cons g x xs))
