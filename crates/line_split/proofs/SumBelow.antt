-- Sums over the places below a number: how a sum over a list is a sum over its places, and what sums of bits count.
use Rattle.std.proofs.Common.{◌≡◌, ◌≢◌, ℕ, zero, suc, ◌+◌, ◌*◌, ◌<◌, ◌≤◌, Bool, true, false, cond, ltb, List, [], ◌∷◌, length, map, get_or, sum_by, refl, sym, ap, ◌∙◌, arith}
use Rattle.std.specs.Int.{from_bool}
use Rattle.std.proofs.lemmas.Bool.Decides.{nat_tests}
use Rattle.std.proofs.lemmas.List.Sums.{sum_by-cons}

abbrev pub sum_below : ℕ → (ℕ → ℕ) → ℕ
sum_below zero f = 0
sum_below (suc n) f = f 0 + sum_below n (λ i. f (suc i))

-- 1 for true
abbrev pub bit : Bool → ℕ
bit b = cond b 1 0

pub bit-le : (b : Bool) → bit b ≤ 1
bit-le true = omega arith
bit-le false = omega arith

-- what `u64::from` gives of a test
pub from_bool-bit : (b : Bool) → from_bool b ≡ bit b
from_bool-bit true = refl
from_bool-bit false = refl

pub sum_by-places : {X : Type 0} (f : X → ℕ) (xs : List X) (d : X) → sum_by f xs ≡ sum_below (length xs) (λ i. f (get_or xs i d))
sum_by-places f [] d = refl
sum_by-places f (x ∷ xs) d = sum_by-cons f x xs ∙ ap (λ (n : ℕ). f x + n) (sum_by-places f xs d)

-- a sum over what a list is mapped to
pub sum_by-map : {X Y : Type 0} (f : Y → ℕ) (g : X → Y) (xs : List X) → sum_by f (map g xs) ≡ sum_by (λ x. f (g x)) xs
sum_by-map f g [] = refl
sum_by-map f g (x ∷ xs) =
    sum_by-cons f (g x) (map g xs) ∙ (ap (λ (n : ℕ). f (g x) + n) (sum_by-map f g xs) ∙ sym (sum_by-cons (λ y. f (g y)) x xs))

pub same_sums : (n : ℕ) (f g : ℕ → ℕ) → ((i : ℕ) → i < n → f i ≡ g i) → sum_below n f ≡ sum_below n g
same_sums zero f g h = refl
same_sums (suc n) f g h =
    let first : f 0 ≡ g 0 = h 0 (omega arith) in
    let rest = same_sums n (λ i. f (suc i)) (λ i. g (suc i)) (λ i lt. h (suc i) (omega arith)) in
    omega (arith, first, rest)

pub sum_below-add : (n : ℕ) (f g : ℕ → ℕ) → sum_below n (λ i. f i + g i) ≡ sum_below n f + sum_below n g
sum_below-add zero f g = refl
sum_below-add (suc n) f g =
    let rest = sum_below-add n (λ i. f (suc i)) (λ i. g (suc i)) in
    omega (arith, rest)

pub sum_below-scale : (n c : ℕ) (f : ℕ → ℕ) → sum_below n (λ i. c * f i) ≡ c * sum_below n f
sum_below-scale zero c f = omega arith
sum_below-scale (suc n) c f =
    let rest = sum_below-scale n c (λ i. f (suc i)) in
    omega (arith, rest)

pub sum_below-le : (n : ℕ) (f g : ℕ → ℕ) → ((i : ℕ) → i < n → f i ≤ g i) → sum_below n f ≤ sum_below n g
sum_below-le zero f g h = omega arith
sum_below-le (suc n) f g h =
    let first : f 0 ≤ g 0 = h 0 (omega arith) in
    let rest = sum_below-le n (λ i. f (suc i)) (λ i. g (suc i)) (λ i lt. h (suc i) (omega arith)) in
    omega (arith, first, rest)

pub sum_below-lt : (n : ℕ) (f g : ℕ → ℕ) (k : ℕ) → ((i : ℕ) → i < n → f i ≤ g i) → k < n → f k < g k → sum_below n f < sum_below n g
sum_below-lt zero f g k h lt less = absurd (omega arith)
sum_below-lt (suc n) f g zero h lt less =
    let rest = sum_below-le n (λ i. f (suc i)) (λ i. g (suc i)) (λ i lt. h (suc i) (omega arith)) in
    omega (arith, less, rest)
sum_below-lt (suc n) f g (suc k) h lt less =
    let first : f 0 ≤ g 0 = h 0 (omega arith) in
    let rest = sum_below-lt n (λ i. f (suc i)) (λ i. g (suc i)) k (λ i lt. h (suc i) (omega arith)) (omega arith) less in
    omega (arith, first, rest)

pub sum_below-constant : (n c : ℕ) → sum_below n (λ _. c) ≡ n * c
sum_below-constant zero c = omega arith
sum_below-constant (suc n) c =
    let rest = sum_below-constant n c in
    omega (arith, rest)

-- one more place, at the end
pub sum_below-last : (n : ℕ) (f : ℕ → ℕ) → sum_below (n + 1) f ≡ sum_below n f + f n
sum_below-last zero f = omega arith
sum_below-last (suc n) f =
    let rest = sum_below-last n (λ i. f (suc i)) in
    let up : suc n + 1 ≡ suc (n + 1) = omega arith in
    rw up (omega (arith, rest))

-- the places before one, and it, are part of all
pub sum_below-part : (i n : ℕ) (f : ℕ → ℕ) → i < n → sum_below i f + f i ≤ sum_below n f
sum_below-part i zero f lt = absurd (omega arith)
sum_below-part zero (suc n) f lt = omega arith
sum_below-part (suc i) (suc n) f lt =
    let rest = sum_below-part i n (λ j. f (suc j)) (omega arith) in
    omega (arith, rest)

-- a sum of which the terms from a place on are left out
pub sum_below-front : (n m : ℕ) (f : ℕ → ℕ) → m ≤ n → sum_below n (λ k. cond (ltb k m) (f k) 0) ≡ sum_below m f
sum_below-front n zero f le =
    same_sums n (λ k. cond (ltb k 0) (f k) 0) (λ _. 0) (λ k _. grind (arith, nat_tests)) ∙ (sum_below-constant n 0 ∙ omega arith)
sum_below-front zero (suc m) f le = absurd (omega arith)
sum_below-front (suc n) (suc m) f le =
    let first : cond (ltb 0 (suc m)) (f 0) 0 ≡ f 0 = grind (arith, nat_tests) in
    let rest = same_sums n (λ k. cond (ltb (suc k) (suc m)) (f (suc k)) 0) (λ k. cond (ltb k m) (f (suc k)) 0) (λ k _. grind (arith, nat_tests))
    ∙ sum_below-front n m (λ k. f (suc k)) (omega arith) in
    omega (arith, first, rest)

-- a sum of one term, all others being 0
pub sum_below-only : (n i : ℕ) (f : ℕ → ℕ) → i < n → ((k : ℕ) → k < n → k ≢ i → f k ≡ 0) → sum_below n f ≡ f i
sum_below-only zero i f lt none = absurd (omega arith)
sum_below-only (suc n) zero f lt none =
    let rest = same_sums n (λ k. f (suc k)) (λ _. 0) (λ k small. none (suc k) (omega arith) (omega arith)) in
    omega (arith, rest, sum_below-constant n 0)
sum_below-only (suc n) (suc i) f lt none =
    let first : f 0 ≡ 0 = none 0 (omega arith) (omega arith) in
    let rest = sum_below-only n i (λ k. f (suc k)) (omega arith) (λ k small other. none (suc k) (omega arith) (omega arith)) in
    omega (arith, first, rest)
