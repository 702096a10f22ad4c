-- Sums over the first so many numbers.
use Rattle.std.proofs.Common.{arith, ◌≡◌, ◌∙◌, ◌<◌, ◌≤◌, ◌+◌, ◌*◌, ◌∷◌, [], ℕ, zero, suc, cond, List, ap, sym, refl, ⊎_elim}
use Rattle.std.specs.Prelude.{◌==◌}
use Rattle.std.proofs.Math.Nat.{add-mul, one-mul, zero-mul}
use Rattle.std.proofs.lemmas.Bool.{cases_lt}
use Rattle.std.proofs.lemmas.Bool.Decides.{eqb_tells}
use Rattle.block_draw.specs.Drawn.{sum_below, times_drawn}
use Rattle.block_draw.proofs.Counts.{sum_none, sum_same}

pub sum-add : (n : ℕ) (f g : ℕ → ℕ) → sum_below n (λ k. f k + g k) ≡ sum_below n f + sum_below n g
sum-add zero f g = refl
sum-add (suc n) f g = let rest = sum-add n f g in omega (arith, rest)

pub sum-times : (n : ℕ) (f : ℕ → ℕ) (m : ℕ) → sum_below n (λ k. f k * m) ≡ sum_below n f * m
sum-times zero f m = sym (zero-mul m)
sum-times (suc n) f m = ap (λ x. x + f n * m) (sum-times n f m) ∙ sym (add-mul (sum_below n f) (f n) m)

-- the order of two sums does not matter
pub sum-swap : (n m : ℕ) (f : ℕ → ℕ → ℕ) → sum_below n (λ i. sum_below m (λ j. f i j)) ≡ sum_below m (λ j. sum_below n (λ i. f i j))
sum-swap zero m f = sym (sum_none m (λ j. 0) (λ k below. refl))
sum-swap (suc n) m f = let rest = sum-swap n m f in let both = sum-add m (λ j. sum_below n (λ i. f i j)) (λ j. f n j) in omega (arith, rest, both)

-- a sum in which one number alone counts
none_here : (n b : ℕ) (t : ℕ → ℕ) → n ≤ b → sum_below n (λ k. cond (k == b) 1 0 * t k) ≡ 0
none_here n b t past =
    sum_none n (λ k. cond (k == b) 1 0 * t k)
    (λ k below. ⊎_elim (λ e. absurd (omega (arith, e.1, below, past))) (λ e. ap (λ c. cond c 1 0 * t k) e.0 ∙ zero-mul (t k)) (eqb_tells k b))

pub one_here : (n b : ℕ) (t : ℕ → ℕ) → b < n → sum_below n (λ k. cond (k == b) 1 0 * t k) ≡ t b
one_here zero b t below = absurd (omega (arith, below))
one_here (suc n) b t below =
    ⊎_elim
    (λ e. let before = none_here n b t (omega (arith, e.1)) in let here = ap (λ c. cond c 1 0 * t n) e.0 ∙ one-mul (t n) ∙ ap t e.1 in omega (arith, before, here))
    (λ e. let before = one_here n b t (omega (arith, e.1, below)) in let here = ap (λ c. cond c 1 0 * t n) e.0 ∙ zero-mul (t n) in omega (arith, before, here))
    (eqb_tells n b)

sum-one : (n b : ℕ) (t : ℕ → ℕ) → ((k : ℕ) → n ≤ k → t k ≡ 0) → sum_below n (λ k. cond (k == b) 1 0 * t k) ≡ t b
sum-one n b t past = ⊎_elim (λ (h : b < n). one_here n b t h) (λ (h : n ≤ b). none_here n b t h ∙ sym (past b h)) (cases_lt b n)

-- numbers weighed one by one, and by how often each stands there
abbrev pub weigh : (ℕ → ℕ) → List ℕ → ℕ
weigh t [] = 0
weigh t (b ∷ bs) = t b + weigh t bs

pub weighed : (n : ℕ) (t : ℕ → ℕ) (bs : List ℕ) → ((k : ℕ) → n ≤ k → t k ≡ 0) → weigh t bs ≡ sum_below n (λ k. times_drawn k bs * t k)
weighed n t [] past = sym (sum_none n (λ k. 0 * t k) (λ k below. zero-mul (t k)))
weighed n t (b ∷ bs) past =
    let parts = sum_same n (λ k. (cond (k == b) 1 0 + times_drawn k bs) * t k) (λ k. cond (k == b) 1 0 * t k + times_drawn k bs * t k) (λ k below. add-mul (cond (k == b) 1 0) (times_drawn k bs) (t k)) in
    let both = sum-add n (λ k. cond (k == b) 1 0 * t k) (λ k. times_drawn k bs * t k) in
    let first = sum-one n b t past in
    let rest = weighed n t bs past in
    omega (arith, parts, both, first, rest)
