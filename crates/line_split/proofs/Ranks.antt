-- A line of places 0 to n - 1, each with its remainder: who stands before whom, and how many do.
use Rattle.std.proofs.Common.{◌≡◌, ◌≢◌, ℕ, zero, suc, ◌+◌, ◌-◌, ◌<◌, ◌≤◌, ◌⊎◌, Bool, true, false, eqb, ltb, refl, sym, ap, ◌∙◌, arith}
use Rattle.std.proofs.lemmas.Bool.Decides.{nat_tests}
use Rattle.line_split.specs.LargestRemainder.{comes_before}
use Rattle.line_split.proofs.SumBelow.{sum_below, bit, same_sums, sum_below-add, sum_below-le, sum_below-lt, sum_below-constant}

-- the place j comes before the place i, where each place has the remainder that r gives it
abbrev pub comes_before_by : (ℕ → ℕ) → ℕ → ℕ → Bool
comes_before_by r j i = comes_before (j, r j) (i, r i)

abbrev pub rank : ℕ → (ℕ → ℕ) → ℕ → ℕ
rank n r i = sum_below n (λ j. bit (comes_before_by r j i))

comes_before_irrefl : (r : ℕ → ℕ) (i : ℕ) → comes_before_by r i i ≡ false
comes_before_irrefl r i = grind (arith, nat_tests)

pub comes_before_total : (r : ℕ → ℕ) (j i : ℕ) → j ≢ i → comes_before_by r j i ≡ false → comes_before_by r i j ≡ true
comes_before_total r j i other h = grind (arith, nat_tests)

comes_before_trans : (r : ℕ → ℕ) (k j i : ℕ) → comes_before_by r k j ≡ true → comes_before_by r j i ≡ true → comes_before_by r k i ≡ true
comes_before_trans r k j i h g = grind (arith, nat_tests)

-- in words: by the greater remainder, and among equal ones by the earlier place
pub comes_before_means : (r : ℕ → ℕ) (j i : ℕ) → comes_before_by r j i ≡ true → (r i < r j) ⊎ ((r j ≡ r i) × (j < i))
comes_before_means r j i h = grind (arith, nat_tests)

pub comes_before_from : (r : ℕ → ℕ) (j i : ℕ) → (r i < r j) ⊎ ((r j ≡ r i) × (j < i)) → comes_before_by r j i ≡ true
comes_before_from r j i h = grind (arith, nat_tests)

bit_le : (p q : Bool) → (p ≡ true → q ≡ true) → bit p ≤ bit q
bit_le true q h = rw (h refl) (omega arith)
bit_le false q h = omega arith

bit_lt : (p q : Bool) → p ≡ false → q ≡ true → bit p < bit q
bit_lt p q hp hq = rw (hp, hq) (omega arith)

-- who comes before another has the smaller rank
pub rank_rises : (n : ℕ) (r : ℕ → ℕ) (j i : ℕ) → j < n → comes_before_by r j i ≡ true → rank n r j < rank n r i
rank_rises n r j i lt h =
    sum_below-lt n (λ k. bit (comes_before_by r k j)) (λ k. bit (comes_before_by r k i)) j
    (λ k _. bit_le (comes_before_by r k j) (comes_before_by r k i) (λ g. comes_before_trans r k j i g h))
    lt (bit_lt (comes_before_by r j j) (comes_before_by r j i) (comes_before_irrefl r j) h)

-- two places have two ranks
one_each : (n : ℕ) (r : ℕ → ℕ) (j i : ℕ) → j < n → i < n → rank n r j ≡ rank n r i → j ≢ i → ⊥
one_each n r j i jn in_n same other = go (comes_before_by r j i) refl
  where
    go : (b : Bool) → comes_before_by r j i ≡ b → ⊥
    go true h = let up = rank_rises n r j i jn h in absurd (omega arith)
    go false h = let up = rank_rises n r i j in_n (comes_before_total r j i other h) in absurd (omega arith)

-- no rank reaches n
pub rank_small : (n : ℕ) (r : ℕ → ℕ) (i : ℕ) → i < n → rank n r i < n
rank_small n r i lt =
    let less = sum_below-lt n (λ k. bit (comes_before_by r k i)) (λ _. 1) i
    (λ k _. bit_le (comes_before_by r k i) true (λ _. refl)) lt (bit_lt (comes_before_by r i i) true (comes_before_irrefl r i) refl) in
    omega (arith, less, sum_below-constant n 1)

-- how many of the places below n pass
abbrev pub count_below : ℕ → (ℕ → Bool) → ℕ
count_below n p = sum_below n (λ i. bit (p i))

none_pass : (n : ℕ) (p : ℕ → Bool) → ((i : ℕ) → i < n → p i ≡ true → ⊥) → count_below n p ≡ 0
none_pass n p h = same_sums n (λ i. bit (p i)) (λ _. 0) (λ i lt. go (p i) (h i lt)) ∙ (sum_below-constant n 0 ∙ omega arith)
  where
    go : (b : Bool) → (b ≡ true → ⊥) → bit b ≡ 0
    go true h = absurd (h refl)
    go false h = refl

-- what no two places pass, at most one does
at_most_one : (n : ℕ) (p : ℕ → Bool) → ((j i : ℕ) → j < i → i < n → p j ≡ true → p i ≡ true → ⊥) → count_below n p ≤ 1
at_most_one zero p h = omega arith
at_most_one (suc n) p h = go (p 0) refl (at_most_one n (λ i. p (suc i)) (λ j i lt lt' g g'. h (suc j) (suc i) (omega arith) (omega arith) g g'))
  where
    go : (b : Bool) → p 0 ≡ b → count_below n (λ i. p (suc i)) ≤ 1 → bit (p 0) + count_below n (λ i. p (suc i)) ≤ 1
    go true e few =
        let none = none_pass n (λ i. p (suc i)) (λ i lt g. h 0 (suc i) (omega arith) (omega arith) e g) in
        rw e (omega (arith, none))
    go false e few = rw e (omega (arith, few))

-- the places with a rank below k
abbrev ranked_below : ℕ → (ℕ → ℕ) → ℕ → ℕ
ranked_below n r k = count_below n (λ i. ltb (rank n r i) k)

one_more : (n : ℕ) (r : ℕ → ℕ) (k : ℕ) → ranked_below n r (suc k) ≤ ranked_below n r k + 1
one_more n r k =
    let one = at_most_one n (λ i. eqb (rank n r i) k)
    (λ j i lt lt' g g'. one_each n r j i (omega arith) lt' (grind (arith, nat_tests)) (λ e. omega arith)) in
    let parts = sum_below-le n (λ i. bit (ltb (rank n r i) (suc k))) (λ i. bit (ltb (rank n r i) k) + bit (eqb (rank n r i) k))
    (λ i _. split (rank n r i)) in
    omega (arith, one, parts, sum_below-add n (λ i. bit (ltb (rank n r i) k)) (λ i. bit (eqb (rank n r i) k)))
  where
    split : (m : ℕ) → bit (ltb m (suc k)) ≤ bit (ltb m k) + bit (eqb m k)
    split m = grind (arith, nat_tests)

upto_k : (n : ℕ) (r : ℕ → ℕ) (k : ℕ) → ranked_below n r k ≤ k
upto_k n r zero =
    let none = none_pass n (λ i. ltb (rank n r i) 0) (λ i _ h. absurd (grind (arith, nat_tests))) in
    omega (arith, none)
upto_k n r (suc k) = omega (arith, one_more n r k, upto_k n r k)

within_d : (n : ℕ) (r : ℕ → ℕ) (k d : ℕ) → ranked_below n r (k + d) ≤ ranked_below n r k + d
within_d n r k zero = let e : k + 0 ≡ k = omega arith in rw e (omega arith)
within_d n r k (suc d) =
    let e : k + suc d ≡ suc (k + d) = omega arith in
    rw e (omega (arith, one_more n r (k + d), within_d n r k d))

-- Of n places, k have a rank below k.
pub ranks_count : (n : ℕ) (r : ℕ → ℕ) (k : ℕ) → k ≤ n → ranked_below n r k ≡ k
ranks_count n r k le =
    let all : ranked_below n r n ≡ n =
    same_sums n (λ i. bit (ltb (rank n r i) n)) (λ _. 1) (λ i lt. at_true (rank_small n r i lt)) ∙ (sum_below-constant n 1 ∙ omega arith) in
    let sum_up : k + (n - k) ≡ n = omega arith in
    let reach = rw sum_up at (within_d n r k (n - k)) in
    omega (arith, upto_k n r k, all, reach)
  where
    at_true : {m : ℕ} → m < n → bit (ltb m n) ≡ 1
    at_true {m} h = grind (arith, nat_tests)

-- What a place has, each place before it has too, and as many places have it as k: then those have it whose rank is below k.
pub first_k : (n : ℕ) (r : ℕ → ℕ) (p : ℕ → Bool) (k : ℕ) → count_below n p ≡ k
    → ((j i : ℕ) → j < n → i < n → comes_before_by r j i ≡ true → p i ≡ true → p j ≡ true)
    → (i : ℕ) → i < n → p i ≡ ltb (rank n r i) k
first_k n r p k count down i lt = go (p i) refl
  where
    -- who has it comes before who has it not
    comes_first : p i ≡ false → (j : ℕ) → j < n → p j ≡ true → comes_before_by r j i ≡ true
    comes_first lacks j jn has = pick (comes_before_by r j i) refl
      where
        pick : (b : Bool) → comes_before_by r j i ≡ b → comes_before_by r j i ≡ true
        pick true e = e
        pick false e =
            let other : j ≢ i = λ same. let bad : false ≡ true = sym lacks ∙ (ap p (sym same) ∙ has) in cc in
            let back = down i j lt jn (comes_before_total r j i other e) has in
            let bad : false ≡ true = sym lacks ∙ back in
            cc

    go : (b : Bool) → p i ≡ b → p i ≡ ltb (rank n r i) k
    go true has =
        let more = sum_below-lt n (λ j. bit (comes_before_by r j i)) (λ j. bit (p j)) i
        (λ j jn. bit_le (comes_before_by r j i) (p j) (λ g. down j i jn lt g has)) lt (bit_lt (comes_before_by r i i) (p i) (comes_before_irrefl r i) has) in
        has ∙ sym (grind (arith, nat_tests, more, count))
    go false lacks =
        let most = sum_below-le n (λ j. bit (p j)) (λ j. bit (comes_before_by r j i))
        (λ j jn. bit_le (p j) (comes_before_by r j i) (comes_first lacks j jn)) in
        lacks ∙ sym (grind (arith, nat_tests, most, count))

-- Where each place before one that passes passes too, a place passes where its number is below the count.
pub front_counts : (n : ℕ) (p : ℕ → Bool) → ((j k : ℕ) → j ≤ k → k < n → p k ≡ true → p j ≡ true)
    → (m : ℕ) → m < n → p m ≡ ltb m (count_below n p)
front_counts zero p down m lt = absurd (omega arith)
front_counts (suc n) p down zero lt = go (p 0) refl
  where
    go : (b : Bool) → p 0 ≡ b → p 0 ≡ ltb 0 (bit (p 0) + count_below n (λ i. p (suc i)))
    go true e = rw e (grind (arith, nat_tests))
    go false e =
        let none = none_pass n (λ i. p (suc i)) (λ i small h. let bad : false ≡ true = sym e ∙ down 0 (suc i) (omega arith) (omega arith) h in cc) in
        rw e (grind (arith, nat_tests, none))
front_counts (suc n) p down (suc m) lt =
    go (p 0) refl (front_counts n (λ i. p (suc i)) (λ j k le small h. down (suc j) (suc k) (omega arith) (omega arith) h) m (omega arith))
  where
    go : (b : Bool) → p 0 ≡ b → p (suc m) ≡ ltb m (count_below n (λ i. p (suc i)))
        → p (suc m) ≡ ltb (suc m) (bit (p 0) + count_below n (λ i. p (suc i)))
    go true e h = h ∙ rw e (grind (arith, nat_tests))
    go false e h =
        let none = none_pass n (λ i. p (suc i)) (λ i small g. let bad : false ≡ true = sym e ∙ down 0 (suc i) (omega arith) (omega arith) g in cc) in
        h ∙ rw e (grind (arith, nat_tests, none))
