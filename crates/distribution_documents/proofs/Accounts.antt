-- The accounts of payees, and their postings.
use Rattle.std.proofs.Common.{◌≡◌, ◌∙◌, ◌+◌, ◌-◌, ◌<◌, ◌≤◌, ◌++◌, ◌∷◌, [], ℕ, ℤ, All, Bool, true, false, List}
use Rattle.std.proofs.Common.{ap, append-nil, arith, cond, drop, filter, get_or, length, map, subst, sym, take}
use Rattle.std.specs.List.{enumerate_from}
use Rattle.std.proofs.lemmas.List.{length-drop, length-map}
use Rattle.std.proofs.lemmas.List.Elements.{All-head, All-tail, filter-append}
use Rattle.std.proofs.lemmas.List.FromFn.{length-enumerate_from}
use Rattle.line_split.proofs.Enumerated.{enumerated_from_more}
use Rattle.line_split.specs.UsageLine.{UsageLine}
use Rattle.payee_book.specs.Run.{IsBookOf, portion_for, statement_of}
use Rattle.line_split.specs.Signs.{is_not_zero}

-- the numbers of the elements of a list
abbrev pub numbers : {X : Type 0} → (from : ℕ) → List X → List ℕ
numbers from xs = map (λ e. e.0) (enumerate_from from xs)

module _ {X : Type 0} (p : ℕ → Bool) where
  -- of numbers below a bound there are no more than that
  pub few_below : (most from : ℕ) (xs : List X) → All (λ n. n < most) (filter p (numbers from xs)) → length (filter p (numbers from xs)) ≤ most - from
  few_below most from [] below = omega arith
  few_below most from (x ∷ xs) below = by (p from) (few_below most (from + 1) xs) below
    where
      by : (b : Bool) → (All (λ n. n < most) (filter p (numbers (from + 1) xs)) → length (filter p (numbers (from + 1) xs)) ≤ most - (from + 1))
          → All (λ n. n < most) (cond b (from ∷ filter p (numbers (from + 1) xs)) (filter p (numbers (from + 1) xs)))
          → length (cond b (from ∷ filter p (numbers (from + 1) xs)) (filter p (numbers (from + 1) xs))) ≤ most - from
      by true later all =
          let first : from < most = all 0 0 (omega arith) in
          let few = later (All-tail (λ n. n < most) from (filter p (numbers (from + 1) xs)) all) in
          omega (arith, first, few)
      by false later all = omega (arith, later all)

  -- one number more
  module _ (xs : List X) (n : ℕ) (d : X) (one : 0 < n) (below : n < length xs) where
    numbers_more : numbers 1 (take (n + 1 - 1) (drop 1 xs)) ≡ numbers 1 (take (n - 1) (drop 1 xs)) ++ n ∷ []
    numbers_more =
        let up : n - 1 + 1 ≡ n + 1 - 1 = omega (arith, one) in
        let here : 1 + (n - 1) ≡ n = omega (arith, one) in
        let within : n - 1 < length (drop 1 xs) = omega (arith, one, below, length-drop 1 xs) in
        ap (λ (m : ℕ). numbers 1 (take m (drop 1 xs))) (sym up)
        ∙ (enumerated_from_more (λ (e : ℕ × X). e.0) 1 (drop 1 xs) (n - 1) d within
        ∙ ap (λ (m : ℕ). numbers 1 (take (n - 1) (drop 1 xs)) ++ m ∷ []) here)

    pub with_number : p n ≡ true → filter p (numbers 1 (take (n + 1 - 1) (drop 1 xs))) ≡ filter p (numbers 1 (take (n - 1) (drop 1 xs))) ++ n ∷ []
    with_number passes =
        ap (filter p) numbers_more
        ∙ (filter-append p (numbers 1 (take (n - 1) (drop 1 xs))) (n ∷ [])
        ∙ (λ i. filter p (numbers 1 (take (n - 1) (drop 1 xs))) ++ cond (passes i) (n ∷ []) []))

    pub without_number : p n ≡ false → filter p (numbers 1 (take (n + 1 - 1) (drop 1 xs))) ≡ filter p (numbers 1 (take (n - 1) (drop 1 xs)))
    without_number fails =
        ap (filter p) numbers_more
        ∙ (filter-append p (numbers 1 (take (n - 1) (drop 1 xs))) (n ∷ [])
        ∙ ((λ i. filter p (numbers 1 (take (n - 1) (drop 1 xs))) ++ cond (fails i) (n ∷ []) [])
        ∙ append-nil (filter p (numbers 1 (take (n - 1) (drop 1 xs))))))

-- a filter keeps no more
pub length-filter_few : {X : Type 0} (p : X → Bool) (xs : List X) → length (filter p xs) ≤ length xs
length-filter_few p [] = omega arith
length-filter_few p (x ∷ xs) = by (p x) (length-filter_few p xs)
  where
    by : (b : Bool) → length (filter p xs) ≤ length xs → length (cond b (x ∷ filter p xs) (filter p xs)) ≤ length (x ∷ xs)
    by true rest = omega (arith, rest)
    by false rest = omega (arith, rest)

-- an account has no more postings than there are lines
pub few_postings : (division : UsageLine → List (ℕ × ℤ)) (usage : List UsageLine) (accounts : ℕ) (book : List (List (ℕ × ℤ))) → IsBookOf division usage accounts book
    → (account : ℕ) → account < length book → length (get_or book account []) ≤ length usage
few_postings division usage accounts book is account below =
    let stated : get_or book account [] ≡ statement_of division usage account = is.each account (omega (arith, below, is.whole)) in
    let given : ℕ × UsageLine → ℕ × ℤ = λ e. (e.0, portion_for account (division e.1)) in
    let listed : List (ℕ × ℤ) = map given (enumerate_from 0 usage) in
    let few : length (statement_of division usage account) ≤ length usage =
    omega (
      arith,
      length-filter_few (λ (posting : ℕ × ℤ). is_not_zero posting.1) listed,
      length-map (enumerate_from 0 usage) given,
      length-enumerate_from 0 usage,
    ) in
    omega (arith, ap length stated, few)
