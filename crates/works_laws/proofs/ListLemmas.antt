-- Lists in another order, and lists that are filtered twice.
use Rattle.std.proofs.Common.{◌≡◌, ◌∙◌, ◌+◌, ◌<◌, ◌∷◌, [], ℕ, suc, zero, Bool, true, false, cond, List, All, AllPairs, Contains, None, Option, Some, ap, arith, filter, get_or, inl, inr, length, map, nat_eq, not, refl, set, sum_by, sym}
use Rattle.std.specs.Prelude.{◌||◌}
use Rattle.std.specs.Cmp.Lexicographic.{pointwise}
use Rattle.std.specs.List.{cons_option, filter_map, find, list_any, swap}
use Rattle.std.specs.List.Sorted.{IsPermutation}
use Rattle.std.proofs.Math.Bool.{or_assoc}
use Rattle.std.proofs.lemmas.Bool.{cases_Bool, false_from_ne_true, false≢true}
use Rattle.std.proofs.lemmas.List.Elements.{All-contains, All-tail}
use Rattle.std.proofs.lemmas.List.Sorted.{Contains-permutation, IsPermutation-cons, IsPermutation-keeps, IsPermutation-middle, IsPermutation-refl, IsPermutation-sym, IsPermutation-trans}
use Rattle.std.proofs.lemmas.List.Sums.{sum_by-cons}
use Rattle.std.proofs.lemmas.Slice.Eq.{bytes_eq-Decides}
use Rattle.cwr_share.proofs.CompiledLemmas.{AllPairs-head, AllPairs-tail, contains_cases, contains_later}

-- A relation holds along each permutation if it is reflexive and transitive, and goes under a head and over an exchange of two heads.
module _ {X : Type 0} (R : List X → List X → Type 0) (same : (xs : List X) → R xs xs)
    (skip : (x : X) (xs ys : List X) → R xs ys → R (x ∷ xs) (x ∷ ys))
    (turn : (x y : X) (xs : List X) → R (x ∷ y ∷ xs) (y ∷ x ∷ xs))
    (chain : (xs ys zs : List X) → R xs ys → R ys zs → R xs zs) where
  to_head : (l : List X) (j : ℕ) (x d : X) → j < length l → R (x ∷ l) (get_or l j d ∷ set l j x)
  to_head [] j x d h = absurd (omega arith)
  to_head (y ∷ l) zero x d h = turn x y l
  to_head (y ∷ l) (suc j) x d h =
      chain (x ∷ y ∷ l) (y ∷ x ∷ l) (get_or l j d ∷ y ∷ set l j x) (turn x y l)
      (chain (y ∷ x ∷ l) (y ∷ get_or l j d ∷ set l j x) (get_or l j d ∷ y ∷ set l j x) (skip y (x ∷ l) (get_or l j d ∷ set l j x) (to_head l j x d (omega arith))) (turn y (get_or l j d) (set l j x)))

  exchanged : (l : List X) (i j : ℕ) (d : X) → i < length l → j < length l → R l (set (set l i (get_or l j d)) j (get_or l i d))
  exchanged [] i j d p q = absurd (omega arith)
  exchanged (x ∷ l) zero zero d p q = same (x ∷ l)
  exchanged (x ∷ l) zero (suc j) d p q = to_head l j x d (omega arith)
  exchanged (x ∷ l) (suc i) zero d p q = to_head l i x d (omega arith)
  exchanged (x ∷ l) (suc i) (suc j) d p q = skip x _ _ (exchanged l i j d (omega arith) (omega arith))

  swapped : (l : List X) (i j : ℕ) → i < length l → j < length l → R l (swap l i j)
  swapped [] i j p q = same []
  swapped (x ∷ l) i j p q = exchanged (x ∷ l) i j x p q

  along_permutation : (xs ys : List X) → IsPermutation xs ys → R xs ys
  along_permutation xs = IsPermutation-keeps xs (R xs) (same xs) (λ l i j p q h. chain xs l _ h (swapped l i j p q))

-- what is given of the items of a permutation
module _ {X Y : Type 0} (h : X → Option Y) where
  abbrev Given : List X → List X → Type 0
  Given xs ys = IsPermutation (filter_map h xs) (filter_map h ys)

  given_skip : (x : X) (xs ys : List X) → Given xs ys → Given (x ∷ xs) (x ∷ ys)
  given_skip x xs ys rest = by (h x)
    where
      by : (found : Option Y) → IsPermutation (cons_option found (filter_map h xs)) (cons_option found (filter_map h ys))
      by None = rest
      by (Some y) = IsPermutation-cons y (filter_map h xs) (filter_map h ys) rest

  given_turn : (x y : X) (xs : List X) → Given (x ∷ y ∷ xs) (y ∷ x ∷ xs)
  given_turn x y xs = by (h x) (h y)
    where
      by : (one two : Option Y) → IsPermutation (cons_option one (cons_option two (filter_map h xs))) (cons_option two (cons_option one (filter_map h xs)))
      by None two = IsPermutation-refl (cons_option two (filter_map h xs))
      by (Some a) None = IsPermutation-refl (a ∷ filter_map h xs)
      by (Some a) (Some b) = IsPermutation-middle (a ∷ []) b (filter_map h xs)

  pub filter_map-permutation : (xs ys : List X) → IsPermutation xs ys → IsPermutation (filter_map h xs) (filter_map h ys)
  filter_map-permutation =
      along_permutation Given (λ xs. IsPermutation-refl (filter_map h xs)) given_skip given_turn
      (λ xs ys zs. IsPermutation-trans (filter_map h xs) (filter_map h ys) (filter_map h zs))

  -- nothing, where nothing is given
  pub filter_map_none : (xs : List X) → All (λ x. h x ≡ None) xs → filter_map h xs ≡ []
  filter_map_none [] none = refl
  filter_map_none (x ∷ xs) none = rw (none 0 x (omega arith)) (filter_map_none xs (All-tail (λ x. h x ≡ None) x xs none))

-- What a key finds among keys that differ
module _ {X : Type 0} (key : X → List ℕ) (text : List ℕ) where
  abbrev is_its : X → Bool
  is_its x = pointwise nat_eq (key x) text

  abbrev Differ : X → X → Type 0
  Differ x later = ¬ (key x ≡ key later)

  found_there : (xs : List X) (x : X) → find is_its xs ≡ Some x → Contains xs x × (key x ≡ text)
  found_there [] x found = cc
  found_there (y ∷ ys) x found = elim (cases_Bool (is_its y)) [
    | inl its ↦
        let here : Some y ≡ Some x = rw its at found in
        let same : y ≡ x = cc in
        ((0, omega arith, same), ap key (sym same) ∙ (bytes_eq-Decides (key y) text).0 its)
    | inr other ↦
        let (inside, is) = found_there ys x (rw other at found) in
        (contains_later y x ys inside, is)
  ]

  there_found : (xs : List X) (x : X) → AllPairs Differ xs → Contains xs x → key x ≡ text → find is_its xs ≡ Some x
  there_found [] x differ there is = absurd (omega (arith, there.1))
  there_found (y ∷ ys) x differ there is = elim (contains_cases y x ys there) [
    | inl same ↦ rw ((bytes_eq-Decides (key y) text).1 (ap key same ∙ is)) (ap Some same)
    | inr inside ↦
        let other : is_its y ≡ false = false_from_ne_true (is_its y) (λ its. All-contains (Differ y) ys x (AllPairs-head Differ y ys differ) inside ((bytes_eq-Decides (key y) text).0 its ∙ sym is)) in
        rw other (there_found ys x (AllPairs-tail Differ y ys differ) inside is)
  ]

  something_found : (xs : List X) (x : X) → Contains xs x → key x ≡ text → ¬ (find is_its xs ≡ None)
  something_found [] x there is none = absurd (omega (arith, there.1))
  something_found (y ∷ ys) x there is none = elim (cases_Bool (is_its y)) [
    | inl its ↦ let here : Some y ≡ None = rw its at none in cc
    | inr other ↦ elim (contains_cases y x ys there) [
      | inl same ↦ false≢true (sym other ∙ (bytes_eq-Decides (key y) text).1 (ap key same ∙ is))
      | inr inside ↦ something_found ys x inside is (rw other at none)
    ]
  ]

  -- a permutation finds the same
  pub find-permutation : (xs ys : List X) → AllPairs Differ xs → IsPermutation xs ys → find is_its xs ≡ find is_its ys
  find-permutation xs ys differ moved = by (find is_its xs) (find is_its ys) refl refl
    where
      by : (mine theirs : Option X) → find is_its xs ≡ mine → find is_its ys ≡ theirs → mine ≡ theirs
      by None None found too = refl
      by (Some x) None found too =
          let (inside, is) = found_there xs x found in
          absurd (something_found ys x (Contains-permutation xs ys x moved inside) is too)
      by mine (Some y) found too =
          let (inside, is) = found_there ys y too in
          sym found ∙ there_found xs y differ (Contains-permutation ys xs y (IsPermutation-sym xs ys moved) inside) is

-- What two tests keep together
module _ {X : Type 0} (p q : X → Bool) where
  -- the second keeps all that the first one does
  pub filter_within : ((x : X) → p x ≡ true → q x ≡ true) → (xs : List X) → filter p (filter q xs) ≡ filter p xs
  filter_within keeps [] = refl
  filter_within keeps (x ∷ xs) = elim (cases_Bool (q x)) [
    | inl kept ↦ rw kept (ap (λ (rest : List X). cond (p x) (x ∷ rest) rest) (filter_within keeps xs))
    | inr left ↦
        let fails : p x ≡ false = false_from_ne_true (p x) (λ passes. false≢true (sym left ∙ keeps x passes)) in
        rw (left, fails) (filter_within keeps xs)
  ]

  -- or none of it
  pub filter_apart : ((x : X) → p x ≡ true → q x ≡ false) → (xs : List X) → filter p (filter q xs) ≡ []
  filter_apart leaves [] = refl
  filter_apart leaves (x ∷ xs) = elim (cases_Bool (q x)) [
    | inl kept ↦
        let fails : p x ≡ false = false_from_ne_true (p x) (λ passes. false≢true (sym (leaves x passes) ∙ kept)) in
        rw (kept, fails) (filter_apart leaves xs)
    | inr left ↦ rw left (filter_apart leaves xs)
  ]

pub contains_filter : {X : Type 0} (p : X → Bool) (xs : List X) (x : X) → Contains xs x → p x ≡ true → Contains (filter p xs) x
contains_filter p [] x there passes = absurd (omega (arith, there.1))
contains_filter {X} p (y ∷ ys) x there passes = elim (contains_cases y x ys there) [
  | inl same ↦ let first : p y ≡ true = ap p same ∙ passes in rw first (0, omega arith, same)
  | inr inside ↦
      let rest = contains_filter p ys x inside passes in
      elim (cases_Bool (p y)) [ inl kept ↦ rw kept (contains_later y x (filter p ys) rest) | inr left ↦ rw left rest ]
]

-- the order of two parts is free
or_turn : (a b c : Bool) → (a || (b || c)) ≡ (b || (a || c))
or_turn true true c = refl
or_turn true false c = refl
or_turn false true c = refl
or_turn false false c = refl

-- A sum, and whether a test passes, over what a test keeps and what it leaves
module _ {X : Type 0} (q : X → Bool) where
  abbrev pub leaves : X → Bool
  leaves x = not (q x)

  pub sum_of_parts : (f : X → ℕ) (t : X → Bool) (xs : List X) → sum_by f (filter t xs) ≡ sum_by f (filter t (filter q xs)) + sum_by f (filter t (filter leaves xs))
  sum_of_parts f t [] = refl
  sum_of_parts f t (x ∷ xs) =
      let rest = sum_of_parts f t xs in
      elim (cases_Bool (q x)) [
        | inl kept ↦ elim (cases_Bool (t x)) [
          | inl passes ↦ rw (kept, passes) (omega (arith, rest, sum_by-cons f x (filter t xs), sum_by-cons f x (filter t (filter q xs))))
          | inr fails ↦ rw (kept, fails) rest
        ]
        | inr left ↦ elim (cases_Bool (t x)) [
          | inl passes ↦ rw (left, passes) (omega (arith, rest, sum_by-cons f x (filter t xs), sum_by-cons f x (filter t (filter leaves xs))))
          | inr fails ↦ rw (left, fails) rest
        ]
      ]

  pub any_of_parts : (t : X → Bool) (xs : List X) → list_any t xs ≡ (list_any t (filter q xs) || list_any t (filter leaves xs))
  any_of_parts t [] = refl
  any_of_parts t (x ∷ xs) =
      let rest = any_of_parts t xs in
      elim (cases_Bool (q x)) [
        | inl kept ↦ rw kept (ap (λ (b : Bool). t x || b) rest ∙ sym (or_assoc (t x) (list_any t (filter q xs)) (list_any t (filter leaves xs))))
        | inr left ↦ rw left (ap (λ (b : Bool). t x || b) rest ∙ or_turn (t x) (list_any t (filter q xs)) (list_any t (filter leaves xs)))
      ]

-- what a test and a function say of what a list is mapped to
module _ {X Y : Type 0} (g : X → Y) (p : Y → Bool) (q : X → Bool) where
  pub sum_of_mapped : (f : Y → ℕ) (h : X → ℕ) (xs : List X) → All (λ x. (p (g x) ≡ q x) × (f (g x) ≡ h x)) xs → sum_by f (filter p (map g xs)) ≡ sum_by h (filter q xs)
  sum_of_mapped f h [] agree = refl
  sum_of_mapped f h (x ∷ xs) agree =
      let (same, value) = agree 0 x (omega arith) in
      let rest = sum_of_mapped f h xs (All-tail (λ x. (p (g x) ≡ q x) × (f (g x) ≡ h x)) x xs agree) in
      elim (cases_Bool (q x)) [
        | inl passes ↦
            let too = same ∙ passes in
            rw (too, passes) (omega (arith, rest, value, sum_by-cons f (g x) (filter p (map g xs)), sum_by-cons h x (filter q xs)))
        | inr fails ↦ let too = same ∙ fails in rw (too, fails) rest
      ]

  pub any_of_mapped : (xs : List X) → All (λ x. p (g x) ≡ q x) xs → list_any p (map g xs) ≡ list_any q xs
  any_of_mapped [] agree = refl
  any_of_mapped (x ∷ xs) agree = cc (agree 0 x (omega arith), any_of_mapped xs (All-tail (λ x. p (g x) ≡ q x) x xs agree))
