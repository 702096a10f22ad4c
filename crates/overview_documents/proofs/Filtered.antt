-- What some of a list come to, item by item.
use Rattle.std.proofs.Common.{◌≡◌, ◌∙◌, ◌+◌, ◌+ℤ◌, ◌<◌, ◌++◌, ◌∷◌, [], ℕ, ℤ, Bool, true, false, List, ap, append-nil, arith, cond, filter, get_or, length, length-append, map, sum_by, sym, take}
use Rattle.std.proofs.lemmas.List.{map_more}
use Rattle.std.proofs.lemmas.List.Elements.{filter-append, filter_more}
use Rattle.std.proofs.lemmas.List.Sums.{sum_by_push}
use Rattle.line_split.proofs.IntSums.{int_sum_by_push}
use Rattle.line_split.specs.Signs.{int_sum_by}

-- one item more
module _ {X : Type 0} (kept next : List X) (x : X) (is : next ≡ kept ++ x ∷ []) where
  pub count_more : (n : ℕ) → n ≡ length kept → n + 1 ≡ length next
  count_more n so_far = omega (arith, so_far, ap length is, length-append kept (x ∷ []))

  pub sum_more : (f : X → ℕ) (n : ℕ) → n ≡ sum_by f kept → n + f x ≡ sum_by f next
  sum_more f n so_far = ap (λ (m : ℕ). m + f x) so_far ∙ (sym (sum_by_push f kept x) ∙ ap (sum_by f) (sym is))

  pub int_sum_more : (f : X → ℤ) (n : ℤ) → n ≡ int_sum_by f kept → n +ℤ f x ≡ int_sum_by f next
  int_sum_more f n so_far = ap (λ (m : ℤ). m +ℤ f x) so_far ∙ (sym (int_sum_by_push f kept x) ∙ ap (int_sum_by f) (sym is))

-- of those that pass a test
module _ {X : Type 0} (p : X → Bool) (xs : List X) (place : ℕ) (x : X) (below : place < length xs) (here : get_or xs place x ≡ x) where
  pub filter_with : p x ≡ true → filter p (take (place + 1) xs) ≡ filter p (take place xs) ++ x ∷ []
  filter_with passes =
      filter_more p xs place x below
      ∙ ((λ i. filter p (take place xs) ++ cond (p (here i)) (here i ∷ []) []) ∙ (λ i. filter p (take place xs) ++ cond (passes i) (x ∷ []) []))

  pub filter_without : p x ≡ false → filter p (take (place + 1) xs) ≡ filter p (take place xs)
  filter_without fails =
      filter_more p xs place x below
      ∙ ((λ i. filter p (take place xs) ++ cond (p (here i)) (here i ∷ []) [])
      ∙ ((λ i. filter p (take place xs) ++ cond (fails i) (x ∷ []) []) ∙ append-nil (filter p (take place xs))))

-- of what items show
module _ {X Y : Type 0} (f : X → Y) (p : Y → Bool) (xs : List X) (place : ℕ) (d : X) (below : place < length xs) where
  pub shown_with : p (f (get_or xs place d)) ≡ true → filter p (map f (take (place + 1) xs)) ≡ filter p (map f (take place xs)) ++ f (get_or xs place d) ∷ []
  shown_with passes =
      ap (filter p) (map_more f xs place d below)
      ∙ (filter-append p (map f (take place xs)) (f (get_or xs place d) ∷ [])
      ∙ (λ i. filter p (map f (take place xs)) ++ cond (passes i) (f (get_or xs place d) ∷ []) []))

  pub shown_without : p (f (get_or xs place d)) ≡ false → filter p (map f (take (place + 1) xs)) ≡ filter p (map f (take place xs))
  shown_without fails =
      ap (filter p) (map_more f xs place d below)
      ∙ (filter-append p (map f (take place xs)) (f (get_or xs place d) ∷ [])
      ∙ ((λ i. filter p (map f (take place xs)) ++ cond (fails i) (f (get_or xs place d) ∷ []) []) ∙ append-nil (filter p (map f (take place xs)))))
