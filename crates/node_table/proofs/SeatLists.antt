-- Seats in order of number: one more of them.
use Rattle.std.proofs.Common.{◌≡◌, ◌<◌, ◌+◌, ◌++◌, ◌∷◌, [], ℕ, HoldsAt, List, below_more, length, get_or, subst, sym}
use Rattle.std.proofs.lemmas.List.{get_or_append_left, get_or_push}

pub seats_more : {S : Type 0} (P : ℕ → S → Type 0) (number : ℕ) (seats seats' : List S) (s : S) → seats' ≡ seats ++ s ∷ [] → length seats ≡ number → ((k : ℕ) → k < number → HoldsAt (P k) seats k) → P number s
    → (k : ℕ) → k < number + 1 → HoldsAt (P k) seats' k
seats_more P number seats seats' s e count was last k below d =
    subst (λ l. P k (get_or l k d)) (sym e)
    (below_more (λ i. P i (get_or (seats ++ s ∷ []) i d)) number
    (λ i low. subst (P i) (sym (get_or_append_left seats (s ∷ []) d i (subst (λ n. i < n) (sym count) low))) (was i low d))
    (subst (P number) (sym (get_or_push seats s d number count)) last) k below)
