-- The order of rows by their amounts.
use Rattle.std.proofs.Common.{◌∙◌, ◌+◌, ◌<◌, ◌∷◌, [], List, arith, length, map}
use Rattle.std.specs.Cmp.{IsTotalOrder, back_total, int_cmp_total, on_total, then_total}
use Rattle.std.specs.List.Sorted.{IsSorted}
use Rattle.std.specs.Ordering.{is_lt}
use Rattle.std.specs.declared.cmp.Ordering.{Ordering}
use Rattle.std.proofs.lemmas.Cmp.{nat_list_cmp_total}
use Rattle.std.proofs.lemmas.List.{get_or-map, length-map}
use Rattle.page_parts.specs.Bars.{Row}
use Rattle.page_parts.specs.Shortened.{by_amount}

pub is_order : IsTotalOrder by_amount
is_order =
    then_total (on_total (λ (row : Row). row.amount) (back_total int_cmp_total))
    (then_total (on_total (λ (row : Row). row.name) nat_list_cmp_total) (on_total (λ (row : Row). row.code) nat_list_cmp_total))

-- a list that is sorted by what its items show is one whose shown items are sorted
pub sorted_shown : {X Y : Type 0} (f : X → Y) (R : Y → Y → Ordering) (xs : List X) → IsSorted (λ x y. R (f x) (f y)) xs → IsSorted R (map f xs)
sorted_shown f R [] up k d low high = absurd (omega (arith, high))
sorted_shown f R (x ∷ xs) up k d low high =
    let within : k + 1 < length (x ∷ xs) = omega (arith, high, length-map (x ∷ xs) f) in
    (λ i. is_lt (R (get_or-map f (x ∷ xs) (k + 1) x d within i) (get_or-map f (x ∷ xs) k x d (omega (arith, within)) i)))
    ∙ up k x low within
