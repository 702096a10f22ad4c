-- The order in which documents list portions.
use Rattle.std.proofs.Common.{◌∙◌, ◌+◌, ◌<◌, ◌∷◌, [], List, arith, length, map}
use Rattle.std.specs.Cmp.{IsTotalOrder, nat_cmp_total, on_total, then_total}
use Rattle.std.specs.List.Sorted.{IsSorted}
use Rattle.std.specs.Ordering.{is_lt}
use Rattle.std.specs.declared.cmp.Ordering.{Ordering}
use Rattle.std.proofs.lemmas.Cmp.{nat_list_cmp_total}
use Rattle.std.proofs.lemmas.List.{get_or-map, length-map}
use Rattle.payee_portions.specs.Portions as portions
use Rattle.payee_portions.specs.Portions.{by_title}

pub is_order : IsTotalOrder by_title
is_order =
    then_total (on_total (λ (p : portions.Portion). p.title) nat_list_cmp_total)
    (then_total (on_total (λ (p : portions.Portion). p.line.work) nat_list_cmp_total) (on_total (λ (p : portions.Portion). p.row) nat_cmp_total))

-- a list that is sorted by what its items show is one whose shown items are sorted
pub sorted_shown : {X Y : Type 0} (f : X → Y) (R : Y → Y → Ordering) (xs : List X) → IsSorted (λ x y. R (f x) (f y)) xs → IsSorted R (map f xs)
sorted_shown f R [] up k d low high = absurd (omega (arith, high))
sorted_shown f R (x ∷ xs) up k d low high =
    let within : k + 1 < length (x ∷ xs) = omega (arith, high, length-map (x ∷ xs) f) in
    (λ i. is_lt (R (get_or-map f (x ∷ xs) (k + 1) x d within i) (get_or-map f (x ∷ xs) k x d (omega (arith, within)) i)))
    ∙ up k x low within
