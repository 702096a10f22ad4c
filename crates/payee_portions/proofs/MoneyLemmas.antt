-- Sections by what they come to.
use Rattle.std.proofs.Common.{◌≡◌, ◌∙◌, ◌+◌, All, List, ap, arith, get_or, map, nat_cmp, sym, unsigned_abs}
use Rattle.std.specs.Cmp.{IsTotalOrder, back_total, nat_cmp_total, on_total, then_total}
use Rattle.std.specs.Cmp.Lexicographic.{slice_cmp}
use Rattle.std.specs.List.Sorted.{IsSorted}
use Rattle.std.specs.Ordering.{is_lt, ordering_then}
use Rattle.std.proofs.lemmas.Cmp.{nat_list_cmp_total}
use Rattle.payee_portions.specs.Held.{by_money, work_of}
use Rattle.payee_portions.specs.Money.{IsSection, kept_by_money, section_shown}
use Rattle.payee_portions.specs.declared.money.Section.{Section}
use Rattle.payee_portions.proofs.OrderLemmas.{sorted_shown}

pub is_order_of_money : IsTotalOrder kept_by_money
is_order_of_money =
    then_total (back_total (on_total (λ (section : Section). unsigned_abs section.sum) nat_cmp_total))
    (on_total (λ (section : Section). work_of (section_shown section)) nat_list_cmp_total)

-- the sums that are kept are those of the portions
same_order : (section other : Section) → IsSection section → IsSection other → by_money (section_shown section) (section_shown other) ≡ kept_by_money section other
same_order section other is are =
    λ i. ordering_then (nat_cmp (unsigned_abs (sym are.sum i)) (unsigned_abs (sym is.sum i)))
    (slice_cmp nat_cmp (work_of (section_shown section)) (work_of (section_shown other)))

pub sorted_by_money : (sections : List Section) → All IsSection sections → IsSorted kept_by_money sections
    → IsSorted by_money (map section_shown sections)
sorted_by_money sections sound up =
    sorted_shown section_shown by_money sections
    (λ k d low high.
    ap is_lt (same_order (get_or sections (k + 1) d) (get_or sections k d) (sound (k + 1) d high) (sound k d (omega (arith, high))))
    ∙ up k d low high)
