-- The sections of a list are the list, cut.
use Rattle.std.proofs.Common.{◌≡◌, ◌∙◌, ◌+ℤ◌, ◌≤◌, ◌∷◌, ◌++◌, [], ℕ, ℤ, zero, suc, List, ap, arith, drop, flat_map, length, length-drop, refl, sym, take, take-append-drop}
use Rattle.line_split.proofs.IntSums.{int_sum_by-append, int_sum_by-cons}
use Rattle.line_split.specs.Signs.{int_sum_by}
use Rattle.payee_portions.specs.Portions.{Portion}
use Rattle.payee_portions.specs.Sections.{section_length, sections_from, sections_of}
use Rattle.payee_portions.specs.Sums.{sum_of}

abbrev joined : List (List Portion) → List Portion
joined sections = flat_map (λ section. section) sections

from_joined : (n : ℕ) (list : List Portion) → length list ≤ n → joined (sections_from n list) ≡ list
unfolding sections_from
from_joined zero [] few = refl
from_joined zero (first ∷ later) few = absurd (omega (arith, few))
from_joined (suc n) [] few = refl
from_joined (suc n) (first ∷ later) few =
    let size = section_length (first ∷ later) in
    let fewer : length (drop size (first ∷ later)) ≤ n = omega (arith, few, length-drop size (first ∷ later)) in
    ap (λ (l : List Portion). take size (first ∷ later) ++ l) (from_joined n (drop size (first ∷ later)) fewer) ∙ take-append-drop size (first ∷ later)

pub sections_joined : (listed : List Portion) → joined (sections_of listed) ≡ listed
sections_joined listed = from_joined (length listed) listed (omega arith)

joined_sum : (sections : List (List Portion)) → int_sum_by sum_of sections ≡ sum_of (joined sections)
joined_sum [] = refl
joined_sum (section ∷ sections) =
    int_sum_by-cons sum_of section sections
    ∙ (ap (λ (sum : ℤ). sum_of section +ℤ sum) (joined_sum sections)
    ∙ sym (int_sum_by-append (λ (portion : Portion). portion.amount) section (joined sections)))

pub sections_sum : (listed : List Portion) → int_sum_by sum_of (sections_of listed) ≡ sum_of listed
sections_sum listed = joined_sum (sections_of listed) ∙ ap (λ (list : List Portion). sum_of list) (sections_joined listed)
