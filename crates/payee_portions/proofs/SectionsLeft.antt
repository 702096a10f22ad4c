-- The sections of a list, one after another.
use Rattle.std.proofs.Common.{◌≡◌, ◌∙◌, ◌≤◌, ◌<◌, ◌+◌, ◌-◌, ◌∷◌, ◌++◌, [], ℕ, zero, suc, List, ap, append_assoc, arith, drop, flat_map, length, length-drop, refl, sym, take}
use Rattle.payee_portions.specs.Portions.{Portion}
use Rattle.std.proofs.lemmas.List.{drop-drop, drop-map, drop_all, take-map}
use Rattle.payee_portions.specs.Sections.{section_length, sections_from, sections_of}
use Rattle.payee_portions.specs.Shown.{portion_shown, portions_shown}
use Rattle.payee_portions.specs.declared.portion.Portion as kept

-- fuel that is enough is enough
from_any : (m n : ℕ) (list : List Portion) → length list ≤ m → length list ≤ n → sections_from m list ≡ sections_from n list
unfolding sections_from
from_any zero zero [] few enough = refl
from_any zero (suc n) [] few enough = refl
from_any (suc m) zero [] few enough = refl
from_any (suc m) (suc n) [] few enough = refl
from_any zero n (first ∷ later) few enough = absurd (omega (arith, few))
from_any (suc m) zero (first ∷ later) few enough = absurd (omega (arith, enough))
from_any (suc m) (suc n) (first ∷ later) few enough =
    let size = section_length (first ∷ later) in
    let left = length-drop size (first ∷ later) in
    ap (λ (sections : List (List Portion)). take size (first ∷ later) ∷ sections)
    (from_any m n (drop size (first ∷ later)) (omega (arith, few, left)) (omega (arith, enough, left)))

-- the first section, and those of what is left
pub first_section : (first : Portion) (later : List Portion)
    → sections_of (first ∷ later)
    ≡ take (section_length (first ∷ later)) (first ∷ later) ∷ sections_of (drop (section_length (first ∷ later)) (first ∷ later))
unfolding sections_from
first_section first later =
    let size = section_length (first ∷ later) in
    let list = drop size (first ∷ later) in
    ap (λ (sections : List (List Portion)). take size (first ∷ later) ∷ sections)
    (from_any (length later) (length list) list (omega (arith, length-drop size (first ∷ later))) (omega arith))

pub no_section : sections_of [] ≡ []
unfolding sections_from
no_section = refl

-- the first section of a list that is kept
opened : (list : List kept.Portion) (size : ℕ) → 0 < length list → size ≡ section_length (portions_shown list)
    → sections_of (portions_shown list) ≡ portions_shown (take size list) ∷ sections_of (portions_shown (drop size list))
opened [] size some is = absurd (omega (arith, some))
opened (first ∷ later) size some is =
    let all = portions_shown (first ∷ later) in
    first_section (portion_shown first) (portions_shown later)
    ∙ (ap (λ (n : ℕ). take n all ∷ sections_of (drop n all)) (sym is)
    ∙ (λ i. take-map portion_shown size (first ∷ later) i ∷ sections_of (drop-map portion_shown size (first ∷ later) i)))

-- the section that begins at a place, and those behind it
pub next_section : (list : List kept.Portion) (from end : ℕ) → from < length list → end ≡ from + section_length (portions_shown (drop from list))
    → sections_of (portions_shown (drop from list)) ≡ portions_shown (take (end - from) (drop from list)) ∷ sections_of (portions_shown (drop end list))
next_section list from end below is =
    let size = end - from in
    let whole : from + size ≡ end = omega (arith, is) in
    opened (drop from list) size (omega (arith, length-drop from list, below)) (omega (arith, is))
    ∙ ap (λ (l : List kept.Portion). portions_shown (take size (drop from list)) ∷ sections_of (portions_shown l))
    (drop-drop size from list ∙ ap (λ (n : ℕ). drop n list) whole)

-- behind the last portion there is none
pub none_left : (list : List kept.Portion) (from : ℕ) → length list ≤ from → sections_of (portions_shown (drop from list)) ≡ []
none_left list from past = ap (λ (l : List kept.Portion). sections_of (portions_shown l)) (drop_all from list past) ∙ no_section

-- the text of one section more, and those that are left behind it
pub section_more : (f : List Portion → List ℕ) (list : List kept.Portion) (size : ℕ) (page next : List ℕ) → 0 < length list
    → size ≡ section_length (portions_shown list) → next ≡ page ++ f (portions_shown (take size list))
    → next ++ flat_map f (sections_of (portions_shown (drop size list))) ≡ page ++ flat_map f (sections_of (portions_shown list))
section_more f list size page next some is more =
    let behind = sections_of (portions_shown (drop size list)) in
    ap (λ (text : List ℕ). text ++ flat_map f behind) more
    ∙ (append_assoc page (f (portions_shown (take size list))) (flat_map f behind)
    ∙ ap (λ (sections : List (List Portion)). page ++ flat_map f sections) (sym (opened list size some is)))
