-- The receivers of a pool are seen through what watches them.
use Rattle.std.proofs.Common.{arith, ◌≡◌, ◌∙◌, ◌<◌, ℕ, List, ap, get_or, length, map, subst, sym}
use Rattle.std.specs.List.{HoldsAt}
use Rattle.std.proofs.lemmas.List.{get_or-map, length-map}

-- what holds of a thing at a place holds there of what is mapped to it
pub holds_of_mapped : {A B : Type 0} (f : A → B) (P : B → Type 0) (xs : List A) (ys : List B) (place : ℕ) → map f xs ≡ ys → place < length ys → HoldsAt P ys place → HoldsAt (λ x. P (f x)) xs place
holds_of_mapped f P xs ys place same lt holds = λ d.
    let within : place < length xs = omega (arith, lt, ap length same, length-map xs f) in
    subst P (ap (λ l. get_or l place (f d)) (sym same) ∙ get_or-map f xs place d (f d) within) (holds (f d))
