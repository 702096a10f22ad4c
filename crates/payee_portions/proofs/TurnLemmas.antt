-- Portions, posting by posting.
use Rattle.std.proofs.Common.{◌≡◌, ◌∙◌, ◌+◌, ◌<◌, ◌++◌, ◌∷◌, [], ℕ, zero, suc, List, None, Option, Some, ap, arith, get_or, length, refl, slice_get, sym, take}
use Rattle.std.specs.Option.{option_map}
use Rattle.std.specs.List.{filter_map}
use Rattle.std.proofs.lemmas.List.{append-nil, take_more}
use Rattle.std.proofs.lemmas.List.Elements.{filter_map-append}

-- one more that is something
pub something_more : {X Y : Type 0} (f : X → Option Y) (xs : List X) (place : ℕ) (d : X) (y : Y) → place < length xs
    → f (get_or xs place d) ≡ Some y → filter_map f (take (place + 1) xs) ≡ filter_map f (take place xs) ++ y ∷ []
something_more f xs place d y within is =
    ap (filter_map f) (take_more xs place d within)
    ∙ (filter_map-append f (take place xs) (get_or xs place d ∷ []) ∙ ap (λ (l : List _). filter_map f (take place xs) ++ l) (alone (get_or xs place d) is))
  where
    alone : (x : _) → f x ≡ Some y → filter_map f (x ∷ []) ≡ y ∷ []
    alone x is = rw is refl

-- one more that is nothing
pub nothing_more : {X Y : Type 0} (f : X → Option Y) (xs : List X) (place : ℕ) (d : X) → place < length xs
    → f (get_or xs place d) ≡ None → filter_map f (take (place + 1) xs) ≡ filter_map f (take place xs)
nothing_more f xs place d within is =
    ap (filter_map f) (take_more xs place d within)
    ∙ (filter_map-append f (take place xs) (get_or xs place d ∷ [])
    ∙ (ap (λ (l : List _). filter_map f (take place xs) ++ l) (alone (get_or xs place d) is) ∙ append-nil (filter_map f (take place xs))))
  where
    alone : (x : _) → f x ≡ None → filter_map f (x ∷ []) ≡ []
    alone x is = rw is refl

-- what is made of the item at a place
pub made_of : {X Y : Type 0} (xs : List X) (place : ℕ) (f : X → Y) (y : Y) → place < length xs
    → ((x : X) → slice_get xs place ≡ Some x → y ≡ f x) → option_map f (slice_get xs place) ≡ Some y
made_of [] place f y within is = absurd (omega (arith, within))
made_of (x ∷ xs) zero f y within is = ap Some (sym (is x refl))
made_of (x ∷ xs) (suc place) f y within is = made_of xs place f y (omega (arith, within)) is
