-- Where the end mark is received, all that was sent is.
use Rattle.std.proofs.Common.{Bool, List, ap, false, length, refl, subst, sym, take, true, true≢false, [], ◌++◌, ◌||◌, ◌≡◌, ◌∙◌, ◌∷◌}
use Rattle.std.specs.List.{list_any}
use Rattle.std.proofs.lemmas.Bool.{or_parts}
use Rattle.queue_core.specs.declared.item.Item.{Item}
use Rattle.queue_core.specs.declared.item.Item.TheVariants.{End}
use Rattle.queue_core.specs.Items.{IsFirstOf, is_end}
use Rattle.queue_core.specs.Endings.{HasEnd, IsClosed}

or_other : (a b : Bool) → a ≡ false → (a || b) ≡ true → b ≡ true
or_other true b f e = absurd (true≢false f)
or_other false b f e = e

nothing_first : (xs : List Item) → take (length xs) [] ≡ xs → [] ≡ xs
nothing_first [] e = refl
nothing_first (x ∷ xs) e = e

all_of : (part posts : List Item) → list_any is_end posts ≡ false → IsFirstOf part (posts ++ End ∷ []) → HasEnd part → part ≡ posts ++ End ∷ []
all_of [] posts none first has = absurd (true≢false (sym has))
all_of (x ∷ xs) [] none first has = let h : End ≡ x = cc in let t : [] ≡ xs = nothing_first xs (cc) in cc
all_of (x ∷ xs) (y ∷ ys) none first has =
    let same : y ≡ x = cc in
    let rest : take (length xs) (ys ++ End ∷ []) ≡ xs = cc in
    let parts = or_parts (is_end y) (list_any is_end ys) none in
    let others = all_of xs ys parts.1 rest (or_other (is_end x) (list_any is_end xs) (ap is_end (sym same) ∙ parts.0) has) in
    cc

-- what was received is the first of what was sent, and has its end mark
pub all_received : (part whole : List Item) → IsClosed whole → IsFirstOf part whole → HasEnd part → part ≡ whole
all_received part whole closed first has =
    let e = closed.2 in
    all_of part closed.0 closed.1 (subst (λ w. IsFirstOf part w) e first) has ∙ sym e
