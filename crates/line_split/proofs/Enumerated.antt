-- A list whose elements stand beside their places.
use Rattle.std.proofs.Common.{◌≡◌, ℕ, ◌+◌, ◌<◌, List, [], ◌∷◌, ◌++◌, length, map, get_or, take, refl, ap, ◌∙◌, arith, zero-add}
use Rattle.std.specs.List.{enumerate_from}
use Rattle.std.proofs.lemmas.List.{take_more, length-take-le, map_push}
use Rattle.std.proofs.lemmas.List.FromFn.{get_or-enumerate_from}

pub enumerated : {X : Type 0} (xs : List X) (i : ℕ) (d : ℕ × X) → i < length xs → get_or (enumerate_from 0 xs) i d ≡ (i, get_or xs i d.1)
enumerated {X} xs i d lt =
    get_or-enumerate_from 0 xs i d lt ∙ ap (λ (k : ℕ). (k, get_or xs i d.1)) (zero-add i)

pub enumerate_from_push : {X : Type 0} (n : ℕ) (xs : List X) (x : X) → enumerate_from n (xs ++ x ∷ []) ≡ enumerate_from n xs ++ (n + length xs, x) ∷ []
enumerate_from_push {X} n [] x = ap (λ (k : ℕ). (k, x) ∷ []) (omega arith)
enumerate_from_push {X} n (y ∷ xs) x =
    ap (λ (l : List (ℕ × X)). (n, y) ∷ l)
    (enumerate_from_push (n + 1) xs x ∙ ap (λ (k : ℕ). enumerate_from (n + 1) xs ++ (k, x) ∷ []) (omega arith))

-- the step of a loop that makes something of each element and its place, counted from n
pub enumerated_from_more : {X Y : Type 0} (f : ℕ × X → Y) (n : ℕ) (xs : List X) (i : ℕ) (d : X) → i < length xs
    → map f (enumerate_from n (take (i + 1) xs)) ≡ map f (enumerate_from n (take i xs)) ++ f (n + i, get_or xs i d) ∷ []
enumerated_from_more {X} {Y} f n xs i d lt =
    ap (λ (l : List X). map f (enumerate_from n l)) (take_more xs i d lt)
    ∙ (ap (λ (l : List (ℕ × X)). map f l) (enumerate_from_push n (take i xs) (get_or xs i d))
    ∙ (map_push f (enumerate_from n (take i xs)) (n + length (take i xs), get_or xs i d)
    ∙ ap (λ (k : ℕ). map f (enumerate_from n (take i xs)) ++ f (n + k, get_or xs i d) ∷ []) (length-take-le i xs (omega arith))))

-- the same, counted from 0
pub enumerated_more : {X Y : Type 0} (f : ℕ × X → Y) (xs : List X) (i : ℕ) (d : X) → i < length xs
    → map f (enumerate_from 0 (take (i + 1) xs)) ≡ map f (enumerate_from 0 (take i xs)) ++ f (i, get_or xs i d) ∷ []
enumerated_more {X} {Y} f xs i d lt =
    enumerated_from_more f 0 xs i d lt ∙ ap (λ (k : ℕ). map f (enumerate_from 0 (take i xs)) ++ f (k, get_or xs i d) ∷ []) (zero-add i)

-- Two functions that agree make the same list.
pub map_same : {X Y : Type 0} (f g : X → Y) → ((x : X) → f x ≡ g x) → (xs : List X) → map f xs ≡ map g xs
map_same f g same [] = refl
map_same {X} {Y} f g same (x ∷ xs) = ap (λ (y : Y). y ∷ map f xs) (same x) ∙ ap (λ (l : List Y). g x ∷ l) (map_same f g same xs)
