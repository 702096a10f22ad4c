-- Two lists of one length, side by side.
use Rattle.std.proofs.Common.{◌≡◌, ◌∙◌, ◌+◌, ◌<◌, ◌≤◌, ◌++◌, ◌∷◌, [], ℕ, zero, suc, List, ap, arith, get_or, length, refl, sym, take, zip}

-- one pair more
zip_next : {X Y : Type 0} (xs : List X) (ys : List Y) (i : ℕ) (x : X) (y : Y) → i < length xs → length ys ≡ length xs
    → x ≡ get_or xs i x → y ≡ get_or ys i y → take (suc i) (zip xs ys) ≡ take i (zip xs ys) ++ (x, y) ∷ []
zip_next [] ys i x y within same at_x at_y = absurd (omega (arith, within))
zip_next (a ∷ xs) [] i x y within same at_x at_y = absurd (omega (arith, same))
zip_next (a ∷ xs) (b ∷ ys) zero x y within same at_x at_y = λ k. (sym at_x k, sym at_y k) ∷ []
zip_next (a ∷ xs) (b ∷ ys) (suc i) x y within same at_x at_y =
    ap (λ (l : List _). (a, b) ∷ l) (zip_next xs ys i x y (omega (arith, within)) (omega (arith, same)) at_x at_y)

next_is : (i : ℕ) → i + 1 ≡ suc i
next_is i = omega arith

pub zip_more : {X Y : Type 0} (xs : List X) (ys : List Y) (i : ℕ) (x : X) (y : Y) → i < length xs → length ys ≡ length xs
    → x ≡ get_or xs i x → y ≡ get_or ys i y → take (i + 1) (zip xs ys) ≡ take i (zip xs ys) ++ (x, y) ∷ []
zip_more xs ys i x y within same at_x at_y =
    ap (λ (n : ℕ). take n (zip xs ys)) (next_is i) ∙ zip_next xs ys i x y within same at_x at_y

-- and all of them
pub zip_all : {X Y : Type 0} (xs : List X) (ys : List Y) (i : ℕ) → length xs ≤ i → take i (zip xs ys) ≡ zip xs ys
zip_all [] ys zero past = refl
zip_all [] ys (suc i) past = refl
zip_all (a ∷ xs) [] zero past = refl
zip_all (a ∷ xs) [] (suc i) past = refl
zip_all (a ∷ xs) (b ∷ ys) zero past = absurd (omega (arith, past))
zip_all (a ∷ xs) (b ∷ ys) (suc i) past = ap (λ (l : List _). (a, b) ∷ l) (zip_all xs ys i (omega (arith, past)))
