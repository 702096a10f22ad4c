-- How often blocks were drawn: sums over seats and over drawers.
use Rattle.std.proofs.Common.{arith, ◌≡◌, ◌≢◌, ◌∙◌, ◌<◌, ◌≤◌, ◌+◌, ◌⊎◌, ◌++◌, ◌∷◌, [], ℕ, All, Bool, false, zero, suc, cond, get_or, List, length, set, true, ap, sym, refl, inl, inr, ⊎_elim}
use Rattle.std.specs.Prelude.{◌==◌, nat_lt}
use Rattle.std.specs.List.{sum_by}
use Rattle.std.proofs.lemmas.Bool.{cases_lt}
use Rattle.std.proofs.lemmas.Bool.Decides.{eqb_tells, nat_tests}
use Rattle.std.proofs.lemmas.List.Elements.{All-cons, All-nil}
use Rattle.std.proofs.lemmas.List.Sums.{sum_by-cons, sum_by-set}
use mathlib.Core.Option.{some, some-injective, some-ne-none}
use lib.ListN.{get_elem?}
use Rattle.block_draw.specs.declared.seats.Known.{Known}
use Rattle.block_draw.specs.declared.seats.Known.TheVariants.{Draws, Gathers, Gone}
use Rattle.block_draw.specs.Drawn.{sum_below, times_drawn}
use Rattle.block_draw.specs.Seats.{done_in, draws_in, times_in}

module _ {A : Type 0} where
  -- what stands at a place
  pub seen_at : (l : List A) (k : ℕ) (a : A) → get_elem? l k ≡ some a → (k < length l) × (get_or l k a ≡ a)
  seen_at [] k a e = absurd (some-ne-none a (sym e))
  seen_at (x ∷ xs) zero a e = (omega arith, some-injective x a e)
  seen_at (x ∷ xs) (suc k) a e = let rest = seen_at xs k a e in (omega (arith, rest.0), rest.1)

  -- one more at the end
  pub at_end : (l : List A) (x a : A) (k : ℕ) → get_elem? (l ++ x ∷ []) k ≡ some a → (get_elem? l k ≡ some a) ⊎ ((k ≡ length l) × (x ≡ a))
  at_end [] x a zero e = inr (refl, some-injective x a e)
  at_end [] x a (suc k) e = absurd (some-ne-none a (sym e))
  at_end (y ∷ l) x a zero e = inl e
  at_end (y ∷ l) x a (suc k) e = ⊎_elim (λ h. inl h) (λ h. inr (ap suc h.0, h.1)) (at_end l x a k e)

-- ---- sums over seats

-- one seat knows something else
pub sum_changed : (f : Known → ℕ) (l : List Known) (k : ℕ) (v w : Known) → get_elem? l k ≡ some v → sum_by f (set l k w) + f v ≡ sum_by f l + f w
sum_changed f l k v w there = let at = seen_at l k v there in ap (λ x. sum_by f (set l k w) + f x) (sym at.1) ∙ sum_by-set f l k w v at.0

-- where no drawer draws any more, no block was drawn by one that still does
pub none_draws : (block : ℕ) (l : List Known) → sum_by draws_in l ≡ 0 → sum_by (times_in block) l ≡ 0
none_draws block [] none = refl
none_draws block (Draws d ∷ l) none = let more = sum_by-cons draws_in (Draws d) l in absurd (omega (arith, none, more))
none_draws block (Gathers g ∷ l) none = let more = sum_by-cons draws_in (Gathers g) l in let rest = none_draws block l (omega (arith, none, more)) in omega (arith, rest, sum_by-cons (times_in block) (Gathers g) l)
none_draws block (Gone ∷ l) none = let more = sum_by-cons draws_in Gone l in let rest = none_draws block l (omega (arith, none, more)) in omega (arith, rest, sum_by-cons (times_in block) Gone l)

-- who has found no block left draws
pub done_few : (l : List Known) → sum_by done_in l ≤ sum_by draws_in l
done_few [] = omega arith
done_few (v ∷ l) = let rest = done_few l in omega (arith, rest, one_at_most v, sum_by-cons done_in v l, sum_by-cons draws_in v l)
  where
    of_bool : (b : Bool) → cond b 1 0 ≤ 1
    of_bool true = omega arith
    of_bool false = omega arith

    one_at_most : (v : Known) → done_in v ≤ draws_in v
    one_at_most (Draws d) = of_bool d.is_done
    one_at_most (Gathers g) = omega arith
    one_at_most Gone = omega arith

-- ---- sums over drawers

pub sum_none : (n : ℕ) (f : ℕ → ℕ) → ((k : ℕ) → k < n → f k ≡ 0) → sum_below n f ≡ 0
sum_none zero f none = refl
sum_none (suc n) f none = let rest = sum_none n f (λ k below. none k (omega (arith, below))) in omega (arith, rest, none n (omega arith))

pub sum_same : (n : ℕ) (f g : ℕ → ℕ) → ((k : ℕ) → k < n → f k ≡ g k) → sum_below n f ≡ sum_below n g
sum_same zero f g same = refl
sum_same (suc n) f g same = let rest = sum_same n f g (λ k below. same k (omega (arith, below))) in omega (arith, rest, same n (omega arith))

-- one number is greater by so much
pub sum_raised : (n k m : ℕ) (f g : ℕ → ℕ) → k < n → ((j : ℕ) → j ≢ k → g j ≡ f j) → g k ≡ f k + m → sum_below n g ≡ sum_below n f + m
sum_raised zero k m f g below others here = absurd (omega (arith, below))
sum_raised (suc n) k m f g below others here =
    ⊎_elim
    (λ e.
    let rest = sum_same n g f (λ j less. others j (λ same. omega (arith, same, e.1, less))) in
    let last : g n ≡ f n + m = ap g e.1 ∙ here ∙ ap (λ x. f x + m) (sym e.1) in
    omega (arith, rest, last))
    (λ e.
    let rest = sum_raised n k m f g (omega (arith, e.1, below)) others here in
    let last = others n e.1 in
    omega (arith, rest, last))
    (eqb_tells n k)

-- ---- a block more

pub drawn_more : (block n : ℕ) (bs : List ℕ) → times_drawn block (bs ++ n ∷ []) ≡ times_drawn block bs + cond (block == n) 1 0
drawn_more block n [] = omega arith
drawn_more block n (b ∷ bs) = let rest = drawn_more block n bs in omega (arith, rest)

-- those below a number, and the number, are those below the next
pub below_or_here : (block n : ℕ) → cond (block == n) 1 0 + cond (nat_lt block n) 1 0 ≡ cond (nat_lt block (n + 1)) 1 0
below_or_here block n = grind (arith, nat_tests)

-- all blocks of a list are below a number, if none from there on stands in it
pub all_below : (n : ℕ) (bs : List ℕ) → ((block : ℕ) → n ≤ block → times_drawn block bs ≡ 0) → All (λ block. block < n) bs
all_below n [] none = All-nil (λ block. block < n)
all_below n (b ∷ bs) none =
    let first : b < n = ⊎_elim (λ h. h) (λ (h : n ≤ b). let here : (b == b) ≡ true = grind (arith, nat_tests) in let zero_times = none b h in let one = ap (λ c. cond c 1 0 + times_drawn b bs) here in absurd (omega (arith, zero_times, one))) (cases_lt b n) in
    All-cons (λ block. block < n) b bs first (all_below n bs (λ block late. let all = none block late in omega (arith, all)))
