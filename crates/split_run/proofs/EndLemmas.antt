-- Where as many end marks were received as there are workers, each worker's list was received whole.
use Rattle.std.proofs.Common.{arith, ◌≡◌, ◌∙◌, ◌<◌, ◌≤◌, ◌+◌, ◌++◌, ◌∷◌, [], ℕ, false, zero, suc, List, length, take, drop, ap, sym, refl, subst, ⊎_elim, true≢false}
use Rattle.std.specs.List.{list_any}
use Rattle.std.proofs.lemmas.Bool.{cases_lt}
use Rattle.std.proofs.lemmas.List.{take-append-drop}
use Rattle.queue_core.specs.declared.item.Item.{Item}
use Rattle.queue_core.specs.declared.item.Item.TheVariants.{End, Post}
use Rattle.queue_core.specs.Items.{is_end}
use Rattle.mail_box.specs.Endings.{HasEnd, IsClosed}
use Rattle.queue_core.specs.Items.{IsFirstOf}
use Rattle.mail_box.proofs.Endings.{all_received}
use Rattle.block_draw.specs.Drawn.{sum_below}
use Rattle.split_run.specs.Reading.{ends_among}

pub ends-append : (xs ys : List Item) → ends_among (xs ++ ys) ≡ ends_among xs + ends_among ys
ends-append [] ys = omega arith
ends-append (Post line amount ∷ xs) ys = ends-append xs ys
ends-append (End ∷ xs) ys = let rest = ends-append xs ys in omega (arith, rest)

-- a list with an end mark counted has one
has_end_counted : (items : List Item) → 0 < ends_among items → HasEnd items
has_end_counted [] some = absurd (omega (arith, some))
has_end_counted (Post line amount ∷ items) some = has_end_counted items some
has_end_counted (End ∷ items) some = refl

no_end_counted : (items : List Item) → list_any is_end items ≡ false → ends_among items ≡ 0
no_end_counted [] none = refl
no_end_counted (Post line amount ∷ items) none = no_end_counted items none
no_end_counted (End ∷ items) none = absurd (true≢false none)

-- the first of a closed list has one at most
one_end : (part whole : List Item) → IsClosed whole → IsFirstOf part whole → ends_among part ≤ 1
one_end part whole closed first =
    let counted : ends_among whole ≡ 1 = ap ends_among closed.2 ∙ ends-append closed.0 (End ∷ []) ∙ ap (λ n. n + 1) (no_end_counted closed.0 closed.1) in
    let cut : ends_among part + ends_among (drop (length part) whole) ≡ ends_among whole =
    ap (λ l. ends_among l + ends_among (drop (length part) whole)) (sym first) ∙ sym (ends-append (take (length part) whole) (drop (length part) whole)) ∙ ap ends_among (take-append-drop (length part) whole) in
    omega (arith, counted, cut)

-- so many numbers of at most 1 that come to as many are 1 each
sum_at_most : (n : ℕ) (f : ℕ → ℕ) → ((k : ℕ) → k < n → f k ≤ 1) → sum_below n f ≤ n
sum_at_most zero f small = omega arith
sum_at_most (suc n) f small = let rest = sum_at_most n f (λ k below. small k (omega (arith, below))) in omega (arith, rest, small n (omega arith))

pub each_is_one : (n : ℕ) (f : ℕ → ℕ) → ((k : ℕ) → k < n → f k ≤ 1) → n ≤ sum_below n f → (k : ℕ) → k < n → 0 < f k
each_is_one zero f small enough k below = absurd (omega (arith, below))
each_is_one (suc n) f small enough k below =
    let rest = sum_at_most n f (λ i low. small i (omega (arith, low))) in
    let last = small n (omega arith) in
    ⊎_elim
    (λ (h : k < n). each_is_one n f (λ i low. small i (omega (arith, low))) (omega (arith, enough, last)) k h)
    (λ (h : n ≤ k). let same : k ≡ n = omega (arith, h, below) in subst (λ (i : ℕ). 0 < f i) (sym same) (omega (arith, enough, rest)))
    (cases_lt k n)

-- each worker's list was received whole
pub all_whole : (workers : ℕ) (got sent : ℕ → List Item) → ((worker : ℕ) → worker < workers → IsClosed (sent worker)) → ((worker : ℕ) → worker < workers → IsFirstOf (got worker) (sent worker))
    → workers ≤ sum_below workers (λ worker. ends_among (got worker)) → (worker : ℕ) → worker < workers → got worker ≡ sent worker
all_whole workers got sent closed first enough worker below =
    all_received (got worker) (sent worker) (closed worker below) (first worker below)
    (has_end_counted (got worker)
    (each_is_one workers (λ w. ends_among (got w)) (λ w low. one_end (got w) (sent w) (closed w low) (first w low)) enough worker below))
