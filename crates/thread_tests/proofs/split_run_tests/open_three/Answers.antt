use Rattle.std.proofs.Common.{arith, ◌≡◌, ◌<◌, ◌≤◌, ℕ, zero, suc, false, [], ◌∷◌, ap, get_or}
use Rattle.thread_tests.proofs.split_run_tests.open_three.Goals as goal

-- what holds of three holds of each of them
each_of_three : {X : Type 0} (P : X → Type 0) (x y z : X) → P x → P y → P z → (n : ℕ) (d : X) → n < 3 → P (get_or (x ∷ y ∷ z ∷ []) n d)
each_of_three P x y z first second third zero d below = first
each_of_three P x y z first second third (suc zero) d below = second
each_of_three P x y z first second third (suc (suc zero)) d below = third
each_of_three P x y z first second third (suc (suc (suc n))) d below = absurd (omega (arith, below))

pub returns-clause-fresh : goal.returns-clause-fresh
returns-clause-fresh c =
    each_of_three (λ v. v.sent ≡ []) _ _ _ (ap (λ v. v.sent) c.in_ok-first.ensures) (ap (λ v. v.sent) c.in_ok-second.ensures) (ap (λ v. v.sent) c.in_ok-third.ensures)

pub returns-clause-ready : goal.returns-clause-ready
returns-clause-ready c =
    each_of_three (λ v. (v.is_ended ≡ false) × (3 ≤ v.left)) _ _ _
    (ap (λ v. v.is_ended) c.in_ok-first.ensures, omega (arith, ap (λ v. v.left) c.in_ok-first.ensures))
    (ap (λ v. v.is_ended) c.in_ok-second.ensures, omega (arith, ap (λ v. v.left) c.in_ok-second.ensures))
    (ap (λ v. v.is_ended) c.in_ok-third.ensures, omega (arith, ap (λ v. v.left) c.in_ok-third.ensures))
