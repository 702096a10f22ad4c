use Rattle.std.proofs.Common.{◌≡◌, ℕ, ℤ, ◌+ℤ◌, ◌<◌, eqb, count_by, length, get_or, take}
use Rattle.line_split.specs.Contenders.{place_of}
use Rattle.line_split.specs.Signs.{with_sign_of}
use Rattle.line_split.proofs.portions.give_in_order.Given as goal

-- each portion has a unit more for each contender of its place so far
abbrev pub invariant-loop-contender : goal.invariant-loop-contender
invariant-loop-contender l =
    (k : ℕ) (e : ℕ × ℤ) → k < length l.fn.list
    → get_or l.list k e ≡ ((get_or l.fn.list k e).0, (get_or l.fn.list k e).1 +ℤ with_sign_of l.amount (count_by (λ contender. eqb (place_of contender) k) (take l.contender-index l.served)))
