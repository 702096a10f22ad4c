use Rattle.std.proofs.Common.{List, subst, sym, true, ◌∷◌, ◌≡◌, ℕ}
use Rattle.std.specs.declared.cmp.Ordering.TheVariants.{Less}
use Rattle.merge_statements.proofs.Taking.{least_is_first, least_stays, least_without}
use Rattle.merge_statements.specs.SoFar.{HasLeast, order}
use Rattle.merge_statements.proofs.merging.lesser_payee.Goals as goal
use Rattle.merge_statements.proofs.merging.lesser_payee.Goals.{then-not-found-via-then-not-found, then-not-found-via-else-not-found+then-is_before}

pub returns-in-None : goal.returns-in-None
returns-in-None g c = λ others has. least_without c.args.part.now others c.args.least.now.items c.args.found (sym c.in-None.ensures.same) has

pub returns-in_ok-replace-in-Some : goal.returns-in_ok-replace-in-Some
returns-in_ok-replace-in-Some g c = λ others has.
    let least = least_is_first c.args.part.now others c.in-Some.payee.now c.args.least.now.items c.args.found c.in-Some.ensures.same c.in-Some.ensures.next has
    (elim c.then-not-found.branch [
      | then-not-found-via-then-not-found w ↦ λ found. cc (found, w.if-not-found.true)
      | then-not-found-via-else-not-found+then-is_before w ↦ λ found. subst (λ (least : List ℕ). order c.in-Some.payee.now least ≡ Less) w.as_slice.ensures.value (w.is_before.ensures.0 w.if-is_before.true)
    ]) in
    subst (λ (name : List ℕ). HasLeast (c.args.part.now ∷ others) name true) (sym c.in_ok-replace-in-Some.ensures) least

pub returns-else-is_before : goal.returns-else-is_before
returns-else-is_before g c = λ others has.
    least_stays c.args.part.now others c.in-Some.payee.now c.args.least.now.items c.in-Some.ensures.same c.in-Some.ensures.next
    (subst (HasLeast others c.args.least.now.items) c.if-not-found.false has)
    (λ less. cc (c.is_before.ensures.1 (subst (λ (least : List ℕ). order c.in-Some.payee.now least ≡ Less) (sym c.as_slice.ensures.value) less), c.if-is_before.false))
