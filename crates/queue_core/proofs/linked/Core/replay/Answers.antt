-- A step that is done is one more of those that lead on.
use Rattle.std.proofs.Common.{◌≡◌, ◌∙◌, ◌+◌, ◌<◌, ℕ, List, Some, ap, arith, length, get_or, map, refl, subst, sym, take}
use Rattle.std.proofs.lemmas.List.{map_push, take_more}
use Rattle.queue_core.specs.declared.step.Step.{Step}
use Rattle.queue_core.specs.Pooled.{Pooled}
use Rattle.queue_core.specs.PoolSteps.{Follows, in_first, stepped}
use Rattle.queue_core.specs.PoolSteps.Follows.{none, more}
use Rattle.queue_core.proofs.linked.Core.replay.Goals as goal

one_more : (steps : List Step) (d : Step) (c m n : Pooled) (done at : ℕ) → done ≡ at → at < length steps
    → Follows (map in_first (take done steps)) c m → stepped m (in_first (get_or steps at d)) ≡ Some n → Follows (map in_first (take (done + 1) steps)) c n
one_more steps d c m n done at same lt so_far due =
    let within : done < length steps = omega arith in
    let here = subst (λ k. stepped m (in_first (get_or steps k d)) ≡ Some n) (sym same) due in
    subst (λ xs. Follows xs c n) (sym (ap (map in_first) (take_more steps done d within) ∙ map_push in_first (take done steps) (get_or steps done d)))
    (more (map in_first (take done steps)) c m n (in_first (get_or steps done d)) so_far here)

pub loop-step-init : goal.loop-step-init
loop-step-init c = (refl, none c.args.self.now)

pub loop-step-preserved : goal.loop-step-preserved
loop-step-preserved c =
    let before = c.loop-step.invariant in
    let next : c.loop-step.done + 1 ≡ c.loop-step.step-index + 1 = omega arith in (
      next,
      one_more c.args.steps.now _ c.args.self.now c.loop-step.self c.step.new.self c.loop-step.done c.loop-step.step-index before.0
          c.loop-step-test.true before.1 (c.in-Moved.ensures.moved refl),
    )
