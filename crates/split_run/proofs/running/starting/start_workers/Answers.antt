use Rattle.std.proofs.Common.{arith, rules, below_more, get_or, vec_items, ◌+◌, ◌≡◌}
use Rattle.std.specs.Vec.Iter.{into_iter_items}
use Rattle.split_run.proofs.running.starting.start_workers.Goals as goal

pub loop-job-preserved : goal.loop-job-preserved
loop-job-preserved g c =
    let was = c.loop-job.invariant in
    let done = c.loop-job.number in
    let all = vec_items c.push.new.self in
    let jobs = into_iter_items c.into_iter-job-iterator.result in (
      search rules,
      search rules,
      (λ k d below. let h = was.2 (k + 1) d in grind rules),
      (λ k d below.
          below_more (λ i. (d : _) → ((get_or all i d).promise.tis.value ≡ c.args.inputs.tis.now) × ((get_or all i d).promise.registry.value ≡ c.args.inputs.registry.now) × ((get_or all i d).promise.usage.value ≡ c.args.inputs.usage.now)) done
          (λ i low d. let h = was.3 i d low in grind rules)
          (λ d. let h = c.in_ok-handle.ensures.inputs in grind rules)
          k (grind (arith, rules)) d),
      (λ k d e below.
          below_more (λ i. (d : _) (e : _) → (get_or all i d).promise.worker.value ≡ get_or jobs i e) done
          (λ i low d e. let h = was.4 i d e low in grind rules)
          (λ d e. let h = was.2 0 e in let made = c.in_ok-handle.ensures.worker in grind rules)
          k (grind (arith, rules)) d e),
      grind (arith, rules),
    )

pub returns-clause-workers : goal.returns-clause-workers
returns-clause-workers g c = let was = c.loop-job.invariant in λ number d e below. let h = was.4 number d e (grind (arith, rules)) in grind rules
