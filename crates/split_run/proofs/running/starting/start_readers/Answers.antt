use Rattle.std.proofs.Common.{ap, arith, rules, below_more, get_or, sym, vec_items, vec_len, ℕ, ◌+◌, ◌≡◌, ◌∙◌}
use Rattle.std.specs.Vec.Iter.{into_iter_items}
use Rattle.split_run.proofs.OpeningLemmas.{at_next}
use Rattle.split_run.proofs.running.starting.start_readers.Goals as goal

pub loop-reader-preserved : goal.loop-reader-preserved
loop-reader-preserved g c =
    let was = c.loop-reader.invariant in
    let done = vec_len c.loop-reader.started in
    let all = vec_items c.push.new.self in
    let count : done + 1 ≡ vec_len c.push.new.self = grind (arith, rules) in (
      search rules,
      (λ k d below.
          let place : done + (k + 1) ≡ vec_len c.push.new.self + k = omega (arith, count) in
          sym (ap (λ l. get_or l (k + 1) d) c.in-Some.ensures.steps.0 ∙ at_next c.in-Some.reader (into_iter_items c.next.new.self) k d) ∙ was.1 (k + 1) d (omega (arith, below, c.in-Some.ensures.steps.1)) ∙ ap (λ (n : ℕ). get_or (into_iter_items c.into_iter-reader-iterator.result) n d) place),
      (λ k d e below.
          below_more (λ i. (d : _) (e : _) → (get_or all i d).promise.reader.value ≡ get_or (into_iter_items c.into_iter-reader-iterator.result) i e) done
          (λ i low d e. let h = was.2 i d e low in grind rules)
          (λ d e. let h = was.1 0 e in grind rules)
          k (grind (arith, rules)) d e),
      grind (arith, rules),
    )
