use Rattle.std.proofs.Common.{arith, ap, length, map, set, vec_items, ◌<◌}
use Rattle.std.specs.Vec.Iter.{into_iter_items}
use Rattle.std.proofs.lemmas.List.{length-map}
use Rattle.split_run.proofs.OpeningLemmas.{given_at, one_given}
use Rattle.split_run.proofs.SeparateLemmas.{next_at, next_below, one_passed}
use Rattle.split_run.proofs.mailboxes.separate.hand_out.Goals as goal

pub loop-sender-preserved : goal.loop-sender-preserved
loop-sender-preserved g c =
    let was = c.loop-sender.invariant in
    let worker = c.loop-sender.worker in
    let lists = c.loop-sender.lists.items in
    let step = c.in-Some.ensures.steps.0 in
    let first = map (λ own. own.items) (vec_items c.args.lists.now) in
    let low : worker < length first = omega (arith, next_below was.0 step, ap length c.into_iter-sender-iterator.ensures.into_iter_gives.0, c.requires, length-map (vec_items c.args.lists.now) (λ own. own.items)) in
    let within : worker < length lists = omega (arith, low, was.1.count, length-map lists (λ own. own.items)) in (
      one_passed was.0 step,
      one_given first (into_iter_items c.into_iter-sender-iterator.result) worker (map (λ own. own.items) lists) (map (λ own. own.items) (set lists worker c.push.new.self)) c.in-Some.sender was.1 low (next_at was.0 step)
          (given_at (λ own. own.items) lists worker c.index_mut.result.now c.push.new.self c.in-Some.sender within c.index_mut.ensures.value c.in_ok-push.ensures.items),
    )
