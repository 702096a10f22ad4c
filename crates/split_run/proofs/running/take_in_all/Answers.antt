use Rattle.std.proofs.Common.{arith, ap, length, refl, subst, sym, ◌+◌, ◌≡◌, ◌∙◌, ℕ}
use Rattle.std.specs.Vec.Iter.{into_iter_items, into_iter_len}
use Rattle.block_draw.specs.Views.{draw_of, drawer_of}
use Rattle.split_run.specs.Divisions.{division_by}
use Rattle.split_run.specs.Running.{AreGivenBack, AreTakenIn, IsWorkBy}
use Rattle.split_run.proofs.RunningLemmas.{drawn_then, ended_there, first_given, next_given, none_taken_in, one_taken_in, rest_given, still_given}
use Rattle.split_run.proofs.running.take_in_all.Goals as goal

pub loop-worker-init : goal.loop-worker-init
loop-worker-init g c =
    let division = division_by c.args.inputs.tis.now c.args.inputs.registry.now in
    let usage = c.args.inputs.usage.now in
    let before = g.B.Mailboxes.gathered c.args.inboxes.now in
    let draw = draw_of c.args.draw.now in
    let gives = c.into_iter-worker-iterator.ensures.into_iter_gives.0 in
    let size = ap length gives in
    let drawers = ap (λ v. v.drawers) c.requires.opened in
    let none = ap (λ v. v.gathered) c.requires.opened in (
      0,
      omega arith,
      first_given (IsWorkBy g.B.Mailboxes.senders division usage draw before) gives (omega (arith, size)) c.requires.worked,
      none_taken_in division usage draw.drawn before,
      refl,
      none,
      drawers ∙ sym size,
      ap (λ v. v.blocks) c.requires.opened,
      λ all. absurd (omega (arith, all, none, drawers, c.requires.some.0)),
    )

pub take_in_worker-requires-clause-ended : goal.take_in_worker-requires-clause-ended
take_in_worker-requires-clause-ended g c κs within =
    let was = c.loop-worker.invariant in
    let division = division_by c.args.inputs.tis.now c.args.inputs.registry.now in
    let usage = c.args.inputs.usage.now in
    let worker = c.in-Some-worker.worker in
    let senders = g.B.Mailboxes.senders worker.senders.items in
    let drawer = drawer_of worker.drawer in
    let before = g.B.Mailboxes.gathered c.args.inboxes.now in
    let now = g.B.Mailboxes.gathered c.loop-worker.inboxes in
    let own =
    next_given (IsWorkBy g.B.Mailboxes.senders division usage (draw_of c.args.draw.now) before) (into_iter_items c.loop-worker.worker-iterator) (into_iter_items c.next.new.self) c.in-Some.worker was.0
    (into_iter_len c.loop-worker.worker-iterator) (into_iter_len c.next.new.self) c.in-Some.ensures.steps.0 c.in-Some.ensures.steps.1 was.2 worker c.in-Some-worker.is in
    let given = still_given division usage (draw_of c.loop-worker.draw).drawn drawer.drawn was.0 was.0 before now senders was.3 own.sent in
    record { some = omega (arith, was.3.count, c.requires.some.1); count = given.count; ended = ended_there division usage was.0 drawer.drawn now senders given; same = own.same.0 ∙ sym was.4; done = own.done }

pub loop-worker-preserved : goal.loop-worker-preserved
loop-worker-preserved g c =
    let was = c.loop-worker.invariant in
    let division = division_by c.args.inputs.tis.now c.args.inputs.registry.now in
    let usage = c.args.inputs.usage.now in
    let worker = c.in-Some-worker.worker in
    let senders = g.B.Mailboxes.senders worker.senders.items in
    let drawer = drawer_of worker.drawer in
    let before = g.B.Mailboxes.gathered c.args.inboxes.now in
    let now = g.B.Mailboxes.gathered c.loop-worker.inboxes in
    let own =
    next_given (IsWorkBy g.B.Mailboxes.senders division usage (draw_of c.args.draw.now) before) (into_iter_items c.loop-worker.worker-iterator) (into_iter_items c.next.new.self) c.in-Some.worker was.0
    (into_iter_len c.loop-worker.worker-iterator) (into_iter_len c.next.new.self) c.in-Some.ensures.steps.0 c.in-Some.ensures.steps.1 was.2 worker c.in-Some-worker.is in
    let given = still_given division usage (draw_of c.loop-worker.draw).drawn drawer.drawn was.0 was.0 before now senders was.3 own.sent in
    let after = g.B.Mailboxes.gathered c.take_in_worker.new.inboxes in
    let draw = draw_of c.loop-worker.draw in
    let draw' = draw_of c.take_in_worker.new.draw in
    let taken = c.take_in_worker.ensures.gathered in
    let then = drawn_then draw draw' drawer was.0 taken own.same.1 in (
      was.0 + 1,
      omega (arith, was.1, c.in-Some.ensures.steps.1),
      rest_given (IsWorkBy g.B.Mailboxes.senders division usage (draw_of c.args.draw.now) before) (into_iter_items c.loop-worker.worker-iterator) (into_iter_items c.next.new.self) c.in-Some.worker was.0
          (into_iter_len c.loop-worker.worker-iterator) (into_iter_len c.next.new.self) c.in-Some.ensures.steps.0 c.in-Some.ensures.steps.1 was.2,
      one_taken_in division usage draw.drawn draw'.drawn was.0 before now after senders then.1 was.3 (subst (λ l. AreGivenBack division usage was.0 l now senders) (sym then.0) given) c.take_in_worker.ensures.count
          c.take_in_worker.ensures.each,
      ap (λ v. v.draw) taken ∙ was.4,
      ap (λ v. v.gathered) taken ∙ ap (λ (n : ℕ). n + 1) was.5,
      ap (λ v. v.drawers) taken ∙ was.6,
      ap (λ v. v.blocks) taken ∙ was.7,
      c.take_in_worker.ensures.whole,
    )

pub returns-clause-taken : goal.returns-clause-taken
returns-clause-taken g c =
    let was = c.loop-worker.invariant in
    let division = division_by c.args.inputs.tis.now c.args.inputs.registry.now in
    let all : was.0 ≡ length c.args.worked.items = omega (arith, was.1, c.in-None.ensures.steps.0, ap length c.into_iter-worker-iterator.ensures.into_iter_gives.0) in
    subst (λ n. AreTakenIn division c.args.inputs.usage.now (draw_of c.loop-worker.draw).drawn n (g.B.Mailboxes.gathered c.args.inboxes.now) (g.B.Mailboxes.gathered c.loop-worker.inboxes)) all was.3
