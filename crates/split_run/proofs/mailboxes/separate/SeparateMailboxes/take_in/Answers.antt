use Rattle.std.proofs.Common.{arith, length, vec_items, ◌≡◌}
use Rattle.std.specs.Vec.Iter.{into_iter_items}
use Rattle.split_run.proofs.SeparateLemmas.{all_taken_in, is_next, its_end, its_mailbox, next_there, one_passed, one_taken_in}
use Rattle.split_run.proofs.mailboxes.separate.SeparateMailboxes.take_in.Goals as goal

pub unreachable-requires : goal.unreachable-requires
unreachable-requires g c =
    next_there g.M.Mail.sender g.M.Mail.receiver
    (is_next g.M.Mail.sender g.M.Mail.receiver (vec_items c.args.all.now) c.loop-sender.all.items c.index_mut.result.now c.into_iter-sender-iterator.ensures.into_iter_gives.0 c.requires.count c.requires.ended c.loop-sender.invariant.0 c.in-Some.ensures.steps.0 c.loop-sender.invariant.1 c.index_mut.ensures.value)
    c.in_default.is

pub take_in-requires-clause-mailbox : goal.take_in-requires-clause-mailbox
take_in-requires-clause-mailbox g c =
    its_mailbox g.M.Mail.sender g.M.Mail.receiver
    (is_next g.M.Mail.sender g.M.Mail.receiver (vec_items c.args.all.now) c.loop-sender.all.items c.index_mut.result.now c.into_iter-sender-iterator.ensures.into_iter_gives.0 c.requires.count c.requires.ended c.loop-sender.invariant.0 c.in-Some.ensures.steps.0 c.loop-sender.invariant.1 c.index_mut.ensures.value)
    c.in-Some-index_mut.receiver c.in-Some-index_mut.is

pub take_in-requires-clause-ended : goal.take_in-requires-clause-ended
take_in-requires-clause-ended g c =
    its_end g.M.Mail.sender g.M.Mail.receiver
    (is_next g.M.Mail.sender g.M.Mail.receiver (vec_items c.args.all.now) c.loop-sender.all.items c.index_mut.result.now c.into_iter-sender-iterator.ensures.into_iter_gives.0 c.requires.count c.requires.ended c.loop-sender.invariant.0 c.in-Some.ensures.steps.0 c.loop-sender.invariant.1 c.index_mut.ensures.value)
    c.in-Some-index_mut.receiver c.in-Some-index_mut.is

pub loop-sender-preserved : goal.loop-sender-preserved
loop-sender-preserved g c = (
  one_passed c.loop-sender.invariant.0 c.in-Some.ensures.steps.0,
  one_taken_in g.M.Mail.sender g.M.Mail.receiver
      (is_next g.M.Mail.sender g.M.Mail.receiver (vec_items c.args.all.now) c.loop-sender.all.items c.index_mut.result.now c.into_iter-sender-iterator.ensures.into_iter_gives.0 c.requires.count c.requires.ended c.loop-sender.invariant.0 c.in-Some.ensures.steps.0 c.loop-sender.invariant.1 c.index_mut.ensures.value)
      c.in-Some-index_mut.receiver c.in-Some-index_mut.is c.take_in.new.r c.take_in.ensures.known c.take_in.ensures.begins,
)

pub returns-clause-each : goal.returns-clause-each
returns-clause-each g c =
    let none : length (into_iter_items c.loop-sender.sender-iterator) ≡ 0 = omega (arith, c.in-None.ensures.steps.0, c.loop-sender.sender-iterator.rest.ok.0) in
    all_taken_in g.M.Mail.sender g.M.Mail.receiver (vec_items c.args.all.now) c.loop-sender.all.items (into_iter_items c.into_iter-sender-iterator.result) c.args.own.items (into_iter_items c.loop-sender.sender-iterator) c.loop-sender.account
    c.into_iter-sender-iterator.ensures.into_iter_gives.0 c.requires.count c.loop-sender.invariant.0 none c.loop-sender.invariant.1
