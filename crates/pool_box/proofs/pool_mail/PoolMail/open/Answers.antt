use Rattle.std.proofs.Common.{rules, ◌≡◌, ◌∙◌, ◌++◌, ◌∷◌, ◌+◌, ◌<◌, [], ℕ, ap, arith, length, subst, sym}
use Rattle.std.specs.Prelude.{vec_len}
use Rattle.std.proofs.lemmas.Iterator.Adapters.{YieldsList-from_vec}
use Rattle.std.proofs.lemmas.Iterator.Consumers.{YieldsList-end, YieldsList-turn}
use Rattle.std.proofs.lemmas.List.{length_push}
use Rattle.node_table.specs.declared.nodes.NodeSender.{NodeSender}
use Rattle.node_table.specs.declared.seats.SenderSeat.{SenderSeat}
use Rattle.node_table.specs.declared.seats.Shape.{Shape}
use Rattle.node_table.specs.Tells.{new_sender}
use Rattle.node_table.specs.Views.{sender_of as sender_seat, table_of_sender, table_of_tally}
use Rattle.node_table.proofs.SeatLists.{seats_more}
use Rattle.pool_box.specs.declared.pool_mail.PoolSender.{PoolSender}
use Rattle.pool_box.specs.Pools.{opened_sender}
use Rattle.pool_box.specs.PoolViews.{sender_of}
use Rattle.pool_box.proofs.PoolOpened.{sender_opened}
use Rattle.pool_box.proofs.pool_mail.PoolMail.open.Goals as goal

pub loop-sender-init : goal.loop-sender-init
loop-sender-init c = record { count = search rules; opened = λ k below. absurd (omega (arith, below)) }

pub invariant_of-push : goal.invariant_of-push
invariant_of-push c =
    let shape : Shape = record { senders = c.args.senders; mailboxes = c.args.mailboxes; ring = c.args.nodes } in
    let gives = c.into_iter-sender-iterator.ensures.into_iter_gives in
    let long : vec_len c.in_ok-opened.opened ≡ length c.in_ok-opened.opened.items = search rules in
    let t = YieldsList-turn (YieldsList-from_vec {s = c.into_iter-sender-iterator.result} c.in_ok-opened.opened.items gives.0 (gives.1 ∙ long)) c.loop-sender.yielded c.loop-sender.sender-iterator c.loop-sender.yielded_by c.next.result c.next.new.self c.in-Some.sender c.in-Some.is c.next.ensures.steps in
    let number : ℕ = length c.loop-sender.yielded in
    let new : sender_seat c.in-Some.sender ≡ new_sender shape number =
    subst (λ (s : NodeSender). sender_seat s ≡ new_sender shape number) (sym t.1) (c.in_ok-opened.ensures.senders number (omega (arith, t.0, long, c.in_ok-opened.ensures.senders_count)) c.in-Some.sender).1 in
    let count : (sender_seat c.in-Some.sender).caller.count ≡ 0 = ap (λ (v : SenderSeat). v.caller.count) new in record {
      few = omega (arith, count, c.requires.most);
      flags = rw new (search rules);
    }

pub loop-sender-preserved : goal.loop-sender-preserved
loop-sender-preserved c =
    let shape : Shape = record { senders = c.args.senders; mailboxes = c.args.mailboxes; ring = c.args.nodes } in
    let gives = c.into_iter-sender-iterator.ensures.into_iter_gives in
    let long : vec_len c.in_ok-opened.opened ≡ length c.in_ok-opened.opened.items = search rules in
    let t = YieldsList-turn (YieldsList-from_vec {s = c.into_iter-sender-iterator.result} c.in_ok-opened.opened.items gives.0 (gives.1 ∙ long)) c.loop-sender.yielded c.loop-sender.sender-iterator c.loop-sender.yielded_by c.next.result c.next.new.self c.in-Some.sender c.in-Some.is c.next.ensures.steps in
    let number : ℕ = length c.loop-sender.yielded in
    let its = subst (λ (s : NodeSender). (table_of_sender s ≡ table_of_tally c.in_ok-opened.tally) × (sender_seat s ≡ new_sender shape number)) (sym t.1)
    (c.in_ok-opened.ensures.senders number (omega (arith, t.0, long, c.in_ok-opened.ensures.senders_count)) c.in-Some.sender) in
    let more : length (c.loop-sender.yielded ++ c.in-Some.sender ∷ []) ≡ number + 1 = length_push c.loop-sender.yielded c.in-Some.sender in
    let was = c.loop-sender.invariant in record {
      count = search rules;
      opened = λ k below. seats_more (λ k (s : PoolSender). sender_of s ≡ opened_sender (table_of_tally c.in_ok-opened.tally) c.args.mailboxes k c.args.nodes c.args.most) number _ _ _ c.in_ok-push.ensures.items (grind rules) was.opened
          (sender_opened c.in-Some.sender (table_of_tally c.in_ok-opened.tally) shape number c.args.most its.0 its.1) k (subst (λ (n : ℕ). k < n) more below);
    }

pub returns-clause-count : goal.returns-clause-count
returns-clause-count c =
    let gives = c.into_iter-sender-iterator.ensures.into_iter_gives in
    let long : vec_len c.in_ok-opened.opened ≡ length c.in_ok-opened.opened.items = search rules in
    let t = YieldsList-end (YieldsList-from_vec {s = c.into_iter-sender-iterator.result} c.in_ok-opened.opened.items gives.0 (gives.1 ∙ long)) c.loop-sender.yielded c.loop-sender.sender-iterator c.loop-sender.yielded_by c.next.result c.next.new.self c.in-None.is c.next.ensures.steps in
    (c.loop-sender.invariant.count ∙ (t.1 ∙ (sym long ∙ c.in_ok-opened.ensures.senders_count)), c.in_ok-opened.ensures.receivers_count)

pub returns-clause-senders : goal.returns-clause-senders
returns-clause-senders c =
    let gives = c.into_iter-sender-iterator.ensures.into_iter_gives in
    let long : vec_len c.in_ok-opened.opened ≡ length c.in_ok-opened.opened.items = search rules in
    let t = YieldsList-end (YieldsList-from_vec {s = c.into_iter-sender-iterator.result} c.in_ok-opened.opened.items gives.0 (gives.1 ∙ long)) c.loop-sender.yielded c.loop-sender.sender-iterator c.loop-sender.yielded_by c.next.result c.next.new.self c.in-None.is c.next.ensures.steps in
    λ i low. c.loop-sender.invariant.opened i (omega (arith, low, t.1, long, c.in_ok-opened.ensures.senders_count))
