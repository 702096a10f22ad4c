use Rattle.std.proofs.Common.{rules, ◌≡◌, ◌∙◌, ◌++◌, ◌∷◌, ◌+◌, ◌<◌, [], ℕ, ap, arith, false, get_or, length, subst, sym}
use Rattle.std.specs.Prelude.{vec_len}
use Rattle.std.proofs.lemmas.Iterator.Adapters.{YieldsList-from_vec}
use Rattle.std.proofs.lemmas.Iterator.Consumers.{YieldsList-end, YieldsList-turn}
use Rattle.std.proofs.lemmas.List.{length_push}
use Rattle.node_table.specs.declared.nodes.NodeSender.{NodeSender}
use Rattle.node_table.specs.declared.seats.SenderSeat.{SenderSeat}
use Rattle.node_table.specs.declared.seats.Shape.{Shape}
use Rattle.node_table.specs.Seats.{items_in}
use Rattle.node_table.specs.Tells.{new_sender}
use Rattle.node_table.specs.Views.{Name, sender_of as sender_seat, table_of_receiver, table_of_sender, table_of_tally}
use Rattle.node_table.proofs.SeatLists.{seats_more}
use Rattle.mail_box.specs.declared.link_mail.LinkSender.{LinkSender}
use Rattle.mail_box.specs.Mails.{opened_sender}
use Rattle.mail_box.specs.LinkViews.{sender_of, sender_with}
use Rattle.mail_box.proofs.link_mail.LinkMail.open.Goals as goal

-- a sender of a mailbox that was just opened
sender_opened : (s : NodeSender) (mailbox : Name) (shape : Shape) (number most : ℕ) → table_of_sender s ≡ mailbox → sender_seat s ≡ new_sender shape number → sender_with s most false ≡ opened_sender mailbox number shape.ring most
sender_opened s mailbox shape number most table new =
    λ i. record { mailbox = table i; number = (new i).number; nodes = (new i).shape.ring; left = most; is_ended = false; sent = items_in 0 (new i).filled }

pub invariant_of-push : goal.invariant_of-push
invariant_of-push c =
    let shape : Shape = record { senders = c.args.senders; mailboxes = 1; ring = c.args.nodes } in
    let gives = c.into_iter-sender-iterator.ensures.into_iter_gives in
    let long : vec_len c.in_ok-opened.opened ≡ length c.in_ok-opened.opened.items = search rules in
    let t = YieldsList-turn (YieldsList-from_vec {s = c.into_iter-sender-iterator.result} c.in_ok-opened.opened.items gives.0 (gives.1 ∙ long)) c.loop-sender.yielded c.loop-sender.sender-iterator c.loop-sender.yielded_by c.next.result c.next.new.self c.in-Some.sender c.in-Some.is c.next.ensures.steps in
    let number : ℕ = length c.loop-sender.yielded in
    let new : sender_seat c.in-Some.sender ≡ new_sender shape number =
    subst (λ (s : NodeSender). sender_seat s ≡ new_sender shape number) (sym t.1) (c.in_ok-opened.ensures.senders number (omega (arith, t.0, long, c.in_ok-opened.ensures.senders_count)) c.in-Some.sender).1 in
    let count : (sender_seat c.in-Some.sender).caller.count ≡ 0 = ap (λ (v : SenderSeat). v.caller.count) new in record {
      one = ap (λ (v : SenderSeat). v.shape.mailboxes) new;
      few = omega (arith, count, c.requires.most);
      sent = omega (arith, count);
      flag = (ap (λ (v : SenderSeat). length v.ended) new, ap (λ (v : SenderSeat). get_or v.ended 0 false) new);
    }

pub loop-sender-preserved : goal.loop-sender-preserved
loop-sender-preserved c =
    let shape : Shape = record { senders = c.args.senders; mailboxes = 1; ring = c.args.nodes } in
    let gives = c.into_iter-sender-iterator.ensures.into_iter_gives in
    let long : vec_len c.in_ok-opened.opened ≡ length c.in_ok-opened.opened.items = search rules in
    let t = YieldsList-turn (YieldsList-from_vec {s = c.into_iter-sender-iterator.result} c.in_ok-opened.opened.items gives.0 (gives.1 ∙ long)) c.loop-sender.yielded c.loop-sender.sender-iterator c.loop-sender.yielded_by c.next.result c.next.new.self c.in-Some.sender c.in-Some.is c.next.ensures.steps in
    let number : ℕ = length c.loop-sender.yielded in
    let its = subst (λ (s : NodeSender). (table_of_sender s ≡ table_of_tally c.in_ok-opened.tally) × (sender_seat s ≡ new_sender shape number)) (sym t.1)
    (c.in_ok-opened.ensures.senders number (omega (arith, t.0, long, c.in_ok-opened.ensures.senders_count)) c.in-Some.sender) in
    let more : length (c.loop-sender.yielded ++ c.in-Some.sender ∷ []) ≡ number + 1 = length_push c.loop-sender.yielded c.in-Some.sender in
    let was = c.loop-sender.invariant in record {
      count = search rules;
      opened = λ k below. seats_more (λ k (s : LinkSender). sender_of s ≡ opened_sender (table_of_tally c.in_ok-opened.tally) k c.args.nodes c.args.most) number _ _ _ c.in_ok-push.ensures.items (grind rules) was.opened
          (sender_opened c.in-Some.sender (table_of_tally c.in_ok-opened.tally) shape number c.args.most its.0 its.1) k (subst (λ (n : ℕ). k < n) more below);
    }

pub returns-clause-senders : goal.returns-clause-senders
returns-clause-senders c =
    let gives = c.into_iter-sender-iterator.ensures.into_iter_gives in
    let long : vec_len c.in_ok-opened.opened ≡ length c.in_ok-opened.opened.items = search rules in
    let t = YieldsList-end (YieldsList-from_vec {s = c.into_iter-sender-iterator.result} c.in_ok-opened.opened.items gives.0 (gives.1 ∙ long)) c.loop-sender.yielded c.loop-sender.sender-iterator c.loop-sender.yielded_by c.next.result c.next.new.self c.in-None.is c.next.ensures.steps in
    let one : table_of_receiver c.swap_remove-receiver.result ≡ table_of_tally c.in_ok-opened.tally =
    ap table_of_receiver c.swap_remove-receiver.ensures.value ∙ (c.in_ok-opened.ensures.receivers 0 (omega arith) c.swap_remove-receiver.result).0 in
    λ i low d. c.loop-sender.invariant.opened i (omega (arith, low, t.1, long, c.in_ok-opened.ensures.senders_count)) d ∙ ap (λ (n : Name). opened_sender n i c.args.nodes c.args.most) (sym one)
