-- SwapHead in a pool: the exchange of its mailbox.
use Rattle.std.proofs.Common.{◌≡◌, ◌∙◌, ◌<◌, ◌-◌, ◌≢◌, ℕ, List, length, ap, sym, refl, subst, get_or-set_other, get_or-set_same}
use Rattle.std.proofs.lemmas.Bool.{and_left}
use Rattle.std.proofs.lemmas.List.{length-set}
use Rattle.queue_core.specs.declared.entry.Entry.TheVariants.{Of, Stub}
use Rattle.queue_core.specs.declared.item.Item.{Item}
use Rattle.queue_core.specs.declared.sender.Caller.{Caller}
use Rattle.queue_core.specs.declared.sender.SenderPoint.{SenderPoint}
use Rattle.queue_core.specs.declared.sender.SenderPoint.TheVariants as sends
use Rattle.queue_core.specs.declared.step.Step.TheVariants as step
use Rattle.queue_core.specs.Mailbox.{Mailbox, is_among}
use Rattle.queue_core.specs.Events.{Event, MayExchange, after}
use Rattle.queue_core.specs.Events.Event.{Exchange}
use Rattle.queue_core.specs.StoredWords.{link_to}
use Rattle.queue_core.specs.Links.{IsAtHand, last_of}
use Rattle.queue_core.specs.Box.{ShowsBox}
use Rattle.queue_core.specs.Pool.{Pool, PoolLeads, after_in}
use Rattle.queue_core.specs.Pooled.{IsPooled, Pooled, head_in, node_of, point_in, sender_at, with_head, with_point}
use Rattle.queue_core.specs.PoolShows.{ShowsPool, box_in, links_in, node_in}
use Rattle.queue_core.specs.PoolLaws.{PoolStepShows}
use Rattle.queue_core.proofs.BoxSwap.{may, swap_box, swapped}
use Rattle.queue_core.proofs.EventsKeep.{not_left}
use Rattle.queue_core.proofs.ExchangeLemmas.{same_linked}
use Rattle.queue_core.proofs.MailboxHolds.{Holds}
use Rattle.queue_core.proofs.PooledKept.{sender_within}
use Rattle.queue_core.proofs.PoolFresh.{each_same, fresh_node, point_else, point_other, point_own, senders_same}
use Rattle.queue_core.proofs.PoolKept.{Stays, apart_here, event_same, here, holds_in, kept_shows}
use Rattle.queue_core.proofs.PoolPosts.{box_own}
use Rattle.queue_core.proofs.PoolStepsKeep.{call_in}
use Rattle.queue_core.proofs.StepLemmas.{mapped, swap_is}

module _ (c : Pooled) (ok : IsPooled c) (events : List (ℕ × Event)) (q : Pool) (leads : PoolLeads c.ring events q) (shows : ShowsPool c q) (b p : ℕ) (low : b < length c.heads) (item : Item) (at : point_in c b p ≡ sends.Swap item) where
  abbrev m : Mailbox
  m = q.boxes b

  abbrev pt : SenderPoint
  pt = sends.Link item (head_in c b - 1)

  abbrev sender : Caller
  sender = record (sender_at c p) { point = pt; mailbox = b }

  abbrev n : Pooled
  n = with_head b (link_to (node_of c b p item)) (with_point b p pt c)

  busy : sends.Swap item ≢ sends.Rest
  busy same = cc

  call : ((sender_at c p).mailbox ≡ b) × ((sender_at c p).point ≡ sends.Swap item)
  call = call_in c b p (sends.Swap item) busy at

  sender_low : p < length c.senders
  sender_low = sender_within c ok p (λ rest. busy (sym call.1 ∙ rest))

  holds : Holds c.ring m
  holds = holds_in c ok events q leads shows b low b

  at_hand : IsAtHand (links_in c q b) m p (sends.Swap item)
  at_hand = subst (IsAtHand (links_in c q b) m p) at ((shows.boxes b low).links.senders p).at_hand

  node_is : node_of c b p item ≡ node_in c q b (Of p (last_of m p))
  node_is = fresh_node c ok events q leads shows b p sender_low item at_hand.0.0 at_hand.0.1 (and_left (is_among (Of p (last_of m p)) m.order) _ at_hand.0.2)

  allowed : MayExchange m p
  allowed =
      may c.ring m holds (box_in c q b) (shows.boxes b low) (apart_here c ok events q leads shows b low) p item at (point_in n b) (point_own c b p sender_low sender refl)
      (point_other c b p sender_low sender refl b)

  stays : Stays c n b
  stays = record {
    ring = refl;
    heads = length-set c.heads b (link_to (node_of c b p item));
    senders = senders_same c b p sender_low sender;
    ended = refl;
    head = λ d other. get_or-set_other c.heads b d (link_to (node_of c b p item)) 0 other;
    reader = λ d other. refl;
    points = point_else c b p sender_low sender refl call.0;
    held = λ d in_range other a. refl;
    counts = each_same c b p sender_low sender (λ (s : Caller). s.count) refl;
    turns = λ a. refl;
  }

  swap_shows : ShowsPool n (after_in b (Exchange p) q)
  swap_shows =
      let x = box_in c q b in
      let apart = apart_here c ok events q leads shows b low in
      let own = point_own c b p sender_low sender refl in
      let others = point_other c b p sender_low sender refl b in
      let q' = after_in b (Exchange p) q in
      let new = not_left c.ring m holds p allowed in
      let same = event_same q b (Exchange p) refl refl (same_linked c.ring m holds (Of p (last_of m p)) new (λ q j same. allowed.new)) refl in
      let head : head_in n b ≡ link_to (node_in c q b (Of p (last_of m p))) = get_or-set_same c.heads b (link_to (node_of c b p item)) 0 low ∙ ap link_to node_is in
      let box = swap_box c.ring m holds x (shows.boxes b low) apart p item at (point_in n b) own others sender_low in
      let is : swapped c.ring m holds x (shows.boxes b low) apart p item at (point_in n b) own others ≡ here c ok events q leads shows b low n stays Stub tt (λ a other. refl) q' same =
      λ t. record x { links = record (links_in c q b) { head = sym head t; points = point_in n b } } in
      kept_shows c ok events q leads shows b low n stays Stub tt (λ a other. refl) q' same
      (subst (ShowsBox (here c ok events q leads shows b low n stays Stub tt (λ a other. refl) q' same)) (sym (box_own q b (Exchange p))) (subst (λ y. ShowsBox y (after (Exchange p) m)) is box))

pub pool_swap : (b p : ℕ) → PoolStepShows b (step.SwapHead p)
pool_swap b p events q c n low ok leads shows moved =
    let found = mapped _ _ n moved in
    let at = swap_is _ found.0 found.1 in
    (allowed c ok events q leads shows b p low found.0 at, subst (λ n. ShowsPool n (after_in b (Exchange p) q)) found.2 (swap_shows c ok events q leads shows b p low found.0 at))
