-- StoreLine, StoreAmount and StoreNull in a pool: a word of the node of an item that is not exchanged in.
use Rattle.std.proofs.Common.{◌≡◌, ◌∙◌, ◌<◌, ◌≢◌, ℕ, List, false, length, ap, sym, refl, subst, arith, get_or-set_other, get_or-set_same}
use Rattle.std.proofs.lemmas.Bool.{and_left}
use Rattle.queue_core.specs.declared.entry.Entry.TheVariants.{Of}
use Rattle.queue_core.specs.declared.item.Item.{Item}
use Rattle.queue_core.specs.declared.words.Node.{Node}
use Rattle.queue_core.specs.declared.sender.Caller.{Caller}
use Rattle.queue_core.specs.declared.sender.SenderPoint.{SenderPoint}
use Rattle.queue_core.specs.declared.sender.SenderPoint.TheVariants as sends
use Rattle.queue_core.specs.declared.step.Step.TheVariants as step
use Rattle.queue_core.specs.Mailbox.{Mailbox, is_among}
use Rattle.queue_core.specs.Events.{Event}
use Rattle.queue_core.specs.StoredWords.{amount_word, empty_node, line_word, null}
use Rattle.queue_core.specs.Links.{IsAtHand, IsFilled, IsOwedBySender, IsSending, is_in_flight, last_of}
use Rattle.queue_core.specs.Box.{HasStored, IsStanding}
use Rattle.queue_core.specs.Pool.{Pool, PoolLeads}
use Rattle.queue_core.specs.Pooled.{IsPooled, Pooled, node_at, node_of, point_in, sender_at, with_node, with_point}
use Rattle.queue_core.specs.PoolShows.{ShowsPool, box_in, links_in, node_in}
use Rattle.queue_core.specs.PoolLaws.{PoolStepShows}
use Rattle.queue_core.proofs.BoxFrame.{fresh_stands}
use Rattle.queue_core.proofs.BoxStore.{store_box}
use Rattle.queue_core.proofs.PooledKept.{field_kept, node_within, sender_within}
use Rattle.queue_core.proofs.PoolFresh.{each_same, fresh_node, point_else, point_other, point_own, senders_same}
use Rattle.queue_core.proofs.PoolKept.{Stays, apart_here, here, holds_in, kept_shows, same_pool}
use Rattle.queue_core.proofs.PoolStepsKeep.{call_in}
use Rattle.queue_core.proofs.StepLemmas.{amount_is, line_is, mapped, null_is}

module _ (c : Pooled) (ok : IsPooled c) (events : List (ℕ × Event)) (q : Pool) (leads : PoolLeads c.ring events q) (shows : ShowsPool c q) (b : ℕ) (low : b < length c.heads) (p : ℕ) (item : Item) (pt : SenderPoint)
    (busy : pt ≢ sends.Rest) (at : point_in c b p ≡ pt) (filled : IsFilled (q.boxes b) p item) (landed : (j : ℕ) → is_in_flight (q.boxes b) (Of p j) ≡ false) where
  abbrev m : Mailbox
  m = q.boxes b

  call : ((sender_at c p).mailbox ≡ b) × ((sender_at c p).point ≡ pt)
  call = call_in c b p pt busy at

  pub sender_low : p < length c.senders
  sender_low = sender_within c ok p (λ rest. busy (sym call.1 ∙ rest))

  abbrev node : ℕ
  node = node_of c b p item

  pub node_is : node ≡ node_in c q b (Of p (last_of m p))
  node_is = fresh_node c ok events q leads shows b p sender_low item filled.0 filled.1 (and_left (is_among (Of p (last_of m p)) m.order) _ filled.2)

  pub stands : IsStanding m (Of p (last_of m p))
  stands = fresh_stands c.ring m (holds_in c ok events q leads shows b low b) p filled.0 filled.2

  module _ (written : Node) (turn : written.turn ≡ (node_at c node).turn) (next_point : SenderPoint) where
    abbrev sender : Caller
    sender = record (sender_at c p) { point = next_point; mailbox = b }

    abbrev table : Pooled
    table = with_node node written c

    abbrev n : Pooled
    n = with_point b p next_point table

    node_low : node < length c.nodes
    node_low = omega (arith, node_within c ok b low p item sender_low)

    word_there : node_at n node ≡ written
    word_there = get_or-set_same c.nodes node written empty_node node_low

    pub word_here : node_at n (node_in c q b (Of p (last_of m p))) ≡ written
    word_here = subst (λ a. node_at n a ≡ written) node_is word_there

    pub words : (a : ℕ) → ¬ (a ≡ node_in c q b (Of p (last_of m p))) → node_at n a ≡ node_at c a
    words a other = get_or-set_other c.nodes node a written empty_node (λ is. other (is ∙ node_is))

    pub stays : Stays c n b
    stays = record {
      ring = refl;
      heads = refl;
      senders = senders_same c b p sender_low sender;
      ended = refl;
      head = λ d other. refl;
      reader = λ d other. refl;
      points = point_else c b p sender_low sender refl call.0;
      held = λ d in_range other a. refl;
      counts = each_same c b p sender_low sender (λ (s : Caller). s.count) refl;
      turns = field_kept c node written node_low (λ z. z.turn) turn;
    }

    -- The sender owes no link at the point that it comes to.
    pub stored_shows : IsSending (here c ok events q leads shows b low n stays (Of p (last_of m p)) stands words q (same_pool q b)).links m p next_point
        → HasStored (here c ok events q leads shows b low n stays (Of p (last_of m p)) stands words q (same_pool q b)) (node_in c q b (Of p (last_of m p))) next_point → ShowsPool n q
    stored_shows sending has =
        kept_shows c ok events q leads shows b low n stays (Of p (last_of m p)) stands words q (same_pool q b)
        (store_box c.ring m (holds_in c ok events q leads shows b low b) (box_in c q b) (shows.boxes b low) (apart_here c ok events q leads shows b low) p filled.0 filled.2
        (λ a. (node_at n a).next) (λ a. (node_at n a).line) (λ a. (node_at n a).amount)
        (λ a other. ap (λ (z : Node). z.next) (words a other)) (λ a other. ap (λ (z : Node). z.line) (words a other)) (λ a other. ap (λ (z : Node). z.amount) (words a other))
        (point_in n b) (point_other c b p sender_low sender refl b) next_point (point_own c b p sender_low sender refl) sending has)

module _ (b p : ℕ) (events : List (ℕ × Event)) (q : Pool) (c : Pooled) (low : b < length c.heads) (ok : IsPooled c) (leads : PoolLeads c.ring events q) (shows : ShowsPool c q) (item : Item) where
  abbrev before : Node
  before = node_at c (node_of c b p item)

  abbrev fresh : ℕ
  fresh = node_in c q b (Of p (last_of (q.boxes b) p))

  -- where the sender is
  at_hand : (pt : SenderPoint) → point_in c b p ≡ pt → IsAtHand (links_in c q b) (q.boxes b) p pt
  at_hand pt at = subst (IsAtHand (links_in c q b) (q.boxes b) p) at ((shows.boxes b low).links.senders p).at_hand

  owed : (pt : SenderPoint) → point_in c b p ≡ pt → IsOwedBySender (links_in c q b) (q.boxes b) p pt
  owed pt at = subst (IsOwedBySender (links_in c q b) (q.boxes b) p) at ((shows.boxes b low).links.senders p).in_flight

  has_stored : (pt : SenderPoint) → pt ≢ sends.Rest → point_in c b p ≡ pt → HasStored (box_in c q b) fresh pt
  has_stored pt busy at =
      let there = sender_within c ok p (λ rest. busy (sym (call_in c b p pt busy at).1 ∙ rest)) in
      subst (HasStored (box_in c q b) fresh) at ((shows.boxes b low).stored p there)

  pub line_stored : point_in c b p ≡ sends.Line item → ShowsPool (with_point b p (sends.Amount item) (with_node (node_of c b p item) (record before { line = line_word item }) c)) q
  line_stored at =
      let busy : sends.Line item ≢ sends.Rest = λ same. cc in
      let filled = at_hand (sends.Line item) at in
      let landed = owed (sends.Line item) at in
      let written = record before { line = line_word item } in
      let there = word_here c ok events q leads shows b low p item (sends.Line item) busy at filled landed written refl (sends.Amount item) in
      stored_shows c ok events q leads shows b low p item (sends.Line item) busy at filled landed written refl (sends.Amount item) record { in_flight = landed; at_hand = filled } (ap (λ (z : Node). z.line) there)

  pub amount_stored : point_in c b p ≡ sends.Amount item → ShowsPool (with_point b p (sends.Null item) (with_node (node_of c b p item) (record before { amount = amount_word item }) c)) q
  amount_stored at =
      let busy : sends.Amount item ≢ sends.Rest = λ same. cc in
      let filled = at_hand (sends.Amount item) at in
      let landed = owed (sends.Amount item) at in
      let written = record before { amount = amount_word item } in
      let there = word_here c ok events q leads shows b low p item (sends.Amount item) busy at filled landed written refl (sends.Null item) in
      let its = node_is c ok events q leads shows b low p item (sends.Amount item) busy at filled landed in
      stored_shows c ok events q leads shows b low p item (sends.Amount item) busy at filled landed written refl (sends.Null item) record { in_flight = landed; at_hand = filled }
      (ap (λ (z : Node). z.line) there ∙ (ap (λ a. (node_at c a).line) its ∙ has_stored (sends.Amount item) busy at), ap (λ (z : Node). z.amount) there)

  pub null_stored : point_in c b p ≡ sends.Null item → ShowsPool (with_point b p (sends.Swap item) (with_node (node_of c b p item) (record before { next = null }) c)) q
  null_stored at =
      let busy : sends.Null item ≢ sends.Rest = λ same. cc in
      let filled = at_hand (sends.Null item) at in
      let landed = owed (sends.Null item) at in
      let written = record before { next = null } in
      let there = word_here c ok events q leads shows b low p item (sends.Null item) busy at filled landed written refl (sends.Swap item) in
      let its = node_is c ok events q leads shows b low p item (sends.Null item) busy at filled landed in
      let has = has_stored (sends.Null item) busy at in
      stored_shows c ok events q leads shows b low p item (sends.Null item) busy at filled landed written refl (sends.Swap item)
      record { in_flight = landed; at_hand = (filled, ap (λ (z : Node). z.next) there) }
      (ap (λ (z : Node). z.line) there ∙ (ap (λ a. (node_at c a).line) its ∙ has.0), ap (λ (z : Node). z.amount) there ∙ (ap (λ a. (node_at c a).amount) its ∙ has.1))

pub pool_store_line : (b p : ℕ) → PoolStepShows b (step.StoreLine p)
pool_store_line b p events q c n low ok leads shows moved =
    let found = mapped _ _ n moved in
    subst (λ n. ShowsPool n q) found.2 (line_stored b p events q c low ok leads shows found.0 (line_is _ found.0 found.1))

pub pool_store_amount : (b p : ℕ) → PoolStepShows b (step.StoreAmount p)
pool_store_amount b p events q c n low ok leads shows moved =
    let found = mapped _ _ n moved in
    subst (λ n. ShowsPool n q) found.2 (amount_stored b p events q c low ok leads shows found.0 (amount_is _ found.0 found.1))

pub pool_store_null : (b p : ℕ) → PoolStepShows b (step.StoreNull p)
pool_store_null b p events q c n low ok leads shows moved =
    let found = mapped _ _ n moved in
    subst (λ n. ShowsPool n q) found.2 (null_stored b p events q c low ok leads shows found.0 (null_is _ found.0 found.1))
