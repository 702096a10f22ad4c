-- What a step of a sender has to show, so that the rule of a table of nodes is kept.
use Rattle.std.proofs.Common.{◌≡◌, ◌∙◌, ◌<◌, ◌+◌, ◌*◌, ◌%◌, ◌∷◌, [], ℕ, Bool, List, Option, None, Some, true, false, length, set, ap, sym, refl, subst, inl, inr, arith, get_or-set_other}
use Rattle.std.specs.Prelude.{◌==◌, All, slice_index_or}
use Rattle.std.specs.List.{filter_map}
use Rattle.std.proofs.lemmas.Bool.{cases_Bool, cases_eq, eqb-true, ne_eqb}
use Rattle.std.proofs.lemmas.List.{length-set}
use Rattle.std.proofs.lemmas.List.Elements.{All-cons, All-head, All-nil, All-tail, All-weaker}
use mathlib.Core.Option.{Option as Slot, some}
use lib.ListN.{get_elem?}
use Rattle.atomic_table.specs.Table.{State}
use Rattle.atomic_table.proofs.Lists.{at_set}
use Rattle.queue_core.specs.declared.entry.Entry.{Entry}
use Rattle.queue_core.specs.declared.entry.Entry.TheVariants.{Of, Stub}
use Rattle.queue_core.specs.declared.item.Item.{Item}
use Rattle.queue_core.specs.declared.item.Item.TheVariants.{Post, End}
use Rattle.queue_core.specs.declared.reader.ReaderPoint.TheVariants as reads
use Rattle.queue_core.specs.declared.sender.Caller.{Caller}
use Rattle.queue_core.specs.declared.step.Step.{Step}
use Rattle.queue_core.specs.Items.{is_end}
use Rattle.queue_core.specs.Mailbox.{IsHeld, Mailbox, got, is_among, item_at, passed_entries, received_at}
use Rattle.queue_core.specs.Events.{Event, MayExchange, MayFill, after}
use Rattle.queue_core.specs.Events.Event.{Exchange, Fill, Link}
use Rattle.queue_core.specs.Pool.{MayFillIn, Pool, PoolLeads, after_in, events_in, post_at}
use Rattle.queue_core.specs.Pooled.{Pooled, first_node, has_ended_in, reader_in, sender_at}
use Rattle.queue_core.specs.PoolShows.{number_in, place_of}
use Rattle.queue_core.specs.PoolSteps.{stepped_in}
use Rattle.queue_core.specs.PoolLaws.{ShowsAfterIn, event_in}
use Rattle.queue_core.proofs.Entries.{among_first, same_received}
use Rattle.queue_core.proofs.EventsKeep.{holds_after, not_left, same_passed, other_items}
use Rattle.queue_core.proofs.FillLemmas.{item_placed}
use Rattle.queue_core.proofs.MailboxHolds.{Holds, item_within}
use Rattle.queue_core.proofs.PoolNodes.{number_is, place_end, place_post}
use Rattle.queue_core.proofs.PoolPosts.{PostsHold, at_old, box_leads, each_box, fill_alone, long, posts_after, posts_event}
use Rattle.queue_core.proofs.PoolRuns.{step_shows_in}
use Rattle.queue_core.proofs.PoolStepsKeep.{keeps_step_in}
use Rattle.node_table.specs.declared.seats.Holding.{Holding}
use Rattle.node_table.specs.declared.seats.Known.{Known}
use Rattle.node_table.specs.declared.seats.Known.TheVariants.{Dealt, Sends, Receives, Holds as HoldsOne, Tallies, Gone}
use Rattle.node_table.specs.declared.seats.Posting.{Posting}
use Rattle.node_table.specs.declared.seats.SenderSeat.{SenderSeat}
use Rattle.node_table.specs.declared.seats.Shape.{Shape}
use Rattle.node_table.specs.Rule.{AreWords, IsNodeMail, KeepsAs, KeepsNodes, KeepsOn, events_after, later_in}
use Rattle.queue_core.specs.Items.{IsInRange}
use Rattle.node_table.specs.Seats.{Owned, Has, HasShape, KnowsMailbox, IsHolding, IsNew, IsPartIn, IsSeat, IsSenderSeat, IsTakenIn, items_in, known_in, sender_part}
use Rattle.node_table.specs.Seats.Owned.{Part, Node}
use Rattle.node_table.proofs.AfterEvent.{on_event, told_leads, told_shows}
use Rattle.node_table.proofs.Owned.{apart_still, other_has_not}
use Rattle.node_table.specs.declared.seats.ReceiverSeat.{ReceiverSeat}
use Rattle.node_table.specs.Layout.{slot_of}

-- ---- what a sender's step leaves as it was

-- of the core
pub record CoreButSender (c n : Pooled) (p : ℕ) : Type 0 where
  pub ring : n.ring ≡ c.ring
  pub most : n.most ≡ c.most
  pub heads : length n.heads ≡ length c.heads
  pub senders : length n.senders ≡ length c.senders
  pub callers : (r : ℕ) → ¬ (r ≡ p) → sender_at n r ≡ sender_at c r
  pub ended : (b r : ℕ) → b < length c.heads → ¬ (r ≡ p) → has_ended_in n b r ≡ has_ended_in c b r
  pub readers : (b : ℕ) → reader_in n b ≡ reader_in c b

-- where the sender does not end
pub core_but : (c n : Pooled) (p : ℕ) (caller : Caller) → n.ring ≡ c.ring → n.most ≡ c.most → length n.heads ≡ length c.heads → n.senders ≡ set c.senders p caller → n.ended ≡ c.ended → n.readers ≡ c.readers → CoreButSender c n p
core_but c n p caller ring most heads senders ended readers = record {
  ring = ring;
  most = most;
  heads = heads;
  senders = ap (λ (xs : List Caller). length xs) senders ∙ length-set c.senders p caller;
  callers = λ r other. ap (λ xs. sender_at (record c { senders = xs }) r) senders ∙ get_or-set_other c.senders p r caller _ other;
  ended = λ b r low other. λ i. slice_index_or (ended i) (r * heads i + b) true;
  readers = λ b. ap (λ xs. reader_in (record c { readers = xs }) b) readers;
}

-- where nothing changes
pub core_still : (c : Pooled) (p : ℕ) → CoreButSender c c p
core_still c p = record { ring = refl; most = refl; heads = refl; senders = refl; callers = λ r other. refl; ended = λ b r low other. refl; readers = λ b. refl }

-- of a mailbox
pub record BoxButSender (m m' : Mailbox) (p : ℕ) : Type 0 where
  pub items : (r : ℕ) → ¬ (r ≡ p) → m'.items r ≡ m.items r
  pub passed : passed_entries m' ≡ passed_entries m
  pub given : m'.given ≡ m.given
  pub got : got m' ≡ got m
  pub held : (r k : ℕ) → IsHeld m r k → item_at m' r k ≡ item_at m r k

-- What was received stays what it was where a sender fills an item.
got_filled : (ring : ℕ) (m : Mailbox) (holds : Holds ring m) (p : ℕ) (item : Item) (may : MayFill ring m p item) → got (after (Fill p item) m) ≡ got m
got_filled ring m holds p item may = same_received (received_at (after (Fill p item) m)) (received_at m) (passed_entries m) same
  where
    same : (e : Entry) → is_among e (passed_entries m) ≡ true → received_at (after (Fill p item) m) e ≡ received_at m e
    same (Of r j) passed = ap (λ i. Some (r, i)) (item_placed ring m holds p item may r j (among_first (Of r j) m.passed m.order passed))
    same Stub passed = refl

module _ (m : Mailbox) (p : ℕ) where
  -- where nothing happens, where its item is linked, where it is exchanged in, and where one is filled
  box_still : BoxButSender m m p
  box_still = record { items = λ r other. refl; passed = refl; given = refl; got = refl; held = λ r k held. refl }

  pub box_linked : BoxButSender m (after (Link p) m) p
  box_linked = record { items = λ r other. refl; passed = refl; given = refl; got = refl; held = λ r k held. refl }

  module _ (ring : ℕ) (holds : Holds ring m) where
    pub box_exchanged : MayExchange m p → BoxButSender m (after (Exchange p) m) p
    box_exchanged may =
        let same : passed_entries (after (Exchange p) m) ≡ passed_entries m = same_passed ring m holds _ (not_left ring m holds p may) in
        record { items = λ r other. refl; passed = same; given = refl; got = ap (filter_map (received_at m)) same; held = λ r k held. refl }

    box_filled : (item : Item) → MayFill ring m p item → BoxButSender m (after (Fill p item) m) p
    box_filled item may = record {
      items = other_items ring m holds p item may;
      passed = refl;
      given = refl;
      got = got_filled ring m holds p item may;
      held = λ r k held. item_placed ring m holds p item may r k (among_first (Of r k) m.passed m.order held.passed);
    }

-- of the pool: each mailbox, and the place of what is held in it
pub record PoolButSender (ring : ℕ) (q q' : Pool) (p : ℕ) : Type 0 where
  pub boxes : (b : ℕ) → BoxButSender (q.boxes b) (q'.boxes b) p
  pub places : (b r k : ℕ) → IsHeld (q.boxes b) r k → place_of ring (q'.posts r) b (item_at (q.boxes b) r k) k ≡ place_of ring (q.posts r) b (item_at (q.boxes b) r k) k

-- where nothing happens
pub pool_still : (ring : ℕ) (q : Pool) (p : ℕ) → PoolButSender ring q q p
pool_still ring q p = record { boxes = λ b. box_still (q.boxes b) p; places = λ b r k held. refl }

-- where no post is filled
pub pool_but : (ring : ℕ) (q : Pool) (b p : ℕ) (event : Event) → BoxButSender (q.boxes b) (after event (q.boxes b)) p → (after_in b event q).posts ≡ q.posts → PoolButSender ring q (after_in b event q) p
pool_but ring q b p event own posts = record {
  boxes = each_box q b event (λ d m. BoxButSender (q.boxes d) m p) own (λ d. box_still (q.boxes d) p);
  places = λ d r k held. ap (λ xs. place_of ring (xs r) d (item_at (q.boxes d) r k) k) posts;
}

-- ---- where a sender fills an item, what was there keeps its place

module _ (ring : ℕ) (some_nodes : 0 < ring) (q : Pool) (b p : ℕ) where
  -- the posts of the others, and those of its own that were there
  other_posts : (item : Item) (r : ℕ) → ¬ (r ≡ p) → (after_in b (Fill p item) q).posts r ≡ q.posts r
  other_posts (Post line amount) r other = rw (ne_eqb r p other) refl
  other_posts End r other = refl

  module _ (h : PostsHold ring q p) where
    old_posts : (item : Item) → MayFillIn ring q b p item → (j : ℕ) → j < length (q.posts p) → (j < length ((after_in b (Fill p item) q).posts p)) × (post_at (after_in b (Fill p item) q) p j ≡ post_at q p j)
    old_posts (Post line amount) may j low = (omega (arith, low, long ring some_nodes q b p line amount may h), at_old ring some_nodes q b p line amount may h j low)
    old_posts End may j low = (low, refl)

    module _ (item : Item) (may : MayFillIn ring q b p item) where
      abbrev q' : Pool
      q' = after_in b (Fill p item) q

      -- a post that was there keeps its number
      number_old : (d k : ℕ) → k < length ((q.boxes d).items p) → is_end (item_at (q.boxes d) p k) ≡ false → number_in d k (q'.posts p) ≡ number_in d k (q.posts p)
      number_old d k within post =
          let found = h.numbered d k within post in
          let kept = old_posts item may found.0 found.1 in
          number_is ring q' p (posts_event ring some_nodes q b p (Fill p item) may h) d k found.0 kept.0 (kept.1 ∙ found.2)
          ∙ sym (number_is ring q p h d k found.0 found.1 found.2)

      -- so it keeps its place, and so does an end mark
      own_place : (d k : ℕ) → k < length ((q.boxes d).items p) → place_of ring (q'.posts p) d (item_at (q.boxes d) p k) k ≡ place_of ring (q.posts p) d (item_at (q.boxes d) p k) k
      own_place d k within =
          let it = item_at (q.boxes d) p k in
          elim (cases_Bool (is_end it)) [
            | inl ended ↦ place_end ring (q'.posts p) d it k ended ∙ sym (place_end ring (q.posts p) d it k ended)
            | inr post ↦ place_post ring (q'.posts p) d it k post ∙ (ap (λ (j : ℕ). j % ring) (number_old d k within post) ∙ sym (place_post ring (q.posts p) d it k post))
          ]

      -- and so do those of others
      place_old : (d r k : ℕ) → k < length ((q.boxes d).items r) → place_of ring (q'.posts r) d (item_at (q.boxes d) r k) k ≡ place_of ring (q.posts r) d (item_at (q.boxes d) r k) k
      place_old d r k within = elim (cases_eq r p) [
        | inl same ↦ subst (λ r. k < length ((q.boxes d).items r) → place_of ring (q'.posts r) d (item_at (q.boxes d) r k) k ≡ place_of ring (q.posts r) d (item_at (q.boxes d) r k) k) (sym same) (own_place d k) within
        | inr other ↦ ap (λ xs. place_of ring xs d (item_at (q.boxes d) r k) k) (other_posts item r other)
      ]

      -- So what is held keeps its place.
      pub pool_filled : ((d : ℕ) → Holds ring (q.boxes d)) → PoolButSender ring q q' p
      pool_filled holds = record {
        boxes = each_box q b (Fill p item) (λ d m. BoxButSender (q.boxes d) m p) (box_filled (q.boxes b) p ring (holds b) item (fill_alone ring some_nodes q b p item h may)) (λ d. box_still (q.boxes d) p);
        places = λ d r k held. place_old d r k (item_within (q.boxes d) r ((holds d).turns r) k (among_first (Of r k) (q.boxes d).passed (q.boxes d).order held.passed));
      }

-- ---- what the other seats know

-- the slot of a sender is at home
abbrev pub IsHome : List (Slot Posting) → ℕ → Type 0
IsHome homes r = (laid : Posting) × (get_elem? homes (slot_of r) ≡ some (some laid))

-- the part of a sender whose items a receiver knows is the receiver's
part_known : (b : ℕ) (ws : List SenderSeat) (p : ℕ) (items : List Item) → known_in b ws p ≡ Some items → IsPartIn ws (sender_part p)
part_known b [] p items none = cc
part_known b (w ∷ ws) p items known = elim (cases_Bool (p == w.number)) [
  | inl here ↦ inl (ap (λ (k : ℕ). k + 1) (eqb-true p w.number here))
  | inr other ↦ inr (part_known b ws p items (rw other at known))
]

module _ (c n : Pooled) (q q' : Pool) (p : ℕ) (core : CoreButSender c n p) (pool : PoolButSender c.ring q q' p) where
  -- as many senders, mailboxes and nodes
  pub shape_stays : (shape : Shape) → HasShape shape c → HasShape shape n
  shape_stays shape was = record { senders = core.senders ∙ was.senders; mailboxes = core.heads ∙ was.mailboxes; ring = core.ring ∙ was.ring; most = core.most ∙ was.most }

  -- what is held keeps its node and its item
  holding_stays : (h : Holding) → IsHolding c q h → IsHolding n q' h
  holding_stays h was =
      let box = pool.boxes h.mailbox in
      let item : item_at (q'.boxes h.mailbox) h.sender h.place ≡ item_at (q.boxes h.mailbox) h.sender h.place = box.held h.sender h.place was.held in record {
        shape = shape_stays h.shape was.shape;
        mailbox = omega (arith, was.mailbox, core.heads);
        held = record { passed = ap (is_among (Of h.sender h.place)) box.passed ∙ was.held.passed; kept = ap (is_among (Of h.sender h.place)) box.given ∙ was.held.kept };
        node = (λ i. h.sender * (core.ring i + core.heads i) + place_of (core.ring i) (q'.posts h.sender) h.mailbox (item i) h.place)
            ∙ (ap (λ (k : ℕ). first_node c h.sender + k) (pool.places h.mailbox h.sender h.place was.held) ∙ was.node);
        item = item ∙ was.item;
      }

  -- another sender
  sender_stays : (v : SenderSeat) → ¬ (v.number ≡ p) → IsSenderSeat c q v → IsSenderSeat n q' v
  sender_stays v other was = record {
    shape = shape_stays v.shape was.shape;
    within = was.within;
    caller = core.callers v.number other ∙ was.caller;
    flags = was.flags;
    ended = λ b low. core.ended b v.number (omega (arith, low, was.shape.mailboxes)) other ∙ was.ended b low;
    items = λ b. (pool.boxes b).items v.number other ∙ was.items b;
  }

  -- and one that was taken in
  taken_stays : (w : SenderSeat) → ¬ (w.number ≡ p) → IsTakenIn c q w → IsTakenIn n q' w
  taken_stays w other was = record { seat = sender_stays w other was.seat; rest = was.rest }

  -- those that a seat took in, where it has not the sender's part
  all_taken_stay : (ws : List SenderSeat) → ¬ IsPartIn ws (sender_part p) → All (IsTakenIn c q) ws → All (IsTakenIn n q') ws
  all_taken_stay [] none was = All-nil (IsTakenIn n q')
  all_taken_stay (w ∷ ws) none was =
      All-cons (IsTakenIn n q') w ws (taken_stays w (λ same. none (inl (ap (λ (k : ℕ). k + 1) (sym same)))) (All-head (IsTakenIn c q) w ws was)) (all_taken_stay ws (λ part. none (inr part)) (All-tail (IsTakenIn c q) w ws was))

  -- what is known of a receiver that was gathered
  gathered_stays : (r : ReceiverSeat) → KnowsMailbox c q r → KnowsMailbox n q' r
  gathered_stays r was =
      let box = pool.boxes r.mailbox in record {
        shape = shape_stays r.shape was.shape;
        within = was.within;
        reader = core.readers r.mailbox ∙ was.reader;
        passed = box.passed ∙ was.passed;
        given = box.given ∙ was.given;
        got = box.got ∙ was.got;
      }

  module _ (homes homes' : List (Slot Posting)) (at_home : (r : ℕ) → ¬ (r ≡ p) → IsHome homes r → IsHome homes' r) where
    -- what is not dealt yet, or has not begun
    new_stays : (shape : Shape) (turn : ℕ) → ¬ (turn ≡ p) → IsNew c q homes shape turn → IsNew n q' homes' shape turn
    new_stays shape turn other was = record {
      sender = λ few.
          let new = was.sender few in record {
            caller = core.callers turn other ∙ new.caller;
            going = λ b low. let there : b < length c.heads = omega (arith, low, core.heads) in core.ended b turn there other ∙ new.going b there;
            items = λ b. (pool.boxes b).items turn other ∙ new.items b;
            slot = at_home turn other new.slot;
          };
      receiver = λ b low is.
          let new = was.receiver b low is in record {
            reader = core.readers b ∙ (new.reader ∙ (λ i. record { point = reads.Rest; tail = sym core.senders i * (sym core.ring i + sym core.heads i) + b; last = None }));
            passed = (pool.boxes b).passed ∙ new.passed;
            given = (pool.boxes b).given ∙ new.given;
          };
    }

    -- A seat that has not the sender's part knows what it knew.
    pub stays_but_sender : p < length c.senders → (d : Known) → ¬ Has d (Part (sender_part p)) → IsSeat c q homes d → IsSeat n q' homes' d
    stays_but_sender in_table (Dealt shape turn) apart was =
        record { shape_is = shape_stays shape was.shape_is; within = was.within; new = new_stays shape turn (λ same. apart (ap (λ (k : ℕ). k + 1) (sym same))) was.new }
    stays_but_sender in_table (Sends v) apart was = sender_stays v (λ same. apart (ap (λ (k : ℕ). k + 1) (sym same))) was
    stays_but_sender in_table (Receives v) apart was =
        record {
          its_mailbox = gathered_stays v was.its_mailbox;
          at_hand = λ h is. let held = was.at_hand h is in (holding_stays h held.0, held.1);
          taken_in = all_taken_stay v.taken_in (λ part. apart (inr part)) was.taken_in;
          ended = was.ended;
          alone = λ all. let mine = all p (omega (arith, in_table, was.its_mailbox.shape.senders)) in absurd (apart (inr (part_known v.mailbox v.taken_in p mine.0 mine.1)));
        }
    stays_but_sender in_table (HoldsOne h) apart was = holding_stays h was
    stays_but_sender in_table (Tallies v) apart was = record {
      shape = shape_stays v.shape was.shape;
      waiting = λ turn late low. new_stays v.shape turn (λ same. apart (inr (inl (omega (arith, same, late))))) (was.waiting turn late low);
      gathered = All-weaker (KnowsMailbox c q) (KnowsMailbox n q') gathered_stays v.gathered was.gathered;
      taken_in = all_taken_stay v.taken_in (λ part. apart (inr (inr (inr part)))) was.taken_in;
      ended = was.ended;
    }
    stays_but_sender in_table Gone apart was = tt

-- ---- the rule after a step of a sender

module _ (shape : Shape) (s : State Posting Known) (kept : KeepsNodes shape s) (id p : ℕ) (known : Known) (seen : get_elem? s.views id ≡ some known) (has : Has known (Part (sender_part p))) (in_table : p < length kept.core.senders) where
  -- the sender has what the seat had
  less : (w : SenderSeat) → w.number ≡ p → (thing : Owned) → Has (Sends w) thing → Has known thing
  less w its (Part part) is = subst (λ k. Has known (Part k)) (sym (is ∙ ap (λ (k : ℕ). k + 1) its)) has
  less w its (Node node) none = absurd none

  -- the rule holds where the core shows what the events lead to, the words are the core's, and the sender knows its part
  pub put_together : (events : List (ℕ × Event)) (q' : Pool) (n : Pooled) → IsNodeMail shape events q' n → CoreButSender kept.core n p → PoolButSender kept.core.ring kept.pool q' p → (words : List ℕ) → AreWords shape n words
      → (homes : List (Slot Posting)) → ((r : ℕ) → ¬ (r ≡ p) → IsHome s.homes r → IsHome homes r) → (w : SenderSeat) → w.number ≡ p → IsSenderSeat n q' w
      → KeepsAs shape events q' n record { words = words; homes = homes; views = set s.views id (Sends w) }
  put_together events q' n mail core pool words are homes at_home w its own = record {
    rule = record {
      events = events;
      pool = q';
      core = n;
      mail = mail;
      words = are;
      seats = λ j d e. elim (at_set s.views id j (Sends w) d e) [
        | inl mine ↦ subst (IsSeat n q' homes) mine.1 own
        | inr old ↦ stays_but_sender kept.core n kept.pool q' p core pool s.homes homes at_home in_table d (other_has_not s.views kept.apart id known seen j d old.0 old.1 (Part (sender_part p)) has) (kept.seats j d old.1)
      ];
      apart = apart_still s.views kept.apart id known seen (Sends w) (less w its);
    };
    events_are = refl;
    pool_is = refl;
    core_is = refl;
  }

-- ---- a step of the core

module _ (shape : Shape) (s : State Posting Known) (kept : KeepsNodes shape s) (id : ℕ) (v : SenderSeat) (seen : get_elem? s.views id ≡ some (Sends v)) where
  abbrev c : Pooled
  c = kept.core

  abbrev q : Pool
  q = kept.pool

  abbrev p : ℕ
  p = v.number

  -- what it knew
  pub own : IsSenderSeat c q v
  own = kept.seats id (Sends v) seen

  pub its_within : p < length c.senders
  its_within = omega (arith, own.within, own.shape.senders)

  pub box_holds : (d : ℕ) → Holds c.ring (q.boxes d)
  box_holds d = holds_after c.ring (events_in d kept.events) (q.boxes d) (box_leads c.ring kept.mail.pooled.some_nodes kept.events q kept.mail.leads d)

  pub its_posts : PostsHold c.ring q p
  its_posts = posts_after c.ring kept.mail.pooled.some_nodes kept.events q kept.mail.leads p

  -- where the core stands still
  pub stood : (words : List ℕ) → AreWords shape c words → (homes : List (Slot Posting)) → ((r : ℕ) → ¬ (r ≡ p) → IsHome s.homes r → IsHome homes r)
      → KeepsAs shape kept.events q c record { words = words; homes = homes; views = set s.views id (Sends v) }
  stood words are homes at_home = put_together shape s kept id p (Sends v) seen refl its_within kept.events q c kept.mail (core_still c p) (pool_still c.ring q p) words are homes at_home v refl own

  -- where a step is due
  module _ (b : ℕ) (there : b < length c.heads) (x : Step) (event : Option Event) (n : Pooled) (due : stepped_in c b x ≡ Some n) (event_is : event_in c q b x ≡ event) where
    pub told : ShowsAfterIn event c.ring b q n
    told = subst (λ e. ShowsAfterIn e c.ring b q n) event_is (step_shows_in b x kept.events q c n there kept.mail.pooled kept.mail.leads kept.mail.shows due)

    module _ (core : CoreButSender c n p) (pool : PoolButSender c.ring q (later_in event b q) p) where
      -- what is shown then, where what the sender filled is within the limits
      mail_now : ((d : ℕ) → All IsInRange (((later_in event b q).boxes d).items p)) → IsNodeMail shape (events_after event b kept.events) (later_in event b q) n
      mail_now ranged = record {
        fits = shape_stays c n q (later_in event b q) p core pool shape kept.mail.fits;
        pooled = keeps_step_in c n b x kept.mail.pooled there due;
        leads = subst (λ (r : ℕ). PoolLeads r (events_after event b kept.events) (later_in event b q)) (sym core.ring) (told_leads q b event c.ring n kept.events kept.mail.leads told);
        shows = told_shows q b event c.ring n told;
        ranged = λ d r. elim (cases_eq r p) [
          | inl same ↦ subst (λ (r : ℕ). All IsInRange (((later_in event b q).boxes d).items r)) (sym same) (ranged d)
          | inr other ↦ subst (λ xs. All IsInRange xs) (sym ((pool.boxes d).items r other)) (kept.mail.ranged d r)
        ];
      }

      -- the sender is in another place of its call, it may have ended, and it may have filled an item
      module _ (caller : Caller) (ended : List Bool) (caller_is : sender_at n p ≡ caller) (flags : length ended ≡ v.shape.mailboxes) (ended_is : (d : ℕ) → d < v.shape.mailboxes → has_ended_in n d p ≡ slice_index_or ended d false) (words : List ℕ) (are : AreWords shape n words) where
        pub moved : (filled : List (ℕ × Item)) → ((d : ℕ) → ((later_in event b q).boxes d).items p ≡ items_in d filled) → ((d : ℕ) → All IsInRange (((later_in event b q).boxes d).items p))
            → KeepsOn shape s kept b x record { words = words; homes = s.homes; views = set s.views id (Sends (record { shape = v.shape; number = p; caller = caller; ended = ended; filled = filled })) }
        moved filled items ranged = on_event shape s kept b x event n _ due event_is
            (put_together shape s kept id p (Sends v) seen refl its_within (events_after event b kept.events) (later_in event b q) n (mail_now ranged) core pool words are s.homes (λ r other at. at) _ refl record {
              shape = shape_stays c n q (later_in event b q) p core pool v.shape own.shape;
              within = own.within;
              caller = caller_is;
              flags = flags;
              ended = ended_is;
              items = items;
            })

        -- where it fills nothing
        pub went_on : ((d : ℕ) → ((later_in event b q).boxes d).items p ≡ (q.boxes d).items p)
            → KeepsOn shape s kept b x record { words = words; homes = s.homes; views = set s.views id (Sends (record { shape = v.shape; number = p; caller = caller; ended = ended; filled = v.filled })) }
        went_on same = moved v.filled (λ d. same d ∙ own.items d) (λ d. subst (λ xs. All IsInRange xs) (sym (same d)) (kept.mail.ranged d p))
