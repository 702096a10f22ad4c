-- What each step does to the pool that a core shows: it is an event that may happen in its mailbox, or none, and what comes of it is shown.
use Rattle.std.specs.Prelude.{ℕ, ℤ, ◌≡◌, ◌<◌, ◌≤◌, ◌==◌, ◌&&◌, ◌+◌, ◌*◌, ◌↔◌, List, [], ◌∷◌, Option, None, Some, true, false, not, length, map, if◌then◌else◌}
use Rattle.std.specs.List.{filter}
use Rattle.queue_core.specs.declared.entry.Entry.{Entry}
use Rattle.queue_core.specs.declared.entry.Entry.TheVariants.{Of, Stub}
use Rattle.queue_core.specs.declared.item.Item.TheVariants.{Post, End}
use Rattle.queue_core.specs.declared.sender.SenderPoint.TheVariants as sends
use Rattle.queue_core.specs.declared.step.Step.{Step}
use Rattle.queue_core.specs.declared.step.Step.TheVariants as step
use Rattle.queue_core.specs.declared.step.PoolStep.{PoolStep}
use Rattle.queue_core.specs.declared.TheConstants.{MOST_MAILBOXES, MOST_NODES, MOST_POOL_POSTS, MOST_POSTS, MOST_SENDERS}
use Rattle.queue_core.specs.Received.{IsReceivedInOrder}
use Rattle.queue_core.specs.Mailbox.{IsHeld, is_among, item_at, left_entries, passed_entries}
use Rattle.queue_core.specs.Box.{HoldsItem}
use Rattle.queue_core.specs.Events.{Event, Leads, slot_at}
use Rattle.queue_core.specs.Events.Event.{Fill, Exchange, Link, Pass, GiveBack, StubIn, StubLink}
use Rattle.queue_core.specs.Pool.{MayFillIn, MayIn, Pool, PoolLeads, after_in, events_in, opening_pool}
use Rattle.queue_core.specs.Pooled.{IsPooled, Pooled, has_ended_in, node_of, opening_pooled, reader_in, sender_at, stub_in}
use Rattle.queue_core.specs.PoolSteps.{Follows, has_next, in_first, is_free, is_last, stepped, stepped_in}
use Rattle.queue_core.specs.PoolShows.{ShowsPool, box_in, node_in}

-- the entry that the reader of a mailbox holds in a node
abbrev pub held_in : Pooled → Pool → (b n : ℕ) → List Entry
held_in c q b n = filter (λ entry. (node_in c q b entry == n) && not (is_among entry (q.boxes b).given)) (passed_entries (q.boxes b))

-- the event of giving back the first of the entries, which is a sender's
abbrev pub gives_back : List Entry → Option Event
gives_back [] = None
gives_back (Of p k ∷ entries) = Some (GiveBack p k)
gives_back (Stub ∷ entries) = None

-- the event of a step, in the mailbox of the step: a load that finds nothing new, or a store in a node that is not exchanged in, is none
abbrev pub event_in : Pooled → Pool → (b : ℕ) → Step → Option Event
event_in c q b (step.LoadTurn p line amount) = if is_free c b p (Post line amount) then Some (Fill p (Post line amount)) else None
event_in c q b (step.StoreLine p) = None
event_in c q b (step.EndLine p) = Some (Fill p End)
event_in c q b (step.StoreAmount p) = None
event_in c q b (step.StoreNull p) = None
event_in c q b (step.SwapHead p) = Some (Exchange p)
event_in c q b (step.StoreLink p) = Some (Link p)
event_in c q b step.LoadNext = if has_next b c then Some Pass else None
event_in c q b step.LoadHead = None
event_in c q b step.StubNull = None
event_in c q b step.StubSwap = Some StubIn
event_in c q b step.StubLink = Some StubLink
event_in c q b (step.LoadLine n) = None
event_in c q b (step.LoadAmount n) = None
event_in c q b (step.GiveBack n) = gives_back (held_in c q b n)

abbrev pub ShowsAfterIn : Option Event → (ring b : ℕ) → Pool → Pooled → Type 0
ShowsAfterIn None ring b q n = ShowsPool n q
ShowsAfterIn (Some event) ring b q n = MayIn ring q b event × ShowsPool n (after_in b event q)

-- Where a core shows a pool that events lead to, it shows after a step in a mailbox what the event of the step leads to from there.
abbrev pub PoolStepShows : (b : ℕ) → Step → Type 0
PoolStepShows b s = (events : List (ℕ × Event)) (q : Pool) (c n : Pooled) → b < length c.heads → IsPooled c → PoolLeads c.ring events q → ShowsPool c q
    → stepped_in c b s ≡ Some n → ShowsAfterIn (event_in c q b s) c.ring b q n

-- A sender in no call, which has not ended in the mailbox, finds its next ring node free exactly where it may fill it. Then all that ever stood in it was given back, in whichever mailbox.
abbrev pub PoolLoadTurnTells : Type 0
PoolLoadTurnTells = (events : List (ℕ × Event)) (q : Pool) (c : Pooled) (b p line : ℕ) (amount : ℤ) → IsPooled c → PoolLeads c.ring events q → ShowsPool c q → b < length c.heads → p < length c.senders
    → (sender_at c p).point ≡ sends.Rest → has_ended_in c b p ≡ false → ((is_free c b p (Post line amount) ≡ true) ↔ MayFillIn c.ring q b p (Post line amount))
    × (is_free c b p (Post line amount) ≡ true → (d k : ℕ) → k < length ((q.boxes d).items p) → node_in c q d (Of p k) ≡ node_of c b p (Post line amount) → is_among (Of p k) (q.boxes d).given ≡ true)

-- The stub alone is left where the tail is the stub and the head too. So Empty is answered only there.
abbrev pub PoolHeadTells : Type 0
PoolHeadTells = (events : List (ℕ × Event)) (q : Pool) (c : Pooled) (b : ℕ) → IsPooled c → PoolLeads c.ring events q → ShowsPool c q → b < length c.heads
    → (reader_in c b).tail ≡ stub_in c b → is_last b c ≡ true → left_entries (q.boxes b) ≡ Stub ∷ []

-- The words of a node that a reader holds are those of the item that is held in it.
abbrev pub PoolHeldTells : Type 0
PoolHeldTells = (events : List (ℕ × Event)) (q : Pool) (c : Pooled) (b p k : ℕ) → IsPooled c → PoolLeads c.ring events q → ShowsPool c q → b < length c.heads
    → IsHeld (q.boxes b) p k → HoldsItem (box_in c q b) (node_in c q b (Of p k)) (item_at (q.boxes b) p k)

-- Nothing that is left in any mailbox stands in a node that a reader holds, so nobody is about to store a link in it.
abbrev pub PoolGiveBackTells : Type 0
PoolGiveBackTells = (events : List (ℕ × Event)) (q : Pool) (c : Pooled) (b p k : ℕ) → IsPooled c → PoolLeads c.ring events q → ShowsPool c q → b < length c.heads → IsHeld (q.boxes b) p k
    → (d : ℕ) → d < length c.heads → (entry : Entry) → is_among entry (left_entries (q.boxes d)) ≡ true → ¬ (node_in c q d entry ≡ node_in c q b (Of p k))

-- With one mailbox the senders' nodes are those of a mailbox alone.
abbrev pub OneMailboxNodes : Type 0
OneMailboxNodes = (events : List (ℕ × Event)) (q : Pool) (c : Pooled) → IsPooled c → PoolLeads c.ring events q → ShowsPool c q → length c.heads ≡ 1 → (p k : ℕ) → k < length ((q.boxes 0).items p)
    → node_in c q 0 (Of p k) ≡ p * (c.ring + 1) + slot_at c.ring (q.boxes 0) p k

-- ---- whole runs

-- the events of steps that follow one another, each in its mailbox, starting from a core and the pool that it shows
abbrev pub pool_events_along : List PoolStep → Pooled → Pool → List (ℕ × Event)
pool_events_along [] c q = []
pool_events_along (s ∷ steps) c q = elim (stepped c s) [
  | None ↦ []
  | Some n ↦ elim (event_in c q s.mailbox s.step) [
    | None ↦ pool_events_along steps n q
    | Some event ↦ (s.mailbox, event) ∷ pool_events_along steps n (after_in s.mailbox event q)
  ]
]

-- a pool that was just opened shows mailboxes in which nothing has happened
abbrev pub PoolOpeningShows : Type 0
PoolOpeningShows = (senders mailboxes ring most : ℕ) → 0 < senders → senders ≤ MOST_SENDERS → 0 < mailboxes → mailboxes ≤ MOST_MAILBOXES → 0 < ring → ring ≤ MOST_NODES → most ≤ MOST_POOL_POSTS
    → ShowsPool (opening_pooled senders mailboxes ring most) opening_pool

-- What steps from an opening on come to: as many senders and mailboxes as were opened, and as many ring nodes. The core
-- is one of those that the laws speak of, and it shows a pool that events lead to. So every law of a step holds of what
-- comes next.
pub record IsRunOf (senders mailboxes ring : ℕ) (events : List (ℕ × Event)) (q : Pool) (c : Pooled) : Type 0 where
  pub senders_are : length c.senders ≡ senders
  pub mailboxes_are : length c.heads ≡ mailboxes
  pub ring_is : c.ring ≡ ring
  pub pooled : IsPooled c
  pub leads : PoolLeads c.ring events q
  pub shows : ShowsPool c q

-- Whatever steps are made in whichever mailboxes from the opening on: their events lead to a pool, the core shows it,
-- and each mailbox is received in order.
abbrev pub AllPoolRunsShow : Type 0
AllPoolRunsShow = (senders mailboxes ring most : ℕ) → 0 < senders → senders ≤ MOST_SENDERS
    → 0 < mailboxes → mailboxes ≤ MOST_MAILBOXES → 0 < ring → ring ≤ MOST_NODES → most ≤ MOST_POOL_POSTS
    → (steps : List PoolStep) (c : Pooled) → Follows steps (opening_pooled senders mailboxes ring most) c
    → let events = pool_events_along steps (opening_pooled senders mailboxes ring most) opening_pool in
    (q : Pool) × IsRunOf senders mailboxes ring events q c × ((b : ℕ) → IsReceivedInOrder ring (q.boxes b))

-- A mailbox alone is a pool of one. Whatever steps are made in it from the opening on: their events lead to a pool, the
-- core shows it, and what is in its one mailbox follows the rule of a mailbox alone and is received in order.
abbrev pub AllRunsShow : Type 0
AllRunsShow = (senders ring : ℕ) → 0 < senders → senders ≤ MOST_SENDERS → 0 < ring → ring ≤ MOST_NODES
    → (steps : List Step) (c : Pooled) → Follows (map in_first steps) (opening_pooled senders 1 ring MOST_POSTS) c
    → let events = pool_events_along (map in_first steps) (opening_pooled senders 1 ring MOST_POSTS) opening_pool in
    (q : Pool) × IsRunOf senders 1 ring events q c × Leads ring (events_in 0 events) (q.boxes 0)
    × IsReceivedInOrder ring (q.boxes 0)
