-- The pool: several abstract mailboxes, where a sender uses its ring slots in turn for all of them.
use Rattle.std.specs.Prelude.{ℕ, ◌≡◌, ◌==◌, ◌<◌, ◌+◌, ◌%◌, ◌++◌, Bool, false, true, List, [], ◌∷◌, length, map, slice_index_or, ⊤, if◌then◌else◌}
use Rattle.std.specs.List.{filter}
use Rattle.queue_core.specs.declared.entry.Entry.TheVariants.{Of}
use Rattle.queue_core.specs.declared.item.Item.{Item}
use Rattle.queue_core.specs.declared.item.Item.TheVariants.{Post, End}
use Rattle.queue_core.specs.Items.{is_end}
use Rattle.queue_core.specs.Mailbox.{IsHeld, Mailbox, is_among, item_at, opening, sent}
use Rattle.queue_core.specs.Events.{Event, Leads, May, after}
use Rattle.queue_core.specs.Events.Event.{Fill, Exchange, Link, Pass, GiveBack, StubIn, StubLink}
use Rattle.queue_core.specs.Received.{IsReceivedInOrder}

pub record Pool : Type 0 where
  -- what has happened in each mailbox
  pub boxes : ℕ → Mailbox
  -- the posts of each sender over all mailboxes, in the order in which it filled them: the mailbox of each, and its place among the sender's items there
  pub posts : ℕ → List (ℕ × ℕ)

abbrev pub opening_pool : Pool
opening_pool = record { boxes = λ b. opening; posts = λ p. [] }

-- a sender's post by its number
abbrev pub post_at : Pool → (p number : ℕ) → ℕ × ℕ
post_at q p j = slice_index_or (q.posts p) j (0, 0)

-- whether a post was given back, in whichever mailbox it is
abbrev pub is_given : Pool → (p : ℕ) → ℕ × ℕ → Bool
is_given q p at = is_among (Of p at.1) (q.boxes at.0).given

-- The sender's next post takes the slot of the one that is a whole round behind it. An end mark has a slot of its own.
abbrev pub IsFreeFor : (ring : ℕ) → Pool → (p : ℕ) → Item → Type 0
IsFreeFor ring q p (Post line amount) = (j : ℕ) → j + ring ≡ length (q.posts p) → is_given q p (post_at q p j) ≡ true
IsFreeFor ring q p End = ⊤

-- An item may be filled where all items of the sender are sent, in every mailbox, it has not ended in this one, and what last used the slot is given back, in whichever mailbox that was.
pub record MayFillIn (ring : ℕ) (q : Pool) (b p : ℕ) (item : Item) : Type 0 where
  pub all_sent : (c : ℕ) → sent (q.boxes c) p ≡ (q.boxes c).items p
  pub not_ended : (k : ℕ) → k < length ((q.boxes b).items p) → is_end (item_at (q.boxes b) p k) ≡ false
  pub free : IsFreeFor ring q p item

-- which events may happen in a mailbox of the pool
abbrev pub MayIn : (ring : ℕ) → Pool → (b : ℕ) → Event → Type 0
MayIn ring q b (Fill p item) = MayFillIn ring q b p item
MayIn ring q b (Exchange p) = May ring (q.boxes b) (Exchange p)
MayIn ring q b (Link p) = May ring (q.boxes b) (Link p)
MayIn ring q b Pass = May ring (q.boxes b) Pass
MayIn ring q b (GiveBack p k) = May ring (q.boxes b) (GiveBack p k)
MayIn ring q b StubIn = May ring (q.boxes b) StubIn
MayIn ring q b StubLink = May ring (q.boxes b) StubLink

-- one more post of a sender
abbrev pub posts_after : (b : ℕ) → Event → Pool → (ℕ → List (ℕ × ℕ))
posts_after b (Fill p (Post line amount)) q = λ s. if s == p then q.posts s ++ (b, length ((q.boxes b).items p)) ∷ [] else q.posts s
posts_after b (Fill p End) q = q.posts
posts_after b (Exchange p) q = q.posts
posts_after b (Link p) q = q.posts
posts_after b Pass q = q.posts
posts_after b (GiveBack p k) q = q.posts
posts_after b StubIn q = q.posts
posts_after b StubLink q = q.posts

-- what comes of an event in a mailbox: the others are as they were
abbrev pub after_in : (b : ℕ) → Event → Pool → Pool
after_in b event q = record { boxes = λ c. if c == b then after event (q.boxes b) else q.boxes c; posts = posts_after b event q }

-- The pools that a list of pairs, mailbox and event, leads to.
pub data PoolLeads (ring : ℕ) : List (ℕ × Event) → Pool → Type 0 where
  none : PoolLeads ring [] opening_pool
  more : (events : List (ℕ × Event)) (q : Pool) (b : ℕ) (event : Event) → PoolLeads ring events q → MayIn ring q b event → PoolLeads ring (events ++ (b, event) ∷ []) (after_in b event q)

-- the events of one mailbox
abbrev pub events_in : (b : ℕ) → List (ℕ × Event) → List Event
events_in b events = map (λ at. at.1) (filter (λ at. at.0 == b) events)

-- What is held stands alone in its slot: no later post of its sender takes the slot, in whichever mailbox.
abbrev pub PoolHeldAlone : Type 0
PoolHeldAlone = (ring : ℕ) → 0 < ring → (events : List (ℕ × Event)) (q : Pool) → PoolLeads ring events q → (b p k : ℕ) → IsHeld (q.boxes b) p k
    → (j i : ℕ) → post_at q p j ≡ (b, k) → j < i → i < length (q.posts p) → ¬ (i % ring ≡ j % ring)

-- Each mailbox of a pool is one that its own events lead to, by the rule of a mailbox alone. What that says of slots is of those by its own count, and not of the pool's.
abbrev pub EachMailboxLeads : Type 0
EachMailboxLeads = (ring : ℕ) → 0 < ring → (events : List (ℕ × Event)) (q : Pool) → PoolLeads ring events q → (b : ℕ) → Leads ring (events_in b events) (q.boxes b) × IsReceivedInOrder ring (q.boxes b)
