-- How the core of a pool shows the pool: each mailbox by its box, which is what it reads of the core, and what is common to all by counts over all of them.
use Rattle.std.specs.Prelude.{ℕ, ◌≡◌, ◌<◌, ◌≤◌, ◌==◌, ◌+◌, ◌%◌, ◌&&◌, Bool, List, [], ◌∷◌, length, zero, suc, if◌then◌else◌}
use Rattle.queue_core.specs.declared.entry.Entry.{Entry}
use Rattle.queue_core.specs.declared.entry.Entry.TheVariants.{Of, Stub}
use Rattle.queue_core.specs.declared.item.Item.{Item}
use Rattle.queue_core.specs.declared.item.Item.TheVariants.{Post, End}
use Rattle.queue_core.specs.Items.{is_end}
use Rattle.queue_core.specs.Mailbox.{is_among, is_linked, item_at, opening}
use Rattle.queue_core.specs.Links.{Links}
use Rattle.queue_core.specs.Box.{Box, IsStanding, ShowsBox}
use Rattle.queue_core.specs.Events.{Event}
use Rattle.queue_core.specs.Pool.{Pool, PoolLeads, is_given, post_at}
use Rattle.queue_core.specs.Pooled.{IsPooled, Pooled, first_node, has_ended_in, head_in, is_held_in, node_at, point_in, reader_in, sender_at, stub_in}

-- how many numbers below a bound pass a test
abbrev pub count_below : (ℕ → Bool) → ℕ → ℕ
count_below test zero = 0
count_below test (suc n) = count_below test n + (if test n then 1 else 0)

-- ---- its links

-- the number of a post among those of its sender: how many come before it in the list
abbrev pub number_in : (b k : ℕ) → List (ℕ × ℕ) → ℕ
number_in b k [] = 0
number_in b k (at ∷ posts) = if (at.0 == b) && (at.1 == k) then 0 else number_in b k posts + 1

-- the place of an item among its sender's nodes: a post goes round the ring by its number, an end mark has the node of its mailbox
abbrev pub place_of : (ring : ℕ) → List (ℕ × ℕ) → (b : ℕ) → Item → (k : ℕ) → ℕ
place_of ring posts b (Post line amount) k = number_in b k posts % ring
place_of ring posts b End k = ring + b

-- the node that an entry of a mailbox stands in
abbrev pub node_in : Pooled → Pool → (b : ℕ) → Entry → ℕ
node_in c q b (Of p k) = first_node c p + place_of c.ring (q.posts p) b (item_at (q.boxes b) p k) k
node_in c q b Stub = stub_in c b

abbrev pub links_in : Pooled → Pool → (b : ℕ) → Links
links_in c q b = record {
  node = node_in c q b;
  next = λ n. (node_at c n).next;
  head = head_in c b;
  tail = (reader_in c b).tail;
  points = point_in c b;
  point = (reader_in c b).point;
}

-- what a mailbox reads of the core
abbrev pub box_in : Pooled → Pool → (b : ℕ) → Box
box_in c q b = record {
  links = links_in c q b;
  line = λ n. (node_at c n).line;
  amount = λ n. (node_at c n).amount;
  senders = length c.senders;
  ended = has_ended_in c b;
  held = is_held_in c b;
}

-- ---- what is common to all mailboxes

-- whether a post is sent, in whichever mailbox it is
abbrev pub is_sent : Pool → (p : ℕ) → ℕ × ℕ → Bool
is_sent q p at = is_linked (q.boxes at.0) (Of p at.1)

-- how many posts of a sender that stood in this place of its ring were given back, in whichever mailbox
abbrev pub times_given : (ring : ℕ) → Pool → (p place : ℕ) → ℕ
times_given ring q p i = count_below (λ j. (j % ring == i) && is_given q p (post_at q p j)) (length (q.posts p))

-- the same for its end mark in a mailbox: 0 or 1
abbrev pub times_end_given : Pool → (b p : ℕ) → ℕ
times_end_given q b p = count_below (λ k. is_end (item_at (q.boxes b) p k) && is_among (Of p k) (q.boxes b).given) (length ((q.boxes b).items p))

pub record ShowsSender (c : Pooled) (q : Pool) (p : ℕ) : Type 0 where
  pub count : (sender_at c p).count ≡ count_below (λ j. is_sent q p (post_at q p j)) (length (q.posts p))
  pub turns : (i : ℕ) → i < c.ring → (node_at c (first_node c p + i)).turn ≡ times_given c.ring q p i
  pub end_turns : (b : ℕ) → b < length c.heads → (node_at c (first_node c p + (c.ring + b))).turn ≡ times_end_given q b p

pub record ShowsPool (c : Pooled) (q : Pool) : Type 0 where
  pub boxes : (b : ℕ) → b < length c.heads → ShowsBox (box_in c q b) (q.boxes b)
  pub senders : (p : ℕ) → p < length c.senders → ShowsSender c q p
  -- nobody gives a stub back
  pub stub_turns : (b : ℕ) → b < length c.heads → (node_at c (stub_in c b)).turn ≡ 0
  pub no_boxes : (b : ℕ) → length c.heads ≤ b → q.boxes b ≡ opening

-- Entries that stand in one node are one entry, of one mailbox: a node is in at most one mailbox at a time.
abbrev pub NodesAreApart : Type 0
NodesAreApart = (events : List (ℕ × Event)) (q : Pool) (c : Pooled) → IsPooled c → PoolLeads c.ring events q → ShowsPool c q → (b d : ℕ) → b < length c.heads → d < length c.heads → (e f : Entry)
    → IsStanding (q.boxes b) e → IsStanding (q.boxes d) f → node_in c q b e ≡ node_in c q d f → (b ≡ d) × (e ≡ f)
