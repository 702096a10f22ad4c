-- The core of a pool: the words of several mailboxes, and the program points of their senders and readers, after
-- Vyukov's intrusive queue of many producers and one consumer. They have one table of nodes, with a head, a stub and a
-- reader for each mailbox.
use Rattle.std.specs.Prelude.{ℕ, unsigned_abs, ◌≡◌, ◌<◌, ◌≤◌, ◌==◌, ◌+◌, ◌*◌, ◌%◌, Bool, false, true, List, All, Option}
use Rattle.std.specs.Prelude.{length, map, None, Some, replicate, slice_index_or, slice_set, ⊤, if◌then◌else◌}
use Rattle.std.specs.List.{range_with_len}
use Rattle.queue_core.specs.declared.TheConstants.{MOST_AMOUNT, MOST_MAILBOXES, MOST_NODES, MOST_POOL_POSTS, MOST_POSTS, MOST_SENDERS}
use Rattle.queue_core.specs.declared.item.Item.{Item}
use Rattle.queue_core.specs.declared.item.Item.TheVariants.{Post, End}
use Rattle.queue_core.specs.declared.words.Node.{Node}
use Rattle.queue_core.specs.declared.sender.Caller.{Caller}
use Rattle.queue_core.specs.declared.sender.SenderPoint.{SenderPoint}
use Rattle.queue_core.specs.declared.sender.SenderPoint.TheVariants as sends
use Rattle.queue_core.specs.declared.reader.Reader.{Reader}
use Rattle.queue_core.specs.declared.reader.ReaderPoint.{ReaderPoint}
use Rattle.queue_core.specs.declared.reader.ReaderPoint.TheVariants as reads
use Rattle.queue_core.specs.StoredWords.{empty_node, link_to}

pub record Pooled : Type 0 where
  -- how many ring nodes a sender has, and how many posts it may fill, for all mailboxes
  pub ring : ℕ
  pub most : ℕ
  -- of each mailbox the node that was exchanged in last, plus 1
  pub heads : List ℕ
  pub nodes : List Node
  -- the mailbox whose reader holds a node, if one does
  pub holders : List (Option ℕ)
  pub senders : List Caller
  -- whether a sender has ended in a mailbox: all mailboxes of the first sender, then those of the next
  pub ended : List Bool
  pub readers : List Reader

-- ---- where the nodes are

-- a sender has its ring nodes, and one more for its end mark in each mailbox
abbrev pub nodes_of_each : Pooled → ℕ
nodes_of_each c = c.ring + length c.heads

abbrev pub first_node : Pooled → ℕ → ℕ
first_node c p = p * nodes_of_each c

-- the stubs of the mailboxes are the last nodes
abbrev pub stub_in : Pooled → (b : ℕ) → ℕ
stub_in c b = first_node c (length c.senders) + b

-- ---- what stands in it; where there is no such node, mailbox or sender, one that has nothing

abbrev pub node_at : Pooled → ℕ → Node
node_at c n = slice_index_or c.nodes n empty_node

abbrev pub head_in : Pooled → (b : ℕ) → ℕ
head_in c b = slice_index_or c.heads b 0

abbrev pub reader_in : Pooled → (b : ℕ) → Reader
reader_in c b = slice_index_or c.readers b (record { point = reads.Rest; tail = 0; last = None })

abbrev pub sender_at : Pooled → ℕ → Caller
sender_at c p = slice_index_or c.senders p (record { point = sends.Rest; mailbox = 0; count = 0; last = None })

abbrev pub end_place : Pooled → (b p : ℕ) → ℕ
end_place c b p = p * length c.heads + b

abbrev pub has_ended_in : Pooled → (b p : ℕ) → Bool
has_ended_in c b p = slice_index_or c.ended (end_place c b p) true

abbrev pub is_mailbox : ℕ → Option ℕ → Bool
is_mailbox b None = false
is_mailbox b (Some holder) = holder == b

-- the mailbox whose reader holds a node
abbrev pub holder_of : Pooled → (n : ℕ) → Option ℕ
holder_of c n = slice_index_or c.holders n None

abbrev pub is_held_in : Pooled → (b n : ℕ) → Bool
is_held_in c b n = is_mailbox b (holder_of c n)

-- where a sender is, as a mailbox sees it: at rest, except in that of its call
abbrev pub point_in : Pooled → (b p : ℕ) → SenderPoint
point_in c b p = if (sender_at c p).mailbox == b then (sender_at c p).point else sends.Rest

-- The node that a sender fills with an item of a mailbox: its posts go round the ring in the order in which it fills them, and the end mark has the node of its mailbox.
abbrev pub node_of : Pooled → (b p : ℕ) → Item → ℕ
node_of c b p (Post line amount) = first_node c p + (sender_at c p).count % c.ring
node_of c b p End = first_node c p + (c.ring + b)

-- ---- what changes

abbrev pub with_node : ℕ → Node → Pooled → Pooled
with_node n node c = record c { nodes = slice_set c.nodes n node }

abbrev pub with_sender : ℕ → Caller → Pooled → Pooled
with_sender p sender c = record c { senders = slice_set c.senders p sender }

-- a sender is at a point of a call in this mailbox
abbrev pub with_point : (b p : ℕ) → SenderPoint → Pooled → Pooled
with_point b p point c = with_sender p (record (sender_at c p) { point = point; mailbox = b }) c

abbrev pub with_end : (b p : ℕ) → Pooled → Pooled
with_end b p c = record c { ended = slice_set c.ended (end_place c b p) true }

abbrev pub with_reader : (b : ℕ) → Reader → Pooled → Pooled
with_reader b reader c = record c { readers = slice_set c.readers b reader }

abbrev pub with_head : (b : ℕ) → ℕ → Pooled → Pooled
with_head b head c = record c { heads = slice_set c.heads b head }

abbrev pub with_holder : ℕ → Option ℕ → Pooled → Pooled
with_holder n holder c = record c { holders = slice_set c.holders n holder }

-- ---- what every core keeps to

-- a post is in range, and there is room for one more
abbrev pub IsInHand : (most count : ℕ) → Item → Type 0
IsInHand most count (Post line amount) = (line < MOST_POSTS) × (0 < unsigned_abs amount) × (unsigned_abs amount ≤ MOST_AMOUNT) × (count < most)
IsInHand most count End = ⊤

abbrev pub IsPoint : (most nodes count : ℕ) → SenderPoint → Type 0
IsPoint most nodes count sends.Rest = ⊤
IsPoint most nodes count (sends.Line item) = IsInHand most count item
IsPoint most nodes count (sends.Amount item) = IsInHand most count item
IsPoint most nodes count (sends.Null item) = IsInHand most count item
IsPoint most nodes count (sends.Swap item) = IsInHand most count item
IsPoint most nodes count (sends.Link item before) = IsInHand most count item × (before < nodes)

-- a node is held by the reader of a mailbox that is there
abbrev pub IsHolder : (mailboxes : ℕ) → Option ℕ → Type 0
IsHolder mailboxes None = ⊤
IsHolder mailboxes (Some holder) = holder < mailboxes

abbrev pub IsReaderPoint : (nodes : ℕ) → ReaderPoint → Type 0
IsReaderPoint nodes (reads.Link before) = before < nodes
IsReaderPoint nodes _ = ⊤

pub record IsPooled (c : Pooled) : Type 0 where
  pub some_senders : 0 < length c.senders
  pub few_senders : length c.senders ≤ MOST_SENDERS
  pub some_mailboxes : 0 < length c.heads
  pub few_mailboxes : length c.heads ≤ MOST_MAILBOXES
  pub some_nodes : 0 < c.ring
  pub few_nodes : c.ring ≤ MOST_NODES
  pub few_posts : c.most ≤ MOST_POOL_POSTS
  pub readers : length c.readers ≡ length c.heads
  pub ended : length c.ended ≡ length c.senders * length c.heads
  pub nodes : length c.nodes ≡ stub_in c (length c.heads)
  pub holders : length c.holders ≡ length c.nodes
  pub held : All (IsHolder (length c.heads)) c.holders
  pub heads : All (λ head. (0 < head) × (head ≤ length c.nodes)) c.heads
  pub links : All (λ node. node.next ≤ length c.nodes) c.nodes
  pub points : All (λ sender. (sender.mailbox < length c.heads) × (sender.count ≤ c.most) × IsPoint c.most (length c.nodes) sender.count sender.point) c.senders
  pub tails : All (λ reader. (reader.tail < length c.nodes) × IsReaderPoint (length c.nodes) reader.point) c.readers

-- ---- a core in which nothing has happened

abbrev pub new_reader : (stub : ℕ) → Reader
new_reader stub = record { point = reads.Rest; tail = stub; last = None }

abbrev pub new_caller : Caller
new_caller = record { point = sends.Rest; mailbox = 0; count = 0; last = None }

abbrev pub opening_pooled : (senders mailboxes ring most : ℕ) → Pooled
opening_pooled senders mailboxes ring most =
    let first_stub = senders * (ring + mailboxes) in record {
      ring = ring;
      most = most;
      heads = map (λ b. link_to (first_stub + b)) (range_with_len 0 mailboxes);
      nodes = replicate (first_stub + mailboxes) empty_node;
      holders = replicate (first_stub + mailboxes) None;
      senders = replicate senders new_caller;
      ended = replicate (senders * mailboxes) false;
      readers = map (λ b. new_reader (first_stub + b)) (range_with_len 0 mailboxes);
    }
