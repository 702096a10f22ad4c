-- How a clause sees the senders, the receivers, the held items and the tally of a pool, whatever it is made of.
use Rattle.std.specs.Prelude.{ℕ, ℤ, ◌≡◌, ◌<◌, ◌≤◌, ◌-◌, ◌+◌, ◌==◌, ◌++◌, ◌∷◌, [], Bool, true, false, List, None, Option, Some, cond}
use Rattle.queue_core.specs.declared.item.Item.{Item}
use Rattle.queue_core.specs.declared.item.Item.TheVariants.{End, Post}
use Rattle.queue_core.specs.Items.{IsInRange}
use Rattle.queue_core.specs.Items.{IsFirstOf}

-- a sender: its pool, how many mailboxes that has, its number, how many of its first posts are never refused, how many
-- it has left and how many it has sent over all mailboxes, in which it has ended, and what it has sent in each, in order
pub record SenderView (Name : Type 0) : Type 0 where
  pub pool : Name
  pub mailboxes : ℕ
  pub number : ℕ
  pub nodes : ℕ
  pub left : ℕ
  pub posted : ℕ
  pub is_ended : ℕ → Bool
  pub sent : ℕ → List Item

-- a receiver: its pool, its mailbox, the number of senders, and what was received of each sender, in order
pub record ReceiverView (Name : Type 0) : Type 0 where
  pub pool : Name
  pub mailbox : ℕ
  pub senders : ℕ
  pub got : ℕ → List Item

-- an item that was taken and not given back: its pool and its mailbox, its sender's number, and the item
pub record HeldView (Name : Type 0) : Type 0 where
  pub pool : Name
  pub mailbox : ℕ
  pub sender : ℕ
  pub item : Item

-- a tally: its pool, what was received of each sender in each mailbox whose receiver it gathered, and what each sender that it took in has sent in each mailbox
pub record TallyView (Name : Type 0) : Type 0 where
  pub pool : Name
  pub got : ℕ → Option (ℕ → List Item)
  pub known : ℕ → Option (ℕ → List Item)

-- the function with another value at one place
abbrev pub put_at : {A : Type 0} → ℕ → A → (ℕ → A) → ℕ → A
put_at place value f at = cond (at == place) value (f at)

module _ {Name : Type 0} where
  -- a sender, a receiver and the tally of a pool that was just opened
  abbrev pub opened_sender : Name → (mailboxes number nodes most : ℕ) → SenderView Name
  opened_sender pool mailboxes number nodes most = record {
    pool = pool;
    mailboxes = mailboxes;
    number = number;
    nodes = nodes;
    left = most;
    posted = 0;
    is_ended = λ mailbox. false;
    sent = λ mailbox. [];
  }

  abbrev pub opened_receiver : Name → (mailbox senders : ℕ) → ReceiverView Name
  opened_receiver pool mailbox senders = record { pool = pool; mailbox = mailbox; senders = senders; got = λ number. [] }

  abbrev pub opened_tally : Name → TallyView Name
  opened_tally pool = record { pool = pool; got = λ mailbox. None; known = λ number. None }

  -- a sender after a post to a mailbox, and after its end mark there
  abbrev pub with_post : SenderView Name → (mailbox line : ℕ) → (amount : ℤ) → SenderView Name
  with_post s mailbox line amount = record {
    pool = s.pool;
    mailboxes = s.mailboxes;
    number = s.number;
    nodes = s.nodes;
    left = s.left - 1;
    posted = s.posted + 1;
    is_ended = s.is_ended;
    sent = put_at mailbox (s.sent mailbox ++ Post line amount ∷ []) s.sent;
  }

  abbrev pub with_end : SenderView Name → (mailbox : ℕ) → SenderView Name
  with_end s mailbox = record {
    pool = s.pool;
    mailboxes = s.mailboxes;
    number = s.number;
    nodes = s.nodes;
    left = s.left;
    posted = s.posted;
    is_ended = put_at mailbox true s.is_ended;
    sent = put_at mailbox (s.sent mailbox ++ End ∷ []) s.sent;
  }

  -- a sender has ended in every mailbox
  abbrev pub HasEndedEverywhere : SenderView Name → Type 0
  HasEndedEverywhere s = (mailbox : ℕ) → mailbox < s.mailboxes → s.is_ended mailbox ≡ true

  -- a receiver after a take of this item
  abbrev pub with_item : ReceiverView Name → HeldView Name → ReceiverView Name
  with_item r h = record { pool = r.pool; mailbox = r.mailbox; senders = r.senders; got = put_at h.sender (r.got h.sender ++ h.item ∷ []) r.got }

  -- an item of this receiver's mailbox, of one of its senders, and within the limits
  abbrev pub IsItemFor : ReceiverView Name → HeldView Name → Type 0
  IsItemFor r h = (h.pool ≡ r.pool) × (h.mailbox ≡ r.mailbox) × (h.sender < r.senders) × IsInRange h.item

  -- the second receiver is the first after a take of this item
  abbrev pub HasGained : ReceiverView Name → ReceiverView Name → HeldView Name → Type 0
  HasGained old new h = IsItemFor old h × (new ≡ with_item old h)

  -- the sender is as it was, and had sent as many posts as it has nodes
  abbrev pub WasFull : SenderView Name → SenderView Name → Type 0
  WasFull old new = (new ≡ old) × (old.nodes ≤ old.posted)

  -- a tally after it gathered a receiver, and after it took in a sender
  abbrev pub with_receiver : TallyView Name → ReceiverView Name → TallyView Name
  with_receiver t r = record { pool = t.pool; got = put_at r.mailbox (Some r.got) t.got; known = t.known }

  abbrev pub with_sender : TallyView Name → SenderView Name → TallyView Name
  with_sender t s = record { pool = t.pool; got = t.got; known = put_at s.number (Some s.sent) t.known }

  -- of each gathered receiver and each sender that was taken in: what was received is the first part of what was sent there
  abbrev pub Begins : TallyView Name → Type 0
  Begins t = (mailbox number : ℕ) (got sent : ℕ → List Item) → t.got mailbox ≡ Some got → t.known number ≡ Some sent → IsFirstOf (got number) (sent mailbox)
