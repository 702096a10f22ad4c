-- What each seat at a table of nodes knows: its own part of the core, and of the mailboxes that the core shows. What
-- is in flight, and the order in which the items of all senders were exchanged in, nobody knows.
use Rattle.std.specs.Prelude.{ℕ, Bool, ◌≡◌, ◌<◌, ◌≤◌, ◌+◌, ◌==◌, ◌⊎◌, All, List, [], ◌∷◌, Option, None, Some, false, length, map, not, slice_index_or, true, if◌then◌else◌, ⊤}
use Rattle.std.specs.List.{filter}
use mathlib.Core.Option.{Option as Slot, some}
use lib.ListN.{get_elem?}
use Rattle.queue_core.specs.declared.TheConstants.{MOST_POOL_POSTS}
use Rattle.queue_core.specs.declared.entry.Entry.{Entry}
use Rattle.queue_core.specs.declared.entry.Entry.TheVariants.{Of, Stub}
use Rattle.queue_core.specs.declared.item.Item.{Item}
use Rattle.queue_core.specs.declared.reader.ReaderPoint.{ReaderPoint}
use Rattle.queue_core.specs.declared.reader.ReaderPoint.TheVariants as reads
use Rattle.queue_core.specs.declared.sender.SenderPoint.TheVariants as sends
use Rattle.queue_core.specs.Mailbox.{IsHeld, Mailbox, got, is_same, item_at, left_entries, passed_entries}
use Rattle.queue_core.specs.Pool.{Pool}
use Rattle.queue_core.specs.Pooled.{Pooled, has_ended_in, new_caller, new_reader, reader_in, sender_at, stub_in}
use Rattle.queue_core.specs.PoolShows.{node_in}
use Rattle.node_table.specs.declared.seats.Holding.{Holding}
use Rattle.node_table.specs.declared.seats.Known.{Known}
use Rattle.node_table.specs.declared.seats.Known.TheVariants.{Dealt, Sends, Receives, Holds, Tallies, Gone}
use Rattle.node_table.specs.declared.seats.Posting.{Posting}
use Rattle.node_table.specs.declared.seats.ReceiverSeat.{ReceiverSeat}
use Rattle.node_table.specs.declared.seats.SenderSeat.{SenderSeat}
use Rattle.node_table.specs.declared.seats.Shape.{Shape}
use Rattle.node_table.specs.declared.seats.TallySeat.{TallySeat}
use Rattle.node_table.specs.Layout.{slot_of}

-- so many senders and mailboxes, and so many ring nodes
pub record HasShape (shape : Shape) (c : Pooled) : Type 0 where
  pub senders : length c.senders ≡ shape.senders
  pub mailboxes : length c.heads ≡ shape.mailboxes
  pub ring : c.ring ≡ shape.ring
  pub most : c.most ≡ MOST_POOL_POSTS

-- ---- what was received, filled and taken in

-- what was received of one sender
abbrev pub got_in : List (ℕ × Item) → ℕ → List Item
got_in pairs p = map (λ pair. pair.1) (filter (λ pair. pair.0 == p) pairs)

-- what was filled in one mailbox
abbrev pub items_in : (b : ℕ) → List (ℕ × Item) → List Item
items_in b filled = map (λ pair. pair.1) (filter (λ pair. pair.0 == b) filled)

-- the entries of senders among some
abbrev pub own_entries : List Entry → List Entry
own_entries entries = filter (λ entry. not (is_same Stub entry)) entries

-- whether a sender has ended in a mailbox
abbrev pub has_ended : SenderSeat → (b : ℕ) → Bool
has_ended v b = slice_index_or v.ended b false

-- what a sender that was taken in has sent in a mailbox
abbrev pub known_in : (b : ℕ) → List SenderSeat → ℕ → Option (List Item)
known_in b [] p = None
known_in b (w ∷ ws) p = if p == w.number then Some (items_in b w.filled) else known_in b ws p

-- and in every mailbox
abbrev pub HasEndedEverywhere : SenderSeat → Type 0
HasEndedEverywhere v = (b : ℕ) → b < v.shape.mailboxes → has_ended v b ≡ true

-- the receiver has taken in every sender
abbrev pub AreTakenIn : ReceiverSeat → Type 0
AreTakenIn v = (p : ℕ) → p < v.shape.senders → (items : List Item) × (known_in v.mailbox v.taken_in p ≡ Some items)

-- ---- the parts: the tally's is the first, then come those of the senders, and then those of the receivers

abbrev pub sender_part : (p : ℕ) → ℕ
sender_part p = p + 1

abbrev pub receiver_part : Shape → (b : ℕ) → ℕ
receiver_part shape b = shape.senders + (b + 1)

-- ---- what a seat alone has: a part, or the holding of a node

pub data Owned : Type 0 where
  Part : ℕ → Owned
  Node : ℕ → Owned

-- the part of a sender that was taken in, and of a receiver that was gathered
abbrev pub IsPartIn : List SenderSeat → (part : ℕ) → Type 0
IsPartIn [] part = ⊥
IsPartIn (a ∷ seats) part = (part ≡ sender_part a.number) ⊎ IsPartIn seats part

abbrev pub IsPartOf : List ReceiverSeat → (part : ℕ) → Type 0
IsPartOf [] part = ⊥
IsPartOf (r ∷ seats) part = (part ≡ receiver_part r.shape r.mailbox) ⊎ IsPartOf seats part

-- Whoever takes a seat in has its part. The tally has the parts too that it has not dealt.
abbrev pub Has : Known → Owned → Type 0
Has (Dealt shape turn) (Part part) = part ≡ turn + 1
Has (Dealt shape turn) (Node n) = ⊥
Has (Sends v) (Part part) = part ≡ sender_part v.number
Has (Sends v) (Node n) = ⊥
Has (Receives v) (Part part) = (part ≡ receiver_part v.shape v.mailbox) ⊎ IsPartIn v.taken_in part
Has (Receives v) (Node n) = (h : Holding) × (v.at_hand ≡ Some h) × (h.node ≡ n)
Has (Holds h) (Part part) = ⊥
Has (Holds h) (Node n) = h.node ≡ n
Has (Tallies v) (Part part) = (part ≡ 0) ⊎ ((v.dealt < part) ⊎ (IsPartOf v.gathered part ⊎ IsPartIn v.taken_in part))
Has (Tallies v) (Node n) = ⊥
Has Gone thing = ⊥

-- ---- what the seats know

-- An entry is held, and this is its node and its item.
pub record IsHolding (c : Pooled) (q : Pool) (h : Holding) : Type 0 where
  pub shape : HasShape h.shape c
  pub mailbox : h.mailbox < length c.heads
  pub held : IsHeld (q.boxes h.mailbox) h.sender h.place
  pub node : node_in c q h.mailbox (Of h.sender h.place) ≡ h.node
  pub item : item_at (q.boxes h.mailbox) h.sender h.place ≡ h.item

-- a sender that has done nothing, and its slot
pub record IsNewSender (c : Pooled) (q : Pool) (homes : List (Slot Posting)) (p : ℕ) : Type 0 where
  pub caller : sender_at c p ≡ new_caller
  pub going : (b : ℕ) → b < length c.heads → has_ended_in c b p ≡ false
  pub items : (b : ℕ) → (q.boxes b).items p ≡ []
  pub slot : (posting : Posting) × (get_elem? homes (slot_of p) ≡ some (some posting))

pub record IsNewReceiver (c : Pooled) (q : Pool) (b : ℕ) : Type 0 where
  pub reader : reader_in c b ≡ new_reader (stub_in c b)
  pub passed : passed_entries (q.boxes b) ≡ []
  pub given : (q.boxes b).given ≡ []

-- What is dealt in its turn has done nothing: the senders come first.
pub record IsNew (c : Pooled) (q : Pool) (homes : List (Slot Posting)) (shape : Shape) (turn : ℕ) : Type 0 where
  pub sender : turn < shape.senders → IsNewSender c q homes turn
  pub receiver : (b : ℕ) → b < shape.mailboxes → turn ≡ shape.senders + b → IsNewReceiver c q b

pub record IsDealtSeat (c : Pooled) (q : Pool) (homes : List (Slot Posting)) (shape : Shape) (turn : ℕ) : Type 0 where
  pub shape_is : HasShape shape c
  pub within : turn < shape.senders + shape.mailboxes
  pub new : IsNew c q homes shape turn

-- What a sender has filled in each mailbox. Its next ring node follows from its count.
pub record IsSenderSeat (c : Pooled) (q : Pool) (v : SenderSeat) : Type 0 where
  pub shape : HasShape v.shape c
  pub within : v.number < v.shape.senders
  pub caller : sender_at c v.number ≡ v.caller
  pub flags : length v.ended ≡ v.shape.mailboxes
  pub ended : (b : ℕ) → b < v.shape.mailboxes → has_ended_in c b v.number ≡ has_ended v b
  pub items : (b : ℕ) → (q.boxes b).items v.number ≡ items_in b v.filled

-- What a sender knew that was taken in is so still: it is in no call, and makes none.
pub record IsTakenIn (c : Pooled) (q : Pool) (v : SenderSeat) : Type 0 where
  pub seat : IsSenderSeat c q v
  pub rest : v.caller.point ≡ sends.Rest

-- an entry is left, and behind it the stub alone
abbrev pub HasStubBehind : Mailbox → Type 0
HasStubBehind m = (entry : Entry) × (left_entries m ≡ entry ∷ Stub ∷ [])

-- Once every sender was taken in, nothing but the tail is left where the receiver has found no next, and then the stub alone behind it.
abbrev pub IsAlone : Mailbox → ReaderPoint → Type 0
IsAlone m reads.Rest = ⊤
IsAlone m reads.Second = ⊤
IsAlone m reads.StubHead = length (left_entries m) ≡ 1
IsAlone m reads.NodeHead = length (left_entries m) ≡ 1
IsAlone m reads.Null = length (left_entries m) ≡ 1
IsAlone m reads.Swap = length (left_entries m) ≡ 1
IsAlone m (reads.Link before) = HasStubBehind m
IsAlone m reads.Last = HasStubBehind m

-- What a receiver knows of its mailbox. It stays so once the receiver was gathered: nobody else reads there.
pub record KnowsMailbox (c : Pooled) (q : Pool) (v : ReceiverSeat) : Type 0 where
  pub shape : HasShape v.shape c
  pub within : v.mailbox < v.shape.mailboxes
  pub reader : reader_in c v.mailbox ≡ v.reader
  pub passed : passed_entries (q.boxes v.mailbox) ≡ v.passed
  pub given : (q.boxes v.mailbox).given ≡ v.given
  pub got : got (q.boxes v.mailbox) ≡ v.got

pub record IsReceiverSeat (c : Pooled) (q : Pool) (v : ReceiverSeat) : Type 0 where
  pub its_mailbox : KnowsMailbox c q v
  pub at_hand : (h : Holding) → v.at_hand ≡ Some h → IsHolding c q h × (h.mailbox ≡ v.mailbox)
  pub taken_in : All (IsTakenIn c q) v.taken_in
  pub ended : All (λ a. has_ended a v.mailbox ≡ true) v.taken_in
  pub alone : AreTakenIn v → IsAlone (q.boxes v.mailbox) v.reader.point

pub record IsTallySeat (c : Pooled) (q : Pool) (homes : List (Slot Posting)) (v : TallySeat) : Type 0 where
  pub shape : HasShape v.shape c
  pub waiting : (turn : ℕ) → v.dealt ≤ turn → turn < v.shape.senders + v.shape.mailboxes → IsNew c q homes v.shape turn
  pub gathered : All (KnowsMailbox c q) v.gathered
  pub taken_in : All (IsTakenIn c q) v.taken_in
  pub ended : All HasEndedEverywhere v.taken_in

abbrev pub IsSeat : Pooled → Pool → List (Slot Posting) → Known → Type 0
IsSeat c q homes (Dealt shape turn) = IsDealtSeat c q homes shape turn
IsSeat c q homes (Sends v) = IsSenderSeat c q v
IsSeat c q homes (Receives v) = IsReceiverSeat c q v
IsSeat c q homes (Holds h) = IsHolding c q h
IsSeat c q homes (Tallies v) = IsTallySeat c q homes v
IsSeat c q homes Gone = ⊤
