-- How a clause sees the ends of a table of nodes.
use Rattle.std.specs.Prelude.{◌≡◌, ◌<◌, ◌≤◌, ◌++◌, ◌∷◌, ℕ, HoldsAt, List, [], false}
use Rattle.atomic_table.specs.Seated.{TableId}
use Rattle.queue_core.specs.declared.entry.Entry.{Entry}
use Rattle.queue_core.specs.declared.entry.Entry.TheVariants.{Of}
use Rattle.queue_core.specs.Mailbox.{is_among}
use Rattle.node_table.specs.declared.nodes.NodeHeld.{NodeHeld}
use Rattle.node_table.specs.declared.nodes.NodeReceiver.{NodeReceiver}
use Rattle.node_table.specs.declared.nodes.NodeSender.{NodeSender}
use Rattle.node_table.specs.declared.nodes.NodeTally.{NodeTally}
use Rattle.node_table.specs.declared.seats.Holding.{Holding}
use Rattle.node_table.specs.declared.seats.ReceiverSeat.{ReceiverSeat}
use Rattle.node_table.specs.declared.seats.SenderSeat.{SenderSeat}
use Rattle.node_table.specs.declared.seats.Shape.{Shape}
use Rattle.node_table.specs.declared.seats.TallySeat.{TallySeat}
use Rattle.node_table.specs.Asks.{holding_in, receiver_in, sender_in, tally_in}
use Rattle.queue_core.specs.Items.{IsInRange}
use Rattle.node_table.specs.Seats.{own_entries}
use Rattle.node_table.specs.Tells.{BeginsAt, IsAwaitedAt, IsHeldAt, IsWholeAt, found_full, new_receiver, new_sender}

-- a table, and its shape
pub record Name : Type 0 where
  pub table : TableId
  pub shape : Shape

-- what each end knows, and the table that it is of
abbrev pub sender_of : NodeSender → SenderSeat
sender_of s = sender_in s.seat.me.0

abbrev pub table_of_sender : NodeSender → Name
table_of_sender s = record { table = s.seat.table_id; shape = (sender_of s).shape }

abbrev pub receiver_of : NodeReceiver → ReceiverSeat
receiver_of r = receiver_in r.seat.me.0

abbrev pub table_of_receiver : NodeReceiver → Name
table_of_receiver r = record { table = r.seat.table_id; shape = (receiver_of r).shape }

abbrev pub holding_of : NodeHeld → Holding
holding_of h = holding_in h.seat.me.0

abbrev pub table_of_held : NodeHeld → Name
table_of_held h = record { table = h.seat.table_id; shape = (holding_of h).shape }

abbrev pub tally_of : NodeTally → TallySeat
tally_of t = tally_in t.seat.me.0

abbrev pub table_of_tally : NodeTally → Name
table_of_tally t = record { table = t.seat.table_id; shape = (tally_of t).shape }

-- ---- what was just opened

-- the senders of a table by number, and its receivers by mailbox
abbrev pub AreNewSenders : TableId → Shape → List NodeSender → Type 0
AreNewSenders table shape senders = (p : ℕ) → p < shape.senders → HoldsAt (λ s. (s.seat.table_id ≡ table) × (sender_of s ≡ new_sender shape p)) senders p

abbrev pub AreNewReceivers : TableId → Shape → List NodeReceiver → Type 0
AreNewReceivers table shape receivers = (b : ℕ) → b < shape.mailboxes → HoldsAt (λ r. (r.seat.table_id ≡ table) × (receiver_of r ≡ new_receiver shape b)) receivers b

-- ---- a sender that could not send

-- it found its next ring node not given back, and had sent as many posts as it has ring nodes
abbrev pub WasFull : SenderSeat → SenderSeat → Type 0
WasFull v w = (w ≡ found_full v) × (v.shape.ring ≤ v.caller.count)

-- ---- what a receiver has taken

-- the entries of senders that were taken, in order; those of them that were not given back are held
abbrev pub taken_by : ReceiverSeat → List Entry
taken_by v = own_entries v.passed

abbrev pub entry_of : Holding → Entry
entry_of h = Of h.sender h.place

-- The receiver has taken an item that it had not taken before, and holds it. All else is as it was.
pub record HasTaken (h : Holding) (v w : ReceiverSeat) : Type 0 where
  pub shape : w.shape ≡ v.shape
  pub mailbox : w.mailbox ≡ v.mailbox
  pub of_mailbox : h.mailbox ≡ v.mailbox
  pub of_sender : h.sender < v.shape.senders
  pub ranged : IsInRange h.item
  pub fresh : is_among (entry_of h) (taken_by v) ≡ false
  pub taken : taken_by w ≡ taken_by v ++ entry_of h ∷ []
  pub given : w.given ≡ v.given
  pub held : IsHeldAt w h
  pub got : w.got ≡ v.got ++ (h.sender, h.item) ∷ []
  pub taken_in : w.taken_in ≡ v.taken_in
  pub begins : BeginsAt w

-- The second receiver is the first after it took this item, which is of its table.
abbrev pub HasTakenItem : NodeReceiver → NodeReceiver → NodeHeld → Type 0
HasTakenItem old new h = (table_of_held h ≡ table_of_receiver old) × HasTaken (holding_of h) (receiver_of old) (receiver_of new)

-- What the receiver has taken, given back, received and taken in is as it was.
pub record HasSame (v w : ReceiverSeat) : Type 0 where
  pub shape : w.shape ≡ v.shape
  pub mailbox : w.mailbox ≡ v.mailbox
  pub taken : taken_by w ≡ taken_by v
  pub given : w.given ≡ v.given
  pub got : w.got ≡ v.got
  pub taken_in : w.taken_in ≡ v.taken_in

-- It found nothing: all is received of the senders that it took in, or some sender was not taken in.
abbrev pub WasWhole : ReceiverSeat → ReceiverSeat → Type 0
WasWhole v w = HasSame v w × IsWholeAt v

abbrev pub WasAwaited : ReceiverSeat → ReceiverSeat → Type 0
WasAwaited v w = HasSame v w × IsAwaitedAt v

-- What the receiver has taken, received and taken in is as it was, and so is its mailbox.
abbrev pub HasKept : ReceiverSeat → ReceiverSeat → Type 0
HasKept v w = (taken_by w ≡ taken_by v) × (w.got ≡ v.got) × (w.taken_in ≡ v.taken_in) × (w.mailbox ≡ v.mailbox)
