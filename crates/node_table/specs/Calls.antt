-- What the ends of a table of nodes keep to between two calls, and what their calls leave.
use Rattle.std.specs.Prelude.{ℕ, ◌≡◌, ◌<◌, ◌+◌, ◌/◌, ◌++◌, ◌∷◌, Bool, [], None, Some, false, if◌then◌else◌, ⊤}
use Rattle.atomic_table.specs.Table.{Me}
use Rattle.queue_core.specs.declared.entry.Entry.TheVariants.{Of}
use Rattle.queue_core.specs.declared.item.Item.{Item}
use Rattle.queue_core.specs.declared.item.Took.{Took}
use Rattle.queue_core.specs.declared.reader.ReaderPoint.{ReaderPoint}
use Rattle.queue_core.specs.declared.reader.ReaderPoint.TheVariants as reads
use Rattle.queue_core.specs.declared.sender.SenderPoint.{SenderPoint}
use Rattle.queue_core.specs.declared.sender.SenderPoint.TheVariants as sends
use Rattle.queue_core.specs.Mailbox.{is_among}
use Rattle.node_table.specs.declared.seats.Holding.{Holding}
use Rattle.node_table.specs.declared.seats.Known.{Known}
use Rattle.node_table.specs.declared.seats.Known.TheVariants.{Holds, Receives, Sends}
use Rattle.node_table.specs.declared.seats.Posting.{Posting}
use Rattle.node_table.specs.declared.seats.ReceiverSeat.{ReceiverSeat}
use Rattle.node_table.specs.declared.seats.SenderSeat.{SenderSeat}
use Rattle.node_table.specs.declared.seats.Shape.{Shape}
use Rattle.node_table.specs.Layout.{nodes_in, slot_of}
use Rattle.queue_core.specs.Items.{IsInRange}
use Rattle.queue_core.specs.Matches.{MatchTook}
use Rattle.node_table.specs.Seats.{own_entries}
use Rattle.node_table.specs.Asks.{holding_in, receiver_in, sender_in}
use Rattle.node_table.specs.Tells.{BeginsAt, IsAwaitedAt, IsHeldAt, IsWholeAt, after_sending, filling, found_full, in_slot}

-- ---- a sender

-- it is in no call, and has its slot
pub record IsAtRestSender (shape : Shape) (number count : ℕ) (me : Me Posting Known) : Type 0 where
  pub is : me ≡ (Sends (sender_in me.0), (slot_of number, in_slot me.1) ∷ [])
  pub shape_is : (sender_in me.0).shape ≡ shape
  pub number_is : (sender_in me.0).number ≡ number
  pub count_is : (sender_in me.0).caller.count ≡ count
  pub rest : (sender_in me.0).caller.point ≡ sends.Rest

-- an item was filled and sent
abbrev pub sent : Posting → SenderSeat → SenderSeat
sent laid v = after_sending laid.item (filling sends.Rest laid v)

-- a post was sent, or its node was not free
abbrev pub after_post : (is_sent : Bool) → Posting → SenderSeat → SenderSeat
after_post is_sent laid v = if is_sent then sent laid v else found_full v

-- the item whose amount is to be stored is in the queue
abbrev pub finished_at : SenderPoint → SenderSeat → SenderSeat
finished_at (sends.Amount item) v = after_sending item v
finished_at _ v = v

-- and the one whose null is to be stored
abbrev pub put_in_at : SenderPoint → SenderSeat → SenderSeat
put_in_at (sends.Null item) v = after_sending item v
put_in_at _ v = v

-- ---- an item that was taken

pub record IsHeldSeat (node number : ℕ) (item : Item) (me : Me Posting Known) : Type 0 where
  pub holds : me ≡ (Holds (holding_in me.0), [])
  pub node_is : (holding_in me.0).node ≡ node
  pub number_is : (holding_in me.0).sender ≡ number
  pub item_is : (holding_in me.0).item ≡ item
  pub low : node < nodes_in (holding_in me.0).shape

-- ---- a receiver

-- where it is in a take, with nothing at hand
pub record IsTakingAt (At : ReaderPoint → Type 0) (shape : Shape) (mailbox tail : ℕ) (me : Me Posting Known) : Type 0 where
  pub is_receiver : me ≡ (Receives (receiver_in me.0), [])
  pub shape_is : (receiver_in me.0).shape ≡ shape
  pub mailbox_is : (receiver_in me.0).mailbox ≡ mailbox
  pub at : At (receiver_in me.0).reader.point
  pub tail_is : (receiver_in me.0).reader.tail ≡ tail
  pub free : (receiver_in me.0).at_hand ≡ None
  pub low : tail < nodes_in shape

abbrev pub AtRest : ReaderPoint → Type 0
AtRest point = point ≡ reads.Rest

abbrev pub AtNode : ReaderPoint → Type 0
AtNode reads.Rest = ⊤
AtNode reads.Second = ⊤
AtNode _ = ⊥

-- what was received, given back and taken in is as it was
pub record HasSameMail (v w : ReceiverSeat) : Type 0 where
  pub passed : own_entries w.passed ≡ own_entries v.passed
  pub given : w.given ≡ v.given
  pub got : w.got ≡ v.got
  pub taken_in : w.taken_in ≡ v.taken_in

-- a node was taken, and what stands in it is at hand
pub record HasGotNode (shape : Shape) (node : ℕ) (v w : ReceiverSeat) : Type 0 where
  pub held : Holding
  pub hand : w.at_hand ≡ Some held
  pub of_shape : held.shape ≡ shape
  pub of_mailbox : held.mailbox ≡ v.mailbox
  pub node_is : held.node ≡ node
  pub block : node / (shape.ring + shape.mailboxes) ≡ held.sender
  pub within : held.sender < shape.senders
  pub ranged : IsInRange held.item
  pub passed : own_entries w.passed ≡ own_entries v.passed ++ Of held.sender held.place ∷ []
  pub fresh : is_among (Of held.sender held.place) (own_entries v.passed) ≡ false
  pub kept : IsHeldAt w held
  pub given : w.given ≡ v.given
  pub got : w.got ≡ v.got ++ (held.sender, held.item) ∷ []
  pub taken_in : w.taken_in ≡ v.taken_in
  pub begins : BeginsAt w

-- what is left of a take when it has found its node, or nothing
pub record HasFound (shape : Shape) (mailbox : ℕ) (took : Took ℕ × ℕ) (old new : Me Posting Known) : Type 0 where
  pub is_receiver : new ≡ (Receives (receiver_in new.0), [])
  pub shape_is : (receiver_in new.0).shape ≡ shape
  pub mailbox_is : (receiver_in new.0).mailbox ≡ mailbox
  pub point : (receiver_in new.0).reader.point ≡ reads.Rest
  pub tail_is : (receiver_in new.0).reader.tail ≡ took.1
  pub low : took.1 < nodes_in shape
  pub found : MatchTook took.0 (λ node. (node < nodes_in shape) × HasGotNode shape node (receiver_in old.0) (receiver_in new.0))
      (((receiver_in new.0).at_hand ≡ None) × HasSameMail (receiver_in old.0) (receiver_in new.0) × IsWholeAt (receiver_in old.0))
      (((receiver_in new.0).at_hand ≡ None) × HasSameMail (receiver_in old.0) (receiver_in new.0) × IsAwaitedAt (receiver_in old.0))

-- in no call, with the item of a node at hand
pub record IsHolder (shape : Shape) (node : ℕ) (me : Me Posting Known) : Type 0 where
  pub is_receiver : me ≡ (Receives (receiver_in me.0), [])
  pub shape_is : (receiver_in me.0).shape ≡ shape
  pub held : Holding
  pub hand : (receiver_in me.0).at_hand ≡ Some held
  pub of_shape : held.shape ≡ shape
  pub node_is : held.node ≡ node
  pub block : node / (shape.ring + shape.mailboxes) ≡ held.sender
  pub low : node < nodes_in shape
  pub point : (receiver_in me.0).reader.point ≡ reads.Rest
