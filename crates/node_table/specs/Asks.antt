-- Where a seat at a table of nodes is before a step, as the step asks for it.
use Rattle.std.specs.Prelude.{unsigned_abs, ℤ, ℕ, ◌≡◌, ◌<◌, ◌≤◌, ◌+◌, ◌-◌, ◌∷◌, Bool, false, true, [], None, Some, if◌then◌else◌}
use Rattle.atomic_table.specs.Table.{Me}
use Rattle.queue_core.specs.declared.TheConstants.{MOST_AMOUNT, MOST_POOL_POSTS, MOST_POSTS}
use Rattle.queue_core.specs.declared.item.Item.{Item}
use Rattle.queue_core.specs.declared.item.Item.TheVariants.{End}
use Rattle.queue_core.specs.declared.reader.ReaderPoint.{ReaderPoint}
use Rattle.queue_core.specs.declared.reader.ReaderPoint.TheVariants as reads
use Rattle.queue_core.specs.declared.sender.SenderPoint.{SenderPoint}
use Rattle.queue_core.specs.declared.sender.SenderPoint.TheVariants as sends
use Rattle.node_table.specs.declared.seats.Holding.{Holding}
use Rattle.node_table.specs.declared.seats.Known.{Known}
use Rattle.node_table.specs.declared.seats.Known.TheVariants.{Dealt, Sends, Receives, Holds, Tallies}
use Rattle.node_table.specs.declared.seats.Posting.{Posting}
use Rattle.node_table.specs.declared.seats.ReceiverSeat.{ReceiverSeat}
use Rattle.node_table.specs.declared.seats.SenderSeat.{SenderSeat}
use Rattle.node_table.specs.declared.seats.Shape.{Shape}
use Rattle.node_table.specs.declared.seats.TallySeat.{TallySeat}
use Rattle.node_table.specs.Rule.{opened_tally}
use Rattle.node_table.specs.Seats.{HasEndedEverywhere, has_ended}
use Rattle.node_table.specs.Tells.{at_point, filling, found_full, in_slot, new_receiver, new_sender, node_of}
use Rattle.node_table.specs.Layout.{slot_of}

-- ---- what a seat knows, by its kind

abbrev pub no_shape : Shape
no_shape = record { senders = 0; mailboxes = 0; ring = 0 }

-- of a sender or a receiver that has not begun: what it knows once it has
abbrev pub sender_in : Known → SenderSeat
sender_in (Sends v) = v
sender_in (Dealt shape p) = new_sender shape p
sender_in known = new_sender no_shape 0

abbrev pub receiver_in : Known → ReceiverSeat
receiver_in (Receives v) = v
receiver_in (Dealt shape turn) = new_receiver shape (turn - shape.senders)
receiver_in known = new_receiver no_shape 0

abbrev pub holding_in : Known → Holding
holding_in (Holds h) = h
holding_in known = record { shape = no_shape; mailbox = 0; node = 0; sender = 0; place = 0; item = End }

abbrev pub tally_in : Known → TallySeat
tally_in (Tallies v) = v
tally_in known = opened_tally no_shape 0

-- ---- a sender

-- it was dealt, and has not begun
abbrev pub IsDealtSender : Shape → (p : ℕ) → Me Posting Known → Type 0
IsDealtSender shape p me = (me ≡ (Dealt shape p, [])) × (p < shape.senders)

-- it is in no call, has its slot, has not ended in the mailbox, and has room for one more post, which is within the limits
pub record IsPosting (shape : Shape) (number count mailbox line : ℕ) (amount : ℤ) (me : Me Posting Known) : Type 0 where
  pub is : me ≡ (Sends (sender_in me.0), (slot_of number, in_slot me.1) ∷ [])
  pub shape_is : (sender_in me.0).shape ≡ shape
  pub number_is : (sender_in me.0).number ≡ number
  pub count_is : (sender_in me.0).caller.count ≡ count
  pub rest : (sender_in me.0).caller.point ≡ sends.Rest
  pub there : mailbox < shape.mailboxes
  pub going : has_ended (sender_in me.0) mailbox ≡ false
  pub few : count < MOST_POOL_POSTS
  pub line_low : line < MOST_POSTS
  pub amount_within : (0 < unsigned_abs amount) × (unsigned_abs amount ≤ MOST_AMOUNT)

-- it is in no call, has its slot, and has not ended in the mailbox
pub record IsEnding (shape : Shape) (number mailbox : ℕ) (me : Me Posting Known) : Type 0 where
  pub is : me ≡ (Sends (sender_in me.0), (slot_of number, in_slot me.1) ∷ [])
  pub shape_is : (sender_in me.0).shape ≡ shape
  pub number_is : (sender_in me.0).number ≡ number
  pub rest : (sender_in me.0).caller.point ≡ sends.Rest
  pub there : mailbox < shape.mailboxes
  pub going : has_ended (sender_in me.0) mailbox ≡ false

-- it is in a call in this mailbox, with this item, which it puts into this node
pub record IsSending (shape : Shape) (point : SenderPoint) (mailbox : ℕ) (item : Item) (node : ℕ) (me : Me Posting Known) : Type 0 where
  pub is : me ≡ (Sends (sender_in me.0), me.1)
  pub shape_is : (sender_in me.0).shape ≡ shape
  pub at : (sender_in me.0).caller.point ≡ point
  pub mailbox_is : (sender_in me.0).caller.mailbox ≡ mailbox
  pub there : mailbox < shape.mailboxes
  pub node_is : node_of (sender_in me.0) mailbox item ≡ node

-- it is in no call, and has its slot
pub record IsResting (me : Me Posting Known) : Type 0 where
  pub is : me ≡ (Sends (sender_in me.0), (slot_of (sender_in me.0).number, in_slot me.1) ∷ [])
  pub rest : (sender_in me.0).caller.point ≡ sends.Rest

-- and has given it back
pub record HasLeft (me : Me Posting Known) : Type 0 where
  pub is : me ≡ (Sends (sender_in me.0), [])
  pub rest : (sender_in me.0).caller.point ≡ sends.Rest

-- it found its next ring node free, and has filled it, or found it full
abbrev pub after_look : (is_free : Bool) → Posting → SenderSeat → SenderSeat
after_look is_free laid v = if is_free then filling (sends.Line laid.item) laid v else found_full v

-- it has exchanged its node in, after this one
abbrev pub after_swap_on : SenderPoint → (before : ℕ) → SenderSeat → SenderSeat
after_swap_on (sends.Swap item) before v = at_point (sends.Link item before) v
after_swap_on _ before v = v

-- ---- a receiver

-- it was dealt, and has not begun
abbrev pub IsDealtReceiver : Shape → (b : ℕ) → Me Posting Known → Type 0
IsDealtReceiver shape b me = (me ≡ (Dealt shape (shape.senders + b), [])) × (b < shape.mailboxes)

-- it is at a point, and its tail is a node
pub record IsReading (At : ReaderPoint → Type 0) (shape : Shape) (mailbox tail : ℕ) (me : Me Posting Known) : Type 0 where
  pub is_receiver : me ≡ (Receives (receiver_in me.0), [])
  pub shape_is : (receiver_in me.0).shape ≡ shape
  pub mailbox_is : (receiver_in me.0).mailbox ≡ mailbox
  pub at : At (receiver_in me.0).reader.point
  pub tail_is : (receiver_in me.0).reader.tail ≡ tail

-- it is in no call, and has an item at hand, which stands in this node
pub record HasAtHand (shape : Shape) (node : ℕ) (me : Me Posting Known) : Type 0 where
  pub is_receiver : me ≡ (Receives (receiver_in me.0), [])
  pub shape_is : (receiver_in me.0).shape ≡ shape
  pub holding : Holding
  pub hand : (receiver_in me.0).at_hand ≡ Some holding
  pub node_is : holding.node ≡ node
  pub rest : (receiver_in me.0).reader.point ≡ reads.Rest

-- it has something at hand
pub record IsHandingOut (me : Me Posting Known) : Type 0 where
  pub is_receiver : me ≡ (Receives (receiver_in me.0), [])
  pub holding : Holding
  pub hand : (receiver_in me.0).at_hand ≡ Some holding

-- it has nothing at hand, and the other seat is that of a holding in its mailbox
pub record IsTakingBack (me other : Me Posting Known) : Type 0 where
  pub is_receiver : me ≡ (Receives (receiver_in me.0), [])
  pub free : (receiver_in me.0).at_hand ≡ None
  pub held : other ≡ (Holds (holding_in other.0), [])
  pub same : (holding_in other.0).mailbox ≡ (receiver_in me.0).mailbox

-- it is in no call
pub record IsAtRest (me : Me Posting Known) : Type 0 where
  pub is_receiver : me ≡ (Receives (receiver_in me.0), [])
  pub rest : (receiver_in me.0).reader.point ≡ reads.Rest

-- ---- the tally

abbrev pub IsTally : Me Posting Known → Type 0
IsTally me = me ≡ (Tallies (tally_in me.0), [])

-- it has a seat to deal, and has gathered and taken in nothing
pub record IsDealing (me : Me Posting Known) : Type 0 where
  pub is_tally : me ≡ (Tallies (opened_tally (tally_in me.0).shape (tally_in me.0).dealt), [])
  pub more : (tally_in me.0).dealt < (tally_in me.0).shape.senders + (tally_in me.0).shape.mailboxes

-- a receiver in no call, and a sender that has left and has ended in its mailbox
pub record IsTakingIn (me other : Me Posting Known) : Type 0 where
  pub receiver : IsAtRest me
  pub sender : HasLeft other
  pub ended : has_ended (sender_in other.0) (receiver_in me.0).mailbox ≡ true

-- a receiver, and the tally that gathers it
pub record IsGathering (me other : Me Posting Known) : Type 0 where
  pub is_tally : IsTally me
  pub receiver : other ≡ (Receives (receiver_in other.0), [])

-- a sender that has left and has ended in every mailbox, and the tally that takes it in
pub record IsTallying (me other : Me Posting Known) : Type 0 where
  pub is_tally : IsTally me
  pub sender : HasLeft other
  pub ended : HasEndedEverywhere (sender_in other.0)
