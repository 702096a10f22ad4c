-- How a clause sees the ends of a pool over one table of nodes.
use Rattle.std.specs.Prelude.{ℕ, ◌≡◌, ◌==◌, List, [], ◌∷◌, None, Option, Some, false, if◌then◌else◌, true}
use Rattle.queue_core.specs.declared.entry.Entry.{Entry}
use Rattle.queue_core.specs.declared.item.Item.{Item}
use Rattle.queue_core.specs.Mailbox.{is_among}
use Rattle.node_table.specs.declared.seats.ReceiverSeat.{ReceiverSeat}
use Rattle.node_table.specs.declared.seats.SenderSeat.{SenderSeat}
use Rattle.node_table.specs.Seats.{got_in, has_ended, items_in}
use Rattle.node_table.specs.Views.{Name, table_of_held, table_of_receiver, table_of_sender, table_of_tally}
use Rattle.node_table.specs.Views.{entry_of as entry_in, holding_of, receiver_of as receiver_seat, sender_of as sender_seat, taken_by as taken_in, tally_of as tally_seat}
use Rattle.node_table.specs.declared.nodes.NodeHeld.{NodeHeld}
use Rattle.node_table.specs.declared.nodes.NodeSender.{NodeSender}
use Rattle.node_table.specs.declared.nodes.NodeReceiver.{NodeReceiver}
use Rattle.node_table.specs.declared.nodes.NodeTally.{NodeTally}
use Rattle.pool_box.specs.declared.pool_mail.PoolSender.{PoolSender}
use Rattle.pool_box.specs.Pools.{HeldView, ReceiverView, SenderView, TallyView}

-- a sender of the table that has so many posts left
abbrev pub sender_with : NodeSender → (left : ℕ) → SenderView Name
sender_with s left = record {
  pool = table_of_sender s;
  mailboxes = (sender_seat s).shape.mailboxes;
  number = (sender_seat s).number;
  nodes = (sender_seat s).shape.ring;
  left = left;
  posted = (sender_seat s).caller.count;
  is_ended = has_ended (sender_seat s);
  sent = λ mailbox. items_in mailbox (sender_seat s).filled;
}

abbrev pub sender_of : PoolSender → SenderView Name
sender_of s = sender_with s.sender s.left

abbrev pub receiver_of : NodeReceiver → ReceiverView Name
receiver_of r = record { pool = table_of_receiver r; mailbox = (receiver_seat r).mailbox; senders = (receiver_seat r).shape.senders; got = got_in (receiver_seat r).got }

abbrev pub held_of : NodeHeld → HeldView Name
held_of h = record { pool = table_of_held h; mailbox = (holding_of h).mailbox; sender = (holding_of h).sender; item = (holding_of h).item }

-- what was received in a mailbox whose receiver was gathered, and what a sender that was taken in has sent
abbrev pub got_by : List ReceiverSeat → (mailbox : ℕ) → Option (ℕ → List Item)
got_by [] mailbox = None
got_by (r ∷ rs) mailbox = if mailbox == r.mailbox then Some (got_in r.got) else got_by rs mailbox

abbrev pub sent_by : List SenderSeat → (number : ℕ) → Option (ℕ → List Item)
sent_by [] number = None
sent_by (s ∷ ss) number = if number == s.number then Some (λ mailbox. items_in mailbox s.filled) else sent_by ss number

abbrev pub tally_of : NodeTally → TallyView Name
tally_of t = record { pool = table_of_tally t; got = got_by (tally_seat t).gathered; known = sent_by (tally_seat t).taken_in }

-- the items that were taken, and those of them that were given back, in order; the others are held
abbrev pub taken_by : NodeReceiver → List Entry
taken_by r = taken_in (receiver_seat r)

abbrev pub given_by : NodeReceiver → List Entry
given_by r = (receiver_seat r).given

-- which of a sender's items in the mailbox it is
abbrev pub entry_of : NodeHeld → Entry
entry_of h = entry_in (holding_of h)

-- an item is held: it was taken, and not given back
abbrev pub IsHeldBy : NodeReceiver → NodeHeld → Type 0
IsHeldBy r h = (is_among (entry_of h) (taken_by r) ≡ true) × (is_among (entry_of h) (given_by r) ≡ false)
