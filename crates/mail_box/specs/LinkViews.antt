-- How a clause sees the senders, the receiver and the held items of a linked queue.
use Rattle.std.specs.Prelude.{Bool, ℕ, ◌≡◌, List, false, true}
use Rattle.queue_core.specs.declared.entry.Entry.{Entry}
use Rattle.queue_core.specs.Mailbox.{is_among}
use Rattle.node_table.specs.declared.nodes.NodeSender.{NodeSender}
use Rattle.node_table.specs.Seats.{got_in, items_in, known_in}
use Rattle.node_table.specs.Views.{Name, table_of_held, table_of_receiver, table_of_sender}
use Rattle.node_table.specs.Views.{entry_of as entry_in, holding_of, receiver_of as receiver_seat, sender_of as sender_seat, taken_by as taken_in}
use Rattle.mail_box.specs.declared.link_mail.LinkHeld.{LinkHeld}
use Rattle.mail_box.specs.declared.link_mail.LinkReceiver.{LinkReceiver}
use Rattle.mail_box.specs.declared.link_mail.LinkSender.{LinkSender}
use Rattle.mail_box.specs.Mails.{HasGained, HeldView, ReceiverView, SenderView}

-- a sender to the one mailbox of a table, which has so many posts left, and has ended or not
abbrev pub sender_with : NodeSender → (left : ℕ) → (ended : Bool) → SenderView Name
sender_with s left ended = record {
  mailbox = table_of_sender s;
  number = (sender_seat s).number;
  nodes = (sender_seat s).shape.ring;
  left = left;
  is_ended = ended;
  sent = items_in 0 (sender_seat s).filled;
}

abbrev pub sender_of : LinkSender → SenderView Name
sender_of s = sender_with s.sender s.left s.ended

abbrev pub receiver_of : LinkReceiver → ReceiverView Name
receiver_of r = record {
  mailbox = table_of_receiver r.receiver;
  senders = (receiver_seat r.receiver).shape.senders;
  got = got_in (receiver_seat r.receiver).got;
  known = known_in 0 (receiver_seat r.receiver).taken_in;
}

abbrev pub held_of : LinkHeld → HeldView Name
held_of h = record { mailbox = table_of_held h.held; sender = (holding_of h.held).sender; item = (holding_of h.held).item }

-- from the first receiver to the second this item was taken
abbrev pub HasTaken : ReceiverView Name → ReceiverView Name → LinkHeld → Type 0
HasTaken old new h = HasGained old new (held_of h)

-- which of a sender's items it is
abbrev pub entry_of : LinkHeld → Entry
entry_of h = entry_in (holding_of h.held)

-- the items that were taken, and those of them that were given back, in order; the others are held
abbrev pub taken_by : LinkReceiver → List Entry
taken_by r = taken_in (receiver_seat r.receiver)

abbrev pub given_by : LinkReceiver → List Entry
given_by r = (receiver_seat r.receiver).given

-- an item is held: it was taken, and not given back
abbrev pub IsHeldBy : LinkReceiver → LinkHeld → Type 0
IsHeldBy r h = (is_among (entry_of h) (taken_by r) ≡ true) × (is_among (entry_of h) (given_by r) ≡ false)
