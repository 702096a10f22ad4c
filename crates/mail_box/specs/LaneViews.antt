-- How a clause sees the senders, the receiver and the held items of a mailbox of lanes.
use Rattle.std.specs.Prelude.{◌≡◌, ◌<◌, ◌≤◌, ℕ, HoldsAt, List, [], Option, Some, None, cond, map, slice_index_or, vec_items, vec_len}
use Rattle.std.specs.Arc.{arc_value}
use Rattle.queue_core.specs.declared.item.Item.{Item}
use Rattle.crossbeam_queue.specs.Passes.{Pass, view}
use Rattle.mail_box.specs.declared.lane.Log.{Log}
use Rattle.mail_box.specs.declared.lane_mail.Lanes.{Lanes}
use Rattle.mail_box.specs.declared.lane_mail.LaneSender.{LaneSender}
use Rattle.mail_box.specs.declared.lane_mail.LaneReceiver.{LaneReceiver}
use Rattle.mail_box.specs.declared.lane_mail.LaneHeld.{LaneHeld}
use Rattle.mail_box.specs.Mails.{HasGained, HeldView, ReceiverView, SenderView, opened_sender}

abbrev pub sender_of : LaneSender → SenderView Lanes
sender_of s = record { mailbox = arc_value s.lanes; number = s.number; nodes = (arc_value s.lanes).nodes; left = s.left; is_ended = s.ended; sent = (view s.pass).sent }

-- the senders of these lanes by number, which have sent nothing, and have so many posts left
abbrev pub AreNewSenders : Lanes → (count most : ℕ) → List LaneSender → Type 0
AreNewSenders lanes count most senders = (k : ℕ) → k < count → HoldsAt (λ s. sender_of s ≡ opened_sender lanes k lanes.nodes most) senders k

-- what a receiver's pass has taken, and what it knows to have been sent
abbrev pub got_by : Pass Item Log → List Item
got_by pass = (view pass).got

abbrev pub known_by : Pass Item Log → Option (List Item)
known_by pass = cond (view pass).sends (Some (view pass).sent) None

-- the receiver with these passes, of the mailbox with these lanes
abbrev pub receiver_at : Lanes → List (Pass Item Log) → ReceiverView Lanes
receiver_at mailbox passes =
    record {
      mailbox = mailbox;
      senders = vec_len mailbox.lanes;
      got = λ number. slice_index_or (map got_by passes) number [];
      known = λ number. slice_index_or (map known_by passes) number None;
    }

abbrev pub receiver_of : LaneReceiver → ReceiverView Lanes
receiver_of r = receiver_at (arc_value r.lanes) (vec_items r.passes)

abbrev pub held_of : LaneHeld → HeldView Lanes
held_of h = record { mailbox = h.mailbox.value; sender = h.number; item = h.item }

-- of each of these senders that was taken in, what was received is what it sent
abbrev pub IsWholeAmong : ℕ → ℕ → ReceiverView Lanes → Type 0
IsWholeAmong from to r = (number : ℕ) → from ≤ number → number < to → (sent : List Item) → r.known number ≡ Some sent → r.got number ≡ sent

-- from the first receiver to the second this item was taken
abbrev pub HasTaken : ReceiverView Lanes → ReceiverView Lanes → LaneHeld → Type 0
HasTaken old new h = HasGained old new (held_of h)
