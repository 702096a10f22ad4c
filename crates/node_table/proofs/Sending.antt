-- A sender in its call, by what its seat knows.
use Rattle.std.proofs.Common.{◌≡◌, ◌∙◌, ◌<◌, ℕ, List, ap, sym}
use Rattle.atomic_table.specs.Table.{Me}
use Rattle.queue_core.specs.declared.item.Item.{Item}
use Rattle.queue_core.specs.declared.sender.SenderPoint.{SenderPoint}
use Rattle.node_table.specs.declared.seats.Known.{Known}
use Rattle.node_table.specs.declared.seats.Known.TheVariants.{Sends}
use Rattle.node_table.specs.declared.seats.Posting.{Posting}
use Rattle.node_table.specs.declared.seats.SenderSeat.{SenderSeat}
use Rattle.node_table.specs.declared.seats.Shape.{Shape}
use Rattle.node_table.specs.Asks.{IsSending, sender_in}
use Rattle.node_table.specs.Tells.{node_of}

pub is_sending : (shape : Shape) (point : SenderPoint) (mailbox : ℕ) (item : Item) (node : ℕ) (me : Me Posting Known) (v : SenderSeat) (slots : List (ℕ × Posting)) → me ≡ (Sends v, slots)
    → v.shape ≡ shape → v.caller.point ≡ point → v.caller.mailbox ≡ mailbox → mailbox < shape.mailboxes → node_of v mailbox item ≡ node → IsSending shape point mailbox item node me
is_sending shape point mailbox item node me v slots e shape_is at mailbox_is there node_is = record {
  is = e ∙ ap (λ (m : Me Posting Known). (Sends (sender_in m.0), m.1)) (sym e);
  shape_is = ap (λ (m : Me Posting Known). (sender_in m.0).shape) e ∙ shape_is;
  at = ap (λ (m : Me Posting Known). (sender_in m.0).caller.point) e ∙ at;
  mailbox_is = ap (λ (m : Me Posting Known). (sender_in m.0).caller.mailbox) e ∙ mailbox_is;
  there = there;
  node_is = ap (λ (m : Me Posting Known). node_of (sender_in m.0) mailbox item) e ∙ node_is;
}
