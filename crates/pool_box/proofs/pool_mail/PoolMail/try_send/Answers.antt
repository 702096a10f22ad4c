use Rattle.std.proofs.Common.{◌≡◌, ◌∙◌, ◌-◌, w64, of_z, to_z, ap}
use Rattle.std.specs.Prelude.{false, slice_index_or}
use Rattle.std.proofs.lemmas.Int.{to_z-of_z}
use Rattle.queue_core.specs.declared.item.Item.TheVariants.{Post}
use Rattle.node_table.specs.declared.seats.SenderSeat.{SenderSeat}
use Rattle.node_table.specs.Seats.{items_in}
use Rattle.node_table.specs.Views.{sender_of}
use Rattle.pool_box.proofs.PoolEnds.{items_put}
use Rattle.pool_box.proofs.pool_mail.PoolMail.try_send.Goals as goal

pub returns-in-Sent : goal.returns-in-Sent
returns-in-Sent c =
    let same : to_z w64 (of_z w64 c.args.amount) ≡ c.args.amount = to_z-of_z w64 c.args.amount c.ranges.amount in
    let was : SenderSeat = sender_of c.args.s.now.sender in
    let told = rw same at c.in-Sent.ensures.posted in
    λ i. record {
      pool = c.in-Sent.ensures.same i;
      mailboxes = (told i).shape.mailboxes;
      number = (told i).number;
      nodes = (told i).shape.ring;
      left = c.args.s.now.left - 1;
      posted = (told i).caller.count;
      is_ended = λ b. slice_index_or (told i).ended b false;
      sent = λ b. (ap (λ (v : SenderSeat). items_in b v.filled) told ∙ items_put c.args.mailbox (Post c.args.line c.args.amount) was.filled b) i;
    }
