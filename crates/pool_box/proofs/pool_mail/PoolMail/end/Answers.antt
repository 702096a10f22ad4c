use Rattle.std.proofs.Common.{rules, ◌≡◌, ◌∙◌, ◌<◌, List, Bool, ap, arith, length, subst}
use Rattle.std.specs.Prelude.{false, slice_index_or, vec_items, vec_len}
use Rattle.queue_core.specs.declared.item.Item.TheVariants.{End}
use Rattle.node_table.specs.declared.seats.SenderSeat.{SenderSeat}
use Rattle.node_table.specs.Seats.{items_in}
use Rattle.node_table.specs.Views.{sender_of}
use Rattle.pool_box.proofs.PoolEnds.{ended_put, items_put}
use Rattle.pool_box.proofs.pool_mail.PoolMail.end.Goals as goal

pub returns : goal.returns
returns c =
    let was : SenderSeat = sender_of c.args.s.now.sender in
    let told = c.end.ensures.ended in
    let flags = c.args.s.now.flags in
    let long : length (vec_items c.args.s.now.ended) ≡ vec_len c.args.s.now.ended = search rules in
    let low : c.args.mailbox < length was.ended = subst (λ (xs : List Bool). c.args.mailbox < length xs) flags.0 (omega (arith, long, flags.1, c.requires.mailbox)) in
    λ i. record {
      pool = c.end.ensures.same i;
      mailboxes = (told i).shape.mailboxes;
      number = (told i).number;
      nodes = (told i).shape.ring;
      left = c.args.s.now.left;
      posted = (told i).caller.count;
      is_ended = λ b. (ap (λ (v : SenderSeat). slice_index_or v.ended b false) told ∙ ended_put c.args.mailbox was.ended low b false) i;
      sent = λ b. (ap (λ (v : SenderSeat). items_in b v.filled) told ∙ items_put c.args.mailbox End was.filled b) i;
    }
