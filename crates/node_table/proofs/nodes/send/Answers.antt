use Rattle.std.proofs.Common.{◌≡◌, ◌∙◌, ◌+◌, ◌%◌, ◌∷◌, [], w64, of_z, to_z, ap, refl, sym}
use Rattle.atomic_table.specs.Table.{Me}
use Rattle.queue_core.specs.declared.item.Item.TheVariants.{Post}
use Rattle.queue_core.specs.declared.sender.SenderPoint.TheVariants as sends
use Rattle.node_table.specs.declared.seats.Known.{Known}
use Rattle.node_table.specs.declared.seats.Known.TheVariants.{Sends}
use Rattle.node_table.specs.declared.seats.Posting.{Posting}
use Rattle.node_table.specs.Asks.{sender_in}
use Rattle.node_table.specs.Layout.{first_of, slot_of}
use Rattle.node_table.specs.Tells.{after_line_at, at_point, filling, in_slot, posting}
use Rattle.node_table.proofs.Sending.{is_sending}
use Rattle.node_table.proofs.nodes.send.Goals as goal

pub store_line-requires-clause-at : goal.store_line-requires-clause-at
store_line-requires-clause-at c =
    let at = c.requires.at in
    let item = Post c.args.line (to_z w64 (of_z w64 c.args.amount)) in
    let laid = posting c.args.mailbox item in
    let node : first_of (sender_in c.args.seat.now.me.0).shape (sender_in c.args.seat.now.me.0).number + (sender_in c.args.seat.now.me.0).caller.count % (sender_in c.args.seat.now.me.0).shape.ring ≡ c.first_of.result + c.args.count % c.args.nodes.now.shape.ring
    = λ i. (ap (λ s. first_of s (sender_in c.args.seat.now.me.0).number) at.shape_is ∙ (ap (first_of c.args.nodes.now.shape) at.number_is ∙ sym c.first_of.ensures)) i + at.count_is i % (at.shape_is i).ring in (
      c.args.mailbox,
      item,
      is_sending c.args.nodes.now.shape (sends.Line item) c.args.mailbox item _ c.load_turn.new.seat.me (filling (sends.Line item) laid (sender_in c.args.seat.now.me.0)) ((slot_of c.args.number, laid) ∷ []) c.if-not-load_turn.ensures.told
          at.shape_is refl refl at.there node,
      refl,
    )

pub finish-requires-clause-at : goal.finish-requires-clause-at
finish-requires-clause-at c =
    let at = c.requires.at in
    let item = Post c.args.line (to_z w64 (of_z w64 c.args.amount)) in
    let laid = posting c.args.mailbox item in
    let v = filling (sends.Line item) laid (sender_in c.args.seat.now.me.0) in
    let node : first_of v.shape v.number + v.caller.count % v.shape.ring ≡ c.first_of.result + c.args.count % c.args.nodes.now.shape.ring
    = λ i. (ap (λ s. first_of s v.number) at.shape_is ∙ (ap (first_of c.args.nodes.now.shape) at.number_is ∙ sym c.first_of.ensures)) i + at.count_is i % (at.shape_is i).ring in
    let now = c.store_line.ensures.told ∙ ap (λ (m : Me Posting Known). (Sends (after_line_at (sender_in m.0).caller.point (in_slot m.1) (sender_in m.0)), m.1)) c.if-not-load_turn.ensures.told in (
      item,
      is_sending c.args.nodes.now.shape (sends.Amount item) c.args.mailbox item _ c.store_line.new.seat.me (at_point (sends.Amount item) v) ((slot_of c.args.number, laid) ∷ []) now at.shape_is refl refl at.there node,
      sym c.encoded.ensures,
    )
