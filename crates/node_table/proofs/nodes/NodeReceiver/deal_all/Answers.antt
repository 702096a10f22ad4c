use Rattle.std.proofs.Common.{◌∙◌, ◌<◌, ap, arith, refl, subst, sym}
use Rattle.std.specs.Arc.{arc_value}
use Rattle.node_table.specs.declared.steps.Nodes.{Nodes}
use Rattle.node_table.proofs.nodes.NodeReceiver.deal_all.Goals as goal

pub deal_seat-seat-requires-clause-seat : goal.deal_seat-seat-requires-clause-seat
deal_seat-seat-requires-clause-seat c = c.loop-mailbox.invariant.same ∙ (c.requires.seated ∙ ap (λ (n : Nodes). n.board.shared.table_id) (sym c.deref-in-loop-mailbox.ensures))

pub deal_seat-seat-requires-clause-at : goal.deal_seat-seat-requires-clause-at
deal_seat-seat-requires-clause-at c =
    let low : c.loop-mailbox.mailbox < (arc_value c.args.nodes.now).shape.mailboxes = subst (λ (n : Nodes). c.loop-mailbox.mailbox < n.shape.mailboxes) c.deref.ensures c.loop-mailbox-test.true in
    rw c.loop-mailbox.invariant.me (record { is_tally = refl; more = omega (arith, low) })
