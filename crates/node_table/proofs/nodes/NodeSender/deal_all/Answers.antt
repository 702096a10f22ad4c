use Rattle.std.proofs.Common.{rules, ◌∙◌, ◌<◌, ap, arith, refl, subst, sym}
use Rattle.std.specs.Arc.{arc_value}
use Rattle.node_table.specs.declared.steps.Nodes.{Nodes}
use Rattle.node_table.proofs.nodes.NodeSender.deal_all.Goals as goal

pub loop-number-init : goal.loop-number-init
loop-number-init c = record { me = c.requires.me; same = refl; count = search rules; opened = λ k below. absurd (omega (arith, below)) }

pub deal_seat-seat-requires-clause-seat : goal.deal_seat-seat-requires-clause-seat
deal_seat-seat-requires-clause-seat c = c.loop-number.invariant.same ∙ (c.requires.seated ∙ ap (λ (n : Nodes). n.board.shared.table_id) (sym c.deref-in-loop-number.ensures))

pub deal_seat-seat-requires-clause-at : goal.deal_seat-seat-requires-clause-at
deal_seat-seat-requires-clause-at c =
    let low : c.loop-number.number < (arc_value c.args.nodes.now).shape.senders = subst (λ (n : Nodes). c.loop-number.number < n.shape.senders) c.deref.ensures c.loop-number-test.true in
    rw c.loop-number.invariant.me (record { is_tally = refl; more = omega (arith, low) })
